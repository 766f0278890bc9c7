-- What the commit phase teaches the predictor, turn by turn, is what its steps' lessons teach.
use Rattle.std.proofs.Common.{arith}
use Rattle.rv_core.proofs.Words.{◌≡◌, ℕ, List, [], ◌∷◌, ◌++◌, None, Option, sym, refl, ap, ◌∙◌, subst, append-nil}
use Rattle.rv_core.proofs.Words.{Lines, due, State, Committing, commit_turn, commit_with, execute, with_lines, Hardware}
use Rattle.rv_core.proofs.Words.{GoesOn, Turn, Reachable, seen, pc_of, Leads as LeavesEither, AreTaught, Guide}
use Rattle.rv_core.proofs.Words.{lesson_of, lessons_of, Step, and_step, committing, lessons_left, turn_left, IsBegun}
use Rattle.rv_core.proofs.Words.{HeadTurn, Some}
use Rattle.std.specs.FinSet as set
use Rattle.std.proofs.lemmas.List.Sums.{fold-append}
use Rattle.rv_hardware.proofs.Headline.Commit.{IsDone, IsGoing, begins_going, commit_done, turn_done}
use Rattle.rv_hardware.proofs.Headline.Cycle.{always_sound, execute_kept, lines_sound}
use Rattle.rv_hardware.proofs.Headline.Invariant.{IsSound}
use Rattle.rv_hardware.proofs.Headline.Turn.{GoesFrom, turn_goes_from}
use Rattle.rv_arch.specs.declared.outcome.Stop.{Stop}
use Rattle.rv_core.specs.declared.head.HeadTurn.TheVariants as head

-- the lessons of one step more: those before it went on at it
lessons_push : (steps : List Step) (s : Step) (next : ℕ) →
    lessons_of (steps ++ s ∷ []) next ≡ lessons_of steps (pc_of s) ++ lesson_of s next
lessons_push [] s next = append-nil (lesson_of s next)
lessons_push (x ∷ steps) s next = grind (arith, lessons_push steps s next)

-- no lessons teach nothing
pub none_taught : (old : Guide) → AreTaught old [] old
none_taught old = refl

-- the lessons of one step more, after those before it
taught_more : (old now new : Guide) (steps : List Step) (s : Step) (pc next : ℕ) →
    AreTaught old (lessons_of steps pc) now → pc_of s ≡ pc →
    AreTaught now (lesson_of s next) new → AreTaught old (lessons_of (steps ++ s ∷ []) next) new
taught_more old now new steps s pc next so_far here more = grind (arith, lessons_push, fold-append)

-- the phase while it goes on, and what the predictor has been taught of its steps
pub record AreTeaching (start h : Hardware) (steps : List Step) (old now : Guide) : Type 0 where
  pub going : IsGoing start.lines (seen start) start (committing h steps)
  pub taught : AreTaught old (lessons_of steps h.pc) now

sound_begun : (h : Hardware) → IsBegun h → IsSound h
sound_begun h begun = subst IsSound (sym begun.begun)
    (lines_sound begun.lines begun.before (always_sound begun.reached))

-- before the first turn
pub teaching_begins : (h : Hardware) (now : Guide) → IsBegun h → due h.csrs h.lines ≡ None →
    AreTeaching h h [] now now
teaching_begins h now begun calm = record {
  going = begins_going h (sound_begun h begun) calm;
  taught = none_taught now;
}

-- a lesson with the pc that the program went on at
pub learns_at : (old new : Guide) (step : Option Step) (pc next : ℕ) → pc ≡ next →
    AreTaught old (lessons_left step pc) new → AreTaught old (lessons_left step next) new
learns_at old new step pc next is learned = subst (λ n. AreTaught old (lessons_left step n) new) is learned

-- the lesson of a turn after those before it
taught_on : (old now new : Guide) (c d : Committing) (step : Option Step) → GoesFrom c d →
    d.steps ≡ and_step c.steps step → AreTaught old (lessons_of c.steps c.hardware.pc) now →
    AreTaught now (lessons_left step d.hardware.pc) new →
    AreTaught old (lessons_of (and_step c.steps step) d.hardware.pc) new
taught_on old now new c d None goes same so_far more = grind arith
taught_on old now new c d (Some s) goes same so_far more =
    taught_more old now new c.steps s c.hardware.pc d.hardware.pc so_far (goes.begins s same) more

module _ (start h : Hardware) (steps : List Step) (old now : Guide)
    (so_far : AreTeaching start h steps old now)
    (step : Option Step) (turn : HeadTurn) (next : Hardware)
    (is : commit_turn set.contains (committing h steps) ≡ turn_left next steps step turn) where
  abbrev Left : Turn Committing → Type 0
  Left = LeavesEither (GoesFrom (committing h steps)) (GoesFrom (committing h steps))

  left : Left (turn_left next steps step turn)
  left = subst Left is (turn_goes_from (committing h steps) so_far.going.sound)

  -- a turn after which the phase goes on
  pub teaching_goes : (new : Guide) → turn ≡ head.GoesOn →
      AreTaught now (lessons_left step next.pc) new → AreTeaching start next (and_step steps step) old new
  teaching_goes new goes more =
      let goes_on : turn_left next steps step turn ≡ GoesOn (committing next (and_step steps step)) =
      ap (turn_left next steps step) goes in
      let Going = IsGoing start.lines (seen start) start in
      let Done = IsDone start.lines (seen start) start in
      record {
        going = subst (LeavesEither Going Done) (is ∙ goes_on)
            (turn_done start.lines (seen start) start (committing h steps) h.rob.entries refl so_far.going);
        taught = taught_on old now new (committing h steps) (committing next (and_step steps step)) step
            (subst Left goes_on left) refl so_far.taught more;
      }

  -- a turn that ends the phase
  pub taught_at_end : (why : Option Stop) (new : Guide) → turn ≡ head.Ends why →
      AreTaught now (lessons_left step next.pc) new → (all : List Step) → and_step steps step ≡ all →
      AreTaught old (lessons_of all next.pc) new
  taught_at_end why new ends more all is_all =
      subst (λ l. AreTaught old (lessons_of l next.pc) new) is_all
      (taught_on old now new (committing h steps)
      (record { hardware = next; steps = and_step steps step; stop = why }) step
      (subst Left (ap (turn_left next steps step) ends) left) refl so_far.taught more)

-- ---- the whole cycle
-- the phases after commit leave the committed pc
pub executed_here : (lines : Lines) (old committed : Hardware) → Reachable old →
    committed ≡ (commit_with set.contains lines old).hardware → (execute committed).hardware.pc ≡ committed.pc
executed_here lines old committed reached is =
    let done : IsDone lines (seen old) (with_lines lines old) (commit_with set.contains lines old) =
    commit_done (with_lines lines old) (lines_sound lines old (always_sound reached)) in
    let sound : IsSound committed = subst IsSound (sym is) done.sound in
    ap (λ (s : State). s.pc)
    (execute_kept committed.values committed.cycle (seen committed) committed
    (record { values_are = refl; cycle_is = refl; sees = refl; sound = sound })).sees

-- lessons of the same steps, to the same pc
pub taught_as : (old new : Guide) (steps done : List Step) (pc next : ℕ) → steps ≡ done → pc ≡ next →
    AreTaught old (lessons_of steps pc) new → AreTaught old (lessons_of done next) new
taught_as old new steps done pc next same here taught = grind arith
