-- What the turns of the commit phase have taken, with what is still to come, is the definition's commit phase.
use Rattle.rv_core.proofs.Words.{◌≡◌, ℕ, ◌+◌, ◌<◌, ◌≤◌, List, [], ◌++◌, length, Some, None, Option, sym, refl, ap}
use Rattle.rv_core.proofs.Words.{subst, ◌∙◌, append-nil, arith, length-append, due, Committing, commit, commit_turn}
use Rattle.rv_core.proofs.Words.{commit_unless, Hardware, Ends, repeated, Step, IsKept, and_step, committing, turn_left}
use Rattle.rv_core.proofs.Words.{HeadTurn}
use Rattle.std.specs.FinSet as set
use Rattle.rv_core.specs.HeadTurn.{step_taken}
use Rattle.rv_core.specs.Steps.{HasRoom, Takes}
use Rattle.rv_core.specs.declared.steps.Steps.{Steps}
use Rattle.rv_core.proofs.Taken.{room_left, takes_more, takes_none}
use Rattle.rv_core.proofs.Phases.Turned.{turned-ends, turned-goes}
use Rattle.rv_core.specs.declared.head.HeadTurn.TheVariants.{GoesOn}

-- after some turns, with others left to come: these lead to what all of them lead to
pub record AreCommitted (start h : Hardware) (old new : Steps) (done left : ℕ) : Type 0 where
  pub steps : List Step
  pub taken : Takes old new steps
  pub few : length steps ≤ done
  pub to_come : repeated (commit_turn set.contains) left (committing h steps) ≡ commit set.contains start
  pub values : h.values ≡ start.values
  pub cycle : h.cycle ≡ start.cycle
  pub retired : h.rob.retired ≤ start.rob.retired + done

-- an interrupt that is due is all that the phase does
pub interrupted : (h : Hardware) (code : ℕ) → Some code ≡ due h.csrs h.lines →
    commit_unless set.contains (Some code) h ≡ commit set.contains h
interrupted h code is = ap (λ (o : Option ℕ). commit_unless set.contains o h) is

-- before the first turn, where no interrupt is due
unfoldable pub none_committed : (h : Hardware) (old : Steps) (width : ℕ) → width ≡ h.values.commit_width →
    due h.csrs h.lines ≡ None →
    AreCommitted h h old old 0 width
none_committed h old width is undisturbed = record {
  steps = [];
  taken = takes_none old;
  few = omega arith;
  to_come =
      ap (λ n. repeated (commit_turn set.contains) n (committing h [])) is
      ∙ ap (λ (o : Option ℕ). commit_unless set.contains o h) (sym undisturbed);
  values = refl;
  cycle = refl;
  retired = omega arith;
}

-- a turn that ends the phase
pub committed_whole : (start h : Hardware) (old new : Steps) (done left : ℕ)
    (before : AreCommitted start h old new done left)
    (step : Option Step) (turn : HeadTurn) (next : Hardware) (last : Committing) → 0 < left →
    ((steps : List Step) → commit_turn set.contains (committing h steps) ≡ turn_left next steps step turn) →
    turn_left next before.steps step turn ≡ Ends last →
    last ≡ commit set.contains start
committed_whole start h old new done left before step turn next last some is ends = grind (arith, turned-ends, commit)

-- the step of a turn comes last
taken_last : (steps : List Step) (step : Option Step) → steps ++ step_taken step ≡ and_step steps step
taken_last steps None = append-nil steps
taken_last steps (Some step) = refl

-- the steps with those that were there before
pub steps_with : (old before new : Steps) (so_far : List Step) (step : Option Step) → Takes old before so_far →
    Takes before new (step_taken step) →
    Takes old new (and_step so_far step)
steps_with old before new so_far step taken more =
    subst (Takes old new) (taken_last so_far step) (takes_more so_far (step_taken step) taken more)

-- a turn takes one step at most
pub few_with : (steps : List Step) (step : Option Step) (done : ℕ) → length steps ≤ done →
    length (and_step steps step) ≤ done + 1
few_with steps step done few = grind (arith, length-append)

-- a turn after which the phase goes on
unfoldable pub committed_more : (start h : Hardware) (old new more : Steps) (done left rest : ℕ)
    (before : AreCommitted start h old new done left)
    (step : Option Step) (turn : HeadTurn) (next : Hardware) → left ≡ rest + 1 →
    ((steps : List Step) → commit_turn set.contains (committing h steps) ≡ turn_left next steps step turn) →
    turn ≡ GoesOn →
    IsKept h next → Takes new more (step_taken step) → AreCommitted start next old more (done + 1) rest
committed_more start h old new more done left rest before step turn next another is goes kept takes = record {
  steps = and_step before.steps step;
  taken = steps_with old new more before.steps step before.taken takes;
  few = few_with before.steps step done before.few;
  to_come =
      turned-goes (commit_turn set.contains) (commit set.contains start) left rest (committing h before.steps)
      (committing next (and_step before.steps step))
      another before.to_come (is before.steps ∙ ap (turn_left next before.steps step) goes);
  values = kept.values ∙ before.values;
  cycle = kept.cycle ∙ before.cycle;
  retired = omega (arith, kept.retired, before.retired);
}

-- after all turns
pub committed_all : (start h : Hardware) (old new : Steps) (done left : ℕ)
    (before : AreCommitted start h old new done left) →
    left ≡ 0 → committing h before.steps ≡ commit set.contains start
committed_all start h old new done left before none =
    ap (λ n. repeated (commit_turn set.contains) n (committing h before.steps)) (sym none) ∙ before.to_come

-- before a further turn of a width of eight at most, one more instruction can be counted, and one more step has room
module _ {start h : Hardware} {old new : Steps} {done left : ℕ} (before : AreCommitted start h old new done left)
    (few : done < 8) where
  -- room for eight steps before the phase leaves room for one now
  pub has_room : HasRoom old 8 → HasRoom new 1
  has_room enough = room_left before.taken enough (omega (arith, before.few, few))
