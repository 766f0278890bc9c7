use Rattle.rv_core.proofs.Words.{◌≡◌, ◌+◌, ◌-◌, ◌<◌, Some, sym, ap, ◌∙◌, subst, arith, Committing, commit}
use Rattle.rv_core.proofs.Words.{commit_unless, Hardware, and_step, committing, turn_left}
use Rattle.std.specs.FinSet as set
use Rattle.rv_core.specs.Steps.{Takes}
use Rattle.rv_core.proofs.Retired.Loop.{none_committed, committed_all, committed_whole, committed_more, has_room}
use Rattle.rv_core.proofs.Retired.Loop.{interrupted, steps_with}
use Rattle.rv_core.proofs.Retired.Taught.{taught_at_end, teaching_begins, teaching_goes}
use Rattle.rv_core.proofs.parts.Parts.commit.Goals as goal
use Rattle.rv_core.proofs.parts.Parts.commit.Goals.{After-loop, In-Some, In-Ends}
use Rattle.rv_core.proofs.parts.Parts.commit.Given.{Over}

pub loop-init : goal.loop-init
unfolding none_committed
loop-init g c = (
  none_committed c.args.self.now c.args.steps.now (c.self.inside.values.commit_width - 0)
      (omega (arith, ap (λ (h : Hardware). h.values.commit_width) c.self.view_is))
      (sym c.due_interrupt.ensures.due ∙ c.in_default.is),
  teaching_begins c.args.self.now _ c.requires.reached (sym c.due_interrupt.ensures.due ∙ c.in_default.is),
)

taken : (g : Over) (c : In-Some g) →
    commit_unless set.contains (Some c.in-Some.code) c.args.self.now ≡ commit set.contains c.args.self.now
taken g c = interrupted c.args.self.now c.in-Some.code (sym c.in-Some.is ∙ c.due_interrupt.ensures.due)

-- a turn that ends the phase leaves what the definition leaves
ends : (g : Over) (c : In-Ends g) →
    record {
      hardware = c.commit_head.new.self;
      steps = and_step c.loop.invariant.0.steps c.commit_head.ensures.turn.step;
      stop = c.in-Ends.stop;
    } ≡ commit set.contains c.args.self.now
ends g c =
    committed_whole c.args.self.now c.loop.self c.args.steps.now c.loop.steps c.loop.counter
    (c.self.inside.values.commit_width - c.loop.counter) c.loop.invariant.0 c.commit_head.ensures.turn.step
    c.commit_head.result c.commit_head.new.self _ (omega (arith, c.loop-test.true)) c.commit_head.ensures.turn.left
    (ap (turn_left c.commit_head.new.self c.loop.invariant.0.steps c.commit_head.ensures.turn.step) c.in-Ends.is)

pub returns-in-Ends-clause-hardware : goal.returns-in-Ends-clause-hardware
returns-in-Ends-clause-hardware g c =
    ap (λ (x : Committing). x.hardware) (ends g (goal.at.returns-in-Ends-clause-hardware g c).In-Ends)

pub returns-in-Ends-clause-steps : goal.returns-in-Ends-clause-steps
returns-in-Ends-clause-steps g c =
    subst (Takes c.args.steps.now _)
    (ap (λ (x : Committing). x.steps) (ends g (goal.at.returns-in-Ends-clause-steps g c).In-Ends))
    (steps_with c.args.steps.now c.loop.steps c.commit_head.new.steps c.loop.invariant.0.steps
    c.commit_head.ensures.turn.step c.loop.invariant.0.taken c.commit_head.ensures.turn.taken)

pub returns-in-Ends-clause-stop : goal.returns-in-Ends-clause-stop
returns-in-Ends-clause-stop g c =
    ap (λ (x : Committing). x.stop) (ends g (goal.at.returns-in-Ends-clause-stop g c).In-Ends)

pub returns-in-Ends-clause-taught : goal.returns-in-Ends-clause-taught
returns-in-Ends-clause-taught g c =
    taught_at_end c.args.self.now c.loop.self c.loop.invariant.0.steps _ _ c.loop.invariant.1
    c.commit_head.ensures.turn.step c.commit_head.result
    c.commit_head.new.self (c.commit_head.ensures.turn.left c.loop.invariant.0.steps) c.in-Ends.stop _ c.in-Ends.is
    c.commit_head.ensures.turn.learns (commit set.contains c.args.self.now).steps
    (ap (λ (x : Committing). x.steps) (ends g (goal.at.returns-in-Ends-clause-taught g c).In-Ends))

-- all turns of the phase leave what the definition leaves
turned : (g : Over) (c : After-loop g) → committing c.loop.self c.loop.invariant.0.steps
    ≡ commit set.contains c.args.self.now
turned g c = grind (arith, committed_all)

pub loop-preserved : goal.loop-preserved
unfolding committed_more
loop-preserved g c = (
  committed_more c.args.self.now c.loop.self c.args.steps.now c.loop.steps c.commit_head.new.steps
      c.loop.counter
      (c.self.inside.values.commit_width - c.loop.counter)
      (c.self.inside.values.commit_width - (c.loop.counter + 1)) c.loop.invariant.0 c.commit_head.ensures.turn.step
      c.commit_head.result c.commit_head.new.self
      (omega (arith, c.loop-test.true)) c.commit_head.ensures.turn.left c.in-GoesOn.is
      c.commit_head.ensures.kept c.commit_head.ensures.turn.taken,
  teaching_goes c.args.self.now c.loop.self c.loop.invariant.0.steps _ _ c.loop.invariant.1
      c.commit_head.ensures.turn.step c.commit_head.result
      c.commit_head.new.self (c.commit_head.ensures.turn.left c.loop.invariant.0.steps) _ c.in-GoesOn.is
      c.commit_head.ensures.turn.learns,
)

pub commit_head-requires-clause-room : goal.commit_head-requires-clause-room
commit_head-requires-clause-room g c =
    let few : c.loop.counter < 8 =
    omega (arith, c.loop-test.true, c.self.invariant.sound.legal.pipeline.commit_width) in
    has_room c.loop.invariant.0 few c.requires.room
