use Rattle.rv_core.proofs.Words.{◌≡◌, ◌-◌, Some, ap, ◌∙◌, arith, dispatch, dispatch_turn, Dispatching, stall_of}
use Rattle.rv_core.proofs.Words.{dispatch_left, dispatching}
use Rattle.rv_core.proofs.Phases.Turned.{turned-ends, turned-goes}
use Rattle.rv_core.proofs.parts.Parts.dispatch.Goals as goal
use Rattle.rv_core.proofs.parts.Parts.dispatch.Goals.{After-reason_for}

-- a turn that ends the phase leaves what the definition leaves
ended : (c : After-reason_for) →
    record {
      hardware = c.dispatch_one.new.self;
      dispatched = c.loop-dispatched.dispatched;
      waits_for = Some c.in-Some.stall;
    }
    ≡ dispatch c.args.self.now
ended c =
    turned-ends dispatch_turn (dispatch c.args.self.now) (c.self.inside.values.dispatch_width
    - c.loop-dispatched.dispatched)
    (dispatching c.loop-dispatched.self c.loop-dispatched.dispatched) _
    (omega (arith, c.loop-dispatched-test.true)) c.loop-dispatched.invariant
    (c.dispatch_one.ensures c.loop-dispatched.dispatched
    ∙ ap (λ r. dispatch_left r c.dispatch_one.new.self c.loop-dispatched.dispatched) c.in-Some.is)

pub returns-in-Some-clause-hardware : goal.returns-in-Some-clause-hardware
returns-in-Some-clause-hardware c =
    ap (λ (d : Dispatching). d.hardware) (ended (goal.at.returns-in-Some-clause-hardware c).After-reason_for)

pub returns-in-Some-clause-dispatched : goal.returns-in-Some-clause-dispatched
returns-in-Some-clause-dispatched c =
    ap (λ (d : Dispatching). d.dispatched) (ended (goal.at.returns-in-Some-clause-dispatched c).After-reason_for)

pub returns-in-Some-clause-stall : goal.returns-in-Some-clause-stall
returns-in-Some-clause-stall c =
    c.reason_for.ensures c.dispatch_one.new.self
    ∙ ap stall_of (ended (goal.at.returns-in-Some-clause-stall c).After-reason_for)

pub loop-dispatched-preserved : goal.loop-dispatched-preserved
loop-dispatched-preserved c = grind (arith, dispatch_left, turned-goes, dispatch)
