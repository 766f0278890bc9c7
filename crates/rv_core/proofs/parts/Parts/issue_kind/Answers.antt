use Rattle.rv_core.proofs.Words.{◌+◌, ◌-◌, is_some, sym, ap, ◌∙◌, arith, issue_kind, issue_turn, turn_of}
use Rattle.rv_core.proofs.Issued.Parts.{turn_empty}
use Rattle.rv_core.proofs.Phases.Turned.{turned-ends, turned-goes, turned-none}
use Rattle.rv_core.proofs.parts.Parts.issue_kind.Goals as goal

pub returns-then-is_empty : goal.returns-then-is_empty
returns-then-is_empty c = grind (arith, turn_empty, turned-none)

pub returns-in_default : goal.returns-in_default
returns-in_default c =
    let ends = sym c.issue_one.ensures.turn ∙ ap (λ o. turn_of (is_some o) c.issue_one.new.self) c.in_default.is in
    turned-ends (issue_turn c.args.kind) (issue_kind c.args.kind c.args.self.now)
    (c.get.result.now.units - c.loop.counter) c.loop.self c.issue_one.new.self
    (omega (arith, c.loop-test.true)) c.loop.invariant.0 ends

pub loop-preserved : goal.loop-preserved
loop-preserved c =
    let goes = sym c.issue_one.ensures.turn ∙ ap (λ o. turn_of (is_some o) c.issue_one.new.self) c.in-Some.is in (
      turned-goes (issue_turn c.args.kind) (issue_kind c.args.kind c.args.self.now)
          (c.get.result.now.units - c.loop.counter)
          (c.get.result.now.units - (c.loop.counter + 1)) c.loop.self c.issue_one.new.self
          (omega (arith, c.loop-test.true)) c.loop.invariant.0 goes,
      rw c.in-Some.is at c.issue_one.ensures.passed,
    )
