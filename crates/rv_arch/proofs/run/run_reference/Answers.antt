use Rattle.std.proofs.Common.{refl, sym, arith}
use Rattle.rv_arch.proofs.RunInvariants.{steps_by, counted_none, counted_more, counted_to_stale}
use Rattle.rv_arch.proofs.RunInvariants.{counted_to_breakpoint, counted_to_limit}
use Rattle.rv_arch.proofs.Steps.{not_stale}
use Rattle.rv_arch.proofs.run.run_reference.Goals as goal

pub loop-stamp-init : goal.loop-stamp-init
loop-stamp-init c = counted_none _ _ _ refl

pub loop-stamp-preserved : goal.loop-stamp-preserved
loop-stamp-preserved c =
    let now = steps_by c.args.arrivals.now c.loop-stamp.stamp c.loop-stamp.reference c.step-step.new.self c.at.ensures
    c.step-step.ensures.step c.step-step.ensures.layout c.step-step.ensures.lines in
    counted_more c.loop-stamp.invariant now (not_stale _ c.in_default.not-Stale)
    (record {
      steps = c.count.ensures.steps;
      retired = c.count.ensures.retired;
      traps = c.count.ensures.traps;
      interrupts = c.count.ensures.interrupts;
    }) c.count.ensures.stop (sym c.if-is_breakpoint.ensures)

pub returns-in-Stale : goal.returns-in-Stale
returns-in-Stale c =
    let now = steps_by c.args.arrivals.now c.loop-stamp.stamp c.loop-stamp.reference c.step-step.new.self c.at.ensures
    c.step-step.ensures.step c.step-step.ensures.layout c.step-step.ensures.lines in
    counted_to_stale c.loop-stamp.invariant now c.args.limit c.in-Stale.pc c.loop-stamp-test.true c.in-Stale.is

pub returns-then-is_breakpoint : goal.returns-then-is_breakpoint
returns-then-is_breakpoint c =
    let now = steps_by c.args.arrivals.now c.loop-stamp.stamp c.loop-stamp.reference c.step-step.new.self c.at.ensures
    c.step-step.ensures.step c.step-step.ensures.layout c.step-step.ensures.lines in
    counted_to_breakpoint {counts' = c.count.new.self} c.loop-stamp.invariant now c.args.limit c.loop-stamp-test.true
    (not_stale _ c.in_default.not-Stale)
    (record {
      steps = c.count.ensures.steps;
      retired = c.count.ensures.retired;
      traps = c.count.ensures.traps;
      interrupts = c.count.ensures.interrupts;
    }) (sym c.if-is_breakpoint.ensures)

pub returns : goal.returns
returns c = counted_to_limit c.loop-stamp.invariant c.args.limit (omega arith) (omega arith)
