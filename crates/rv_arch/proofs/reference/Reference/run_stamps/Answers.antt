use Rattle.std.proofs.Common.{[], ◌∷◌, ◌++◌, ap, get_or}
use Rattle.std.proofs.lemmas.List.{take_more}
use Rattle.rv_arch.specs.Run.{is_stale}
use Rattle.rv_arch.proofs.RunInvariants.{steps_by, went_nowhere, went_more}
use Rattle.rv_arch.proofs.RunInvariants.{went_to_stale, again_stale, lines_after_step}
use Rattle.rv_arch.proofs.Steps.{not_stale}
use Rattle.rv_arch.proofs.reference.Reference.run_stamps.Goals as goal

pub loop-taken-init : goal.loop-taken-init
loop-taken-init c = ([], went_nowhere _ _)

pub loop-taken-preserved : goal.loop-taken-preserved
loop-taken-preserved c =
    let stamp = get_or c.args.stamps.now c.loop-taken.taken 0 in
    let now = steps_by c.args.arrivals.now stamp c.loop-taken.self c.step.new.self c.at.ensures c.step.ensures.step
    c.step.ensures.layout c.step.ensures.lines in
    let went = went_more c.loop-taken.invariant.1 now (not_stale _ c.in_default.not-Stale) in (
      c.loop-taken.invariant.0 ++ c.step.result ∷ [],
      rw (take_more c.args.stamps.now c.loop-taken.taken 0 c.loop-taken-test.true) went,
    )

pub returns-in-Stale-clause-run : goal.returns-in-Stale-clause-run
returns-in-Stale-clause-run c =
    let stamp = get_or c.args.stamps.now c.loop-taken.taken 0 in
    let now = steps_by c.args.arrivals.now stamp c.loop-taken.self c.step.new.self c.at.ensures c.step.ensures.step
    c.step.ensures.layout c.step.ensures.lines in
    (c.loop-taken.invariant.0, went_to_stale c.loop-taken.invariant.1 now (ap is_stale c.in-Stale.is))

pub returns-in-Stale-clause-ends_before_stale : goal.returns-in-Stale-clause-ends_before_stale
returns-in-Stale-clause-ends_before_stale c =
    let stamp = get_or c.args.stamps.now c.loop-taken.taken 0 in
    let now = steps_by c.args.arrivals.now stamp c.loop-taken.self c.step.new.self c.at.ensures c.step.ensures.step
    c.step.ensures.layout c.step.ensures.lines in
    λ _. again_stale c.loop-taken.invariant.1 now (ap is_stale c.in-Stale.is)

pub returns-in-Stale-clause-lines : goal.returns-in-Stale-clause-lines
returns-in-Stale-clause-lines c =
    let stamp = get_or c.args.stamps.now c.loop-taken.taken 0 in
    let now = steps_by c.args.arrivals.now stamp c.loop-taken.self c.step.new.self c.at.ensures c.step.ensures.step
    c.step.ensures.layout c.step.ensures.lines in
    rw (take_more c.args.stamps.now c.loop-taken.taken 0 c.loop-taken-test.true)
    (lines_after_step c.loop-taken.invariant.1 now)
