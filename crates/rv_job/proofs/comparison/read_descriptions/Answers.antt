use Rattle.std.proofs.Common.{◌≡◌, length, sym, subst, rules}
use Rattle.rv_job.specs.Comparison.{IsAfter, RefusesDescriptions}
use Rattle.rv_job.proofs.Compared.{renumbered}
use Rattle.rv_job.proofs.HandedOn.{refused_on}
use Rattle.rv_job.proofs.HalvesShorter.{after_shorter}
use Rattle.rv_job.proofs.comparison.read_descriptions.Goals as goal

pub loop-halves-init : goal.loop-halves-init
loop-halves-init c =
    subst (λ machines. IsAfter c.args.text.now machines c.args.text.now)
    (sym c.new-descriptions.ensures.items) IsAfter.nothing

pub returns-in_err-description-clause-refused : goal.returns-in_err-description-clause-refused
returns-in_err-description-clause-refused c =
    let number : c.len-number.result ≡ length c.loop-halves.descriptions.items = search rules in
    refused_on (RefusesDescriptions c.args.text.now) _ _ c.from_residual.ensures.1
    (RefusesDescriptions.at c.loop-halves.invariant (sym c.in-Some.ensures)
    (renumbered _ _ _ _ number c.in_err-description.ensures.refused))

pub returns-in_default-push-clause-refused : goal.returns-in_default-push-clause-refused
returns-in_default-push-clause-refused c = RefusesDescriptions.memory

pub loop-halves-smaller : goal.loop-halves-smaller
loop-halves-smaller c = after_shorter _ _ (sym c.in-Some.ensures)

pub loop-halves-preserved : goal.loop-halves-preserved
loop-halves-preserved c =
    subst (λ machines. IsAfter c.args.text.now machines c.in-Some.halves.after.now) (sym c.in-Ok.ensures.items)
    (IsAfter.another c.loop-halves.invariant (sym c.in-Some.ensures) c.in_ok-description.ensures.machine)
