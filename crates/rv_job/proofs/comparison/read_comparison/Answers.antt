use Rattle.std.proofs.Common.{subst, arith, ◌∙◌, sym}
use Rattle.std.proofs.lemmas.Bool.{ltb-false, ltb-true}
use Rattle.rv_job.specs.Comparison.{RefusesComparison, RefusesDescriptions, RefusesLoading, most_machines}
use Rattle.rv_job.specs.Comparison.{separator_count}
use Rattle.rv_job.proofs.SeparatorCount.{jobs_few}
use Rattle.rv_job.proofs.HandedOn.{refused_on}
use Rattle.rv_job.proofs.comparison.read_comparison.Goals as goal

pub returns-then-text-gt-MOST_BYTES-clause-refused : goal.returns-then-text-gt-MOST_BYTES-clause-refused
returns-then-text-gt-MOST_BYTES-clause-refused c = RefusesComparison.too_long c.if-text-gt-MOST_BYTES.true

pub returns-then-has_too_many-clause-refused : goal.returns-then-has_too_many-clause-refused
returns-then-has_too_many-clause-refused c =
    RefusesComparison.too_many (omega (arith, c.if-text-gt-MOST_BYTES.false))
    (ltb-true most_machines (separator_count c.args.text.now) (sym c.has_too_many.ensures ∙ c.if-has_too_many.true))

pub returns-in_err-descriptions-clause-refused : goal.returns-in_err-descriptions-clause-refused
returns-in_err-descriptions-clause-refused c =
    refused_on (RefusesComparison c.args.text.now) _ _ c.from_residual.ensures.1
    (RefusesComparison.descriptions (omega (arith, c.if-text-gt-MOST_BYTES.false))
    (ltb-false most_machines (separator_count c.args.text.now) (sym c.has_too_many.ensures ∙ c.if-has_too_many.false))
    c.in_err-descriptions.ensures.refused)

pub returns-in_err-jobs-clause-refused : goal.returns-in_err-jobs-clause-refused
returns-in_err-jobs-clause-refused c =
    refused_on (RefusesComparison c.args.text.now) _ _ c.from_residual-in_err-jobs.ensures.1
    (RefusesComparison.program (omega (arith, c.if-text-gt-MOST_BYTES.false))
    (ltb-false most_machines (separator_count c.args.text.now) (sym c.has_too_many.ensures ∙ c.if-has_too_many.false))
    c.in_ok-descriptions.ensures.machines
    (subst (λ machines. RefusesLoading c.in_ok-descriptions.program.now machines c.in_err-jobs.field-0.0)
    c.as_slice.ensures.value c.in_err-jobs.ensures.refused))

pub returns-clause-few : goal.returns-clause-few
returns-clause-few c = grind (arith, jobs_few, ltb-false)

pub returns-in_default-clause-refused : goal.returns-in_default-clause-refused
returns-in_default-clause-refused c =
    RefusesComparison.descriptions (omega (arith, c.if-text-gt-MOST_BYTES.false))
    (ltb-false most_machines (separator_count c.args.text.now) (sym c.has_too_many.ensures ∙ c.if-has_too_many.false))
    RefusesDescriptions.memory
