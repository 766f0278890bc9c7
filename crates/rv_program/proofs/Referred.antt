-- What a run from reset came to is what the report of the reference says.
use Rattle.std.proofs.Common.{◌≡◌, ◌∙◌, ℕ, List, ap, refl, subst}
use Rattle.rv_isa.specs.declared.values.Values.{Values}
use Rattle.rv_arch.specs.Machine.{Machine}
use Rattle.rv_arch.specs.RunOutcome.{IsRunTo}
use Rattle.rv_arch.specs.declared.outcome.RefOutcome.{RefOutcome}
use Rattle.rv_job.specs.declared.job.Job.{Job}
use Rattle.rv_report.specs.ReferenceReport.{reference_report}
use Rattle.rv_report.specs.declared.options.Options.{Options}
use Rattle.rv_program.specs.ReferenceReport.{IsReferenceReport, at_reset, shown}

-- a run of the one-at-a-time machine from reset is what its report says
pub run_referred : {asked : Options} {values : Values} {image : List ℕ} {old new : Machine} {outcome : RefOutcome}
    (job : Job) (options : Options)
    → values ≡ job.description → image ≡ job.image.bytes → asked ≡ shown values.report options →
    old ≡ at_reset values image job.image.start
    → IsRunTo job.arrivals asked.limit old new outcome →
    IsReferenceReport job options outcome.stop (reference_report outcome new asked)
run_referred {asked} {values} {image} {old} {new} {outcome} job options values_are image_is asked_is old_is run =
    let options_are : asked ≡ shown job.description.report options = asked_is
    ∙ ap (λ (v : Values). shown v.report options) values_are in
    let start_is : old ≡ at_reset job.description job.image.bytes job.image.start =
    old_is ∙ (λ i. at_reset (values_are i) (image_is i) job.image.start) in
    let limited = subst (λ (o : Options). IsRunTo job.arrivals o.limit old new outcome) options_are run in
    record {
      outcome = outcome;
      end = new;
      run = subst (λ m. IsRunTo job.arrivals options.limit m new outcome) start_is limited;
      stopped = refl;
      text_is = ap (reference_report outcome new) options_are;
    }
