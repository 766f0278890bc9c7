-- A run whose report is written as its cycles come: what was written so far, one cycle more, and the end.
use Rattle.std.proofs.Common.{◌≡◌, ◌∙◌, ℕ, ◌+◌, Bool, true, false, List, [], ◌++◌, length, Option, count_by, sym, ap}
use Rattle.std.proofs.Common.{refl, subst, arith}
use Rattle.std.specs.Io.KnownBytes.{Appends}
use Rattle.std.proofs.lemmas.Grind.{flat_map-append}
use Rattle.std.proofs.lemmas.List.Sums.{count_by-le-length, sum_by-append}
use Rattle.rv_isa.specs.declared.lines.Arrival.{Arrival}
use Rattle.rv_arch.specs.declared.outcome.Stop.{Stop}
use Rattle.rv_watch.specs.Progress.{progress_of}
use Rattle.rv_watch.specs.Watching.{IsShown, Watched, with_shown}
use Rattle.rv_watch.specs.declared.progress.Progress.{Progress}
use Rattle.rv_watch.proofs.Shown.{cycles_shown, moments_counted, shown_steps-push}
use Rattle.rv_core.specs.Counted.{IsCountedRun}
use Rattle.rv_core.specs.declared.counting.Counted.{Counted}
use Rattle.rv_front.specs.Guide.{Guide}
use Rattle.rv_hardware.specs.Guided.{GuidedHardware, guided}
use Rattle.rv_hardware.specs.Hardware.{Hardware}
use Rattle.rv_hardware.specs.History.{History, Moment, reports_of}
use Rattle.rv_hardware.specs.Run.{IsStop, steps_of}
use Rattle.rv_hardware.specs.declared.step.Step.{Step}
use Rattle.rv_report.specs.LiveReport.{HasTraced, IsRunReport, IsTraced}
use Rattle.rv_report.specs.Rows.{step_line, trace_lines}
use Rattle.rv_report.specs.RunReport.{end_of, run_report, trace_of}
use Rattle.rv_report.specs.Totals.{HasRoom, both_counts, counts_of, totals_with}
use Rattle.rv_text.specs.Said.{Extends, IsSaid}
use Rattle.rv_text.specs.Written.{AppendsBeginning}
use Rattle.rv_report.specs.declared.options.Options.{Options}
use Rattle.rv_report.specs.declared.totals.StepCounts.{StepCounts}
use Rattle.rv_report.specs.declared.totals.Totals.{Totals}
use Rattle.rv_text.proofs.Writing.{Appends-nothing, Appends-same}

trace_of-none : (shown : Bool) → trace_of shown [] ≡ []
unfolding trace_lines
trace_of-none true = refl
trace_of-none false = refl

trace_of-append : (shown : Bool) (xs ys : List Step) → trace_of shown (xs ++ ys)
    ≡ trace_of shown xs ++ trace_of shown ys
unfolding trace_lines
trace_of-append true xs ys = flat_map-append step_line xs ys
trace_of-append false xs ys = refl

count_by-append : (p : Step → Bool) (xs ys : List Step) → count_by p (xs ++ ys) ≡ count_by p xs + count_by p ys
count_by-append p xs ys = sum_by-append _ xs ys

-- the counts of two lists of steps are those of both
pub counts_of-append : (xs ys : List Step) → counts_of (xs ++ ys) ≡ both_counts (counts_of xs) (counts_of ys)
counts_of-append xs ys = grind (arith, count_by-append)

-- the trace of a run, and then the rest, is its report
pub traced_report : {arrivals : List Arrival} {options : Options} {old
    new : GuidedHardware} {totals : Totals} {failed : Bool} {before mid : Option (List ℕ)}
    → (traced : IsTraced arrivals options old new totals failed before mid)
    → IsRunReport arrivals options old totals.stop (trace_of options.trace (steps_of traced.reports)
    ++ end_of totals new.hardware options)
unfolding run_report
traced_report {options = options} {new = new} traced = record {
  reports = traced.reports;
  new = new;
  cycles = traced.cycles;
  stops = traced.stops;
  text_is = ap (λ (t : Totals). trace_of options.trace (steps_of traced.reports)
      ++ end_of t new.hardware options) traced.totals_are;
}

-- what is said after a text that was said: a beginning of both where a write failed, and else both
pub said_in_part : {was failed : Bool} (before : Option (List ℕ)) {mid now : Option (List ℕ)}
    (first : List ℕ) {text : List ℕ} → failed ≡ true → IsSaid was before mid first → Extends was failed mid now text →
    AppendsBeginning before now (first ++ text)
said_in_part before first is said extended = rw is at (extended.extends before first said)

-- a text and one that extends it are appended whole where no write failed
pub said_to_the_end : {was failed : Bool} (before : Option (List ℕ)) {mid now : Option (List ℕ)}
    (first : List ℕ) {text : List ℕ} → failed ≡ false → IsSaid was before mid first → Extends was failed mid now text →
    Appends before now (first ++ text)
said_to_the_end before first is said extended = rw is at (extended.extends before first said)

-- no step yet
pub traced_nothing : (counts : StepCounts) (output : Option (List ℕ)) →
    (counts.retired ≡ 0) × ((counts.traps ≡ 0) × (counts.interrupts ≡ 0)) → HasTraced counts false [] output output
traced_nothing counts output none = record {
  counted = λ i. record { retired = none.0 i; traps = none.1.0 i; interrupts = none.1.1 i };
  trace = Appends-same output output _ _ (sym (trace_of-none true)) (Appends-nothing output);
}

module _ {seen : Watched} {cycle : ℕ} {steps : List Step} {after : Hardware} {progress : Progress}
    (shown : IsShown seen cycle steps after progress)
    {counts : StepCounts} {failed : Bool} {before mid : Option (List ℕ)}
    (traced : HasTraced counts failed seen.moments before mid) where
  -- the steps of one more cycle can be counted
  pub room_for_more : HasRoom counts (length steps)
  room_for_more = grind (arith, moments_counted, count_by-le-length)

  -- one more cycle, whose steps are counted and written
  pub traced_on : (counts' : StepCounts) (failed' : Bool) (now : Option (List ℕ)) →
      counts' ≡ both_counts counts (counts_of steps)
      → IsSaid failed' before now (trace_lines (steps_of (reports_of seen.moments)) ++ trace_lines steps) →
      HasTraced counts' failed' (with_shown seen shown).moments before now
  traced_on counts' failed' now counted wrote =
      let so_far = steps_of (reports_of seen.moments) in
      let all : steps_of (reports_of (with_shown seen shown).moments) ≡ so_far ++ steps =
      shown_steps-push seen.moments _ ∙ ap (λ l. so_far ++ l) (sym shown.steps_are) in
      record {
        counted = counted ∙ ap (λ c. both_counts c (counts_of steps)) traced.counted
            ∙ sym (ap counts_of all ∙ counts_of-append so_far steps);
        trace = subst (IsSaid failed' before now) (sym (ap trace_lines all ∙ trace_of-append true so_far steps)) wrote;
      }

-- what a run came to whose cycles are traced
pub traced_to_the_end : {arrivals : List Arrival} {options : Options} {old new : GuidedHardware} {moments : List
    Moment} {progress : Progress} {counts : StepCounts} {failed : Bool} {before after : Option
    (List ℕ)} {stop : Stop} {totals : Totals}
    → History arrivals old moments new → progress ≡ progress_of (reports_of moments) →
    IsStop options.limit (reports_of moments) new.hardware stop → true ≡ options.trace →
    HasTraced counts failed moments before after
    → totals ≡ totals_with progress counts stop → IsTraced arrivals options old new totals failed before after
traced_to_the_end {moments = moments} {failed = failed} {before = before} {after = after} {stop = stop} passes counted
    stops shown traced is = grind (arith, cycles_shown)

-- what a run came to whose steps were counted, where no trace is asked for
pub counted_to_the_end : {arrivals : List Arrival} {options : Options} {old new : Hardware}
    {taught learned : Guide} {run : Counted} {totals : Totals} →
    IsCountedRun arrivals options.limit old taught new learned run →
    options.trace ≡ false
    → totals ≡ totals_with run.progress
    (record { retired = run.retired; traps = run.traps; interrupts = run.interrupts }) run.stop →
    (output : Option (List ℕ)) →
    IsTraced arrivals options (guided old taught) (guided new learned) totals false output output
counted_to_the_end {run = run} counted off is output = grind (arith, cycles_shown, Appends-nothing)
