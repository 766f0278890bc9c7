-- A run under way that is recorded: one more cycle of it, and its end.
use Rattle.std.proofs.Common.{◌≡◌, ◌∙◌, ℕ, ◌+◌, ◌≤◌, ◌≢◌, true, false, List, [], ◌∷◌, ◌++◌}
use Rattle.std.proofs.Common.{drop, length, take, Option, refl, sym, ap, subst, arith}
use Rattle.std.proofs.Math.Seq.{drop-append_seam, take-append_seam}
use Rattle.std.proofs.lemmas.Bool.{false≢true}
use Rattle.std.proofs.lemmas.List.{drop_all, take-append-drop, take_all}
use Rattle.rv_isa.specs.declared.lines.Arrival.{Arrival}
use Rattle.rv_arch.specs.declared.outcome.Stop.{Stop}
use Rattle.rv_arch.specs.declared.outcome.Stop.TheVariants as stop
use Rattle.rv_watch.specs.declared.progress.Progress.{Progress}
use Rattle.rv_watch.specs.Watching.{IsShown, Watched, watched, with_shown}
use Rattle.rv_watch.proofs.RunReports.{progress_of-push}
use Rattle.rv_watch.proofs.Shown.{cycle_counts, moments_counted, reports_of-push}
use Rattle.rv_hardware.specs.Guided.{GuidedHardware}
use Rattle.rv_hardware.specs.Hardware.{Hardware}
use Rattle.rv_hardware.specs.History.{History, Moment, reports_of}
use Rattle.rv_hardware.specs.Report.{Report}
use Rattle.rv_hardware.specs.declared.report.Stall.{Stall}
use Rattle.rv_hardware.specs.declared.step.Step.{Step}
use Rattle.rv_passage.specs.EndedRun.{IsEndedRun}
use Rattle.rv_passage.specs.Table.{CanCount, Passages, after_cycle, table_at}
use Rattle.rv_passage.specs.Walk.{all_kept, hardware_after}
use Rattle.rv_passage.proofs.EndedRun.{History-split, history_end, length-reports_of, length-run, run_earlier, run_on}
use Rattle.rv_passage.proofs.Followed.{can_count, followed_nothing, followed_on}
use Rattle.rv_picture.specs.Recording.{IsRecorded, IsRecording, Recorded, is_limit}
use Rattle.rv_picture.specs.Recording.{recorded_from, stalls_in, stopped_at}

-- a reason that passes the test is the limit
pub is_by_limit : (reason : Stop) → is_limit reason ≡ true → reason ≡ stop.Limit
is_by_limit stop.Limit is = refl
is_by_limit stop.Breakpoint is = absurd (false≢true is)
is_by_limit (stop.Stale pc) is = absurd (false≢true is)
is_by_limit stop.Exhausted is = absurd (false≢true is)

-- another reason than the limit
pub is_not_by_limit : (reason : Stop) → is_limit reason ≡ false → reason ≢ stop.Limit
is_not_by_limit reason is same = false≢true (sym is ∙ ap is_limit same)

-- no cycle yet
pub recording_nothing : (arrivals : List Arrival) (h : GuidedHardware) (table : Passages)
    (stalls : List (Option Stall)) → table ≡ table_at h.hardware → length table.rows ≤ 288 → stalls ≡ []
    → IsRecording table stalls (watched arrivals h [] h)
recording_nothing arrivals h table stalls is few none =
    record { followed = followed_nothing all_kept h.hardware table is few; stalls_are = none }

stalls_in-push : (reports : List Report) (last : Report) → stalls_in (reports ++ last ∷ [])
    ≡ stalls_in reports ++ last.stall ∷ []
stalls_in-push [] last = refl
stalls_in-push (report ∷ reports) last = ap (λ l. report.stall ∷ l) (stalls_in-push reports last)

module _ {seen : Watched} {cycle : ℕ} {steps : List Step} {after : Hardware} {progress : Progress}
    (shown : IsShown seen cycle steps after progress) {table : Passages} {stalls : List (Option Stall)}
    (so_far : IsRecording table stalls seen) where
  -- the counts of the table can go on
  pub can_count_on : CanCount table
  can_count_on = can_count so_far.followed (omega (arith, shown.number, shown.counted))

  -- one more cycle, whose steps the table takes
  pub recording_on : (table' : Passages) → table' ≡ after_cycle cycle steps after table →
      table'.fetched ≤ table.fetched + 288 → table'.retired ≤ table.retired + 8
      → (stalls' : List (Option Stall)) → stalls' ≡ stalls ++ progress.stall ∷ [] →
      IsRecording table' stalls' (with_shown seen shown)
  recording_on table' takes fetched retired stalls' pushed =
      let last : Moment = record { report = shown.report; after = after } in
      let last_stall : progress.stall ≡ shown.report.stall =
      ap (λ (p : Progress). p.stall) (shown.progress_is ∙ progress_of-push (reports_of seen.moments) shown.report) in
      record {
        followed =
            followed_on shown.passes so_far.followed last shown.number shown.steps_are takes
            (cycle_counts shown.cycled) table' refl fetched retired;
        stalls_are =
            pushed ∙ (λ i. so_far.stalls_are i ++ last_stall i ∷ [])
            ∙ sym (ap stalls_in (reports_of-push seen.moments last)
            ∙ stalls_in-push (reports_of seen.moments) shown.report);
      }

module _ {arrivals : List Arrival} {old new : GuidedHardware} {reason : Stop} where
  -- the cycles of a run that ended
  pub recorded_to_the_end : {limit : ℕ} {moments : List Moment} {table : Passages} {stalls : List (Option Stall)}
      (first cycles : ℕ) → IsEndedRun arrivals limit old moments new reason →
      IsRecording table stalls (watched arrivals old moments new)
      → first ≡ old.hardware.cycle → cycles ≡ length (reports_of moments)
      → IsRecorded arrivals 0 limit old new reason
      (record {
        table = table;
        window = record { first = first; cycles = cycles; stopped = stopped_at reason table.rows };
        stalls = stalls;
      })
  recorded_to_the_end {limit = limit} {moments = moments} first cycles run so_far first_is cycles_are =
      let so_many = cycles_are ∙ length-reports_of moments in
      let table_is = so_far.followed.passages in
      record {
        moments = moments;
        run = run;
        kept_is = λ i. record {
          table = table_is i;
          window = record { first = first_is i; cycles = so_many i; stopped = stopped_at reason (table_is i).rows };
          stalls = so_far.stalls_are i;
        };
      }

  -- of a run after so many cycles
  pub recorded_later : {from limit : ℕ} {start : GuidedHardware} {before : List Moment} {kept : Recorded} →
      IsEndedRun arrivals from old before start stop.Limit → IsRecorded arrivals 0 limit start new reason kept
      → IsRecorded arrivals from (from + limit) old new reason kept
  recorded_later {from = from} {start = start} {before = before} run rest =
      let so_many : length before ≡ from = sym (length-reports_of before) ∙ run.stops.1 in
      let first : hardware_after old.hardware (take from (before ++ rest.moments)) ≡ start.hardware =
      ap (λ n. hardware_after old.hardware (take n (before ++ rest.moments))) (sym so_many)
      ∙ ap (hardware_after old.hardware) (take-append_seam before rest.moments) ∙ history_end run.passes in
      let others : drop from (before ++ rest.moments) ≡ rest.moments =
      ap (λ n. drop n (before ++ rest.moments)) (sym so_many) ∙ drop-append_seam before rest.moments in
      record {
        moments = before ++ rest.moments;
        run = run_on run rest.run;
        kept_is = rest.kept_is ∙ sym (λ i. recorded_from (first i) (others i) reason);
      }

  -- of one that ended before them
  pub recorded_nothing : {from : ℕ} {moments : List Moment} {kept : Recorded} (limit : ℕ) → reason ≢ stop.Limit →
      IsEndedRun arrivals from old moments new reason → kept ≡ recorded_from new.hardware [] reason
      → IsRecorded arrivals from (from + limit) old new reason kept
  recorded_nothing {from = from} {moments = moments} limit other run is =
      let few : length moments ≤ from =
      omega (
        arith,
        length-reports_of moments,
        length-run from (reports_of moments) new.hardware reason run.stops,
      ) in
      let first : hardware_after old.hardware (take from moments) ≡ new.hardware =
      ap (hardware_after old.hardware) (take_all from moments few) ∙ history_end run.passes in
      record {
        moments = moments;
        run = run_earlier limit other run;
        kept_is = is ∙ sym (λ i. recorded_from (first i) (drop_all from moments few i) reason);
      }

later_cycles : {arrivals : List Arrival} {old new : GuidedHardware} {moments : List Moment} (from : ℕ) →
    History arrivals old moments new →
    (hardware_after old.hardware (take from moments)).cycle + length (drop from moments) ≡ new.hardware.cycle
later_cycles {arrivals} {old} {new} {moments} from passes =
    let (middle, before, later) =
    History-split (take from moments) (drop from moments)
    (subst (λ l. History arrivals old l new) (sym (take-append-drop from moments)) passes) in
    omega (
      arith,
      ap (λ (h : Hardware). h.cycle) (history_end before),
      moments_counted later,
      length-reports_of (drop from moments),
    )

-- the cycles of a recording end with the run
pub window_end : {arrivals : List Arrival} {from limit : ℕ} {old
    new : GuidedHardware} {reason : Stop} {kept : Recorded} → IsRecorded arrivals from limit old new reason kept →
    kept.window.first + kept.window.cycles ≡ new.hardware.cycle
window_end {from = from} is =
    omega (
      arith,
      later_cycles from is.run.passes,
      ap (λ (r : Recorded). r.window.first) is.kept_is,
      ap
          (λ (r : Recorded). r.window.cycles) is.kept_is,
    )
