-- A run under way whose log is written: one more cycle of it, and its end.
use Rattle.std.proofs.Common.{◌≡◌, ◌∙◌, ℕ, List, [], ◌∷◌, ◌++◌, Option, None, refl, sym, ap, append_assoc, append-nil}
use Rattle.std.specs.Prelude.{Bool, false}
use Rattle.rv_isa.specs.declared.lines.Arrival.{Arrival}
use Rattle.rv_arch.specs.declared.outcome.Stop.{Stop}
use Rattle.rv_watch.specs.declared.progress.Progress.{Progress}
use Rattle.rv_watch.specs.Watching.{Watched, with_shown}
use Rattle.rv_watch.proofs.RunReports.{progress_of-push}
use Rattle.rv_hardware.specs.Guided.{GuidedHardware}
use Rattle.rv_hardware.specs.History.{Moment, reports_of}
use Rattle.rv_hardware.specs.declared.report.Stall.{Stall}
use Rattle.rv_log.specs.Log.{WritesLog, begin_text, cycle_text, cycles_text, log_text}
use Rattle.rv_log.specs.Logging.{IsLogging, last_stall}
use Rattle.rv_passage.specs.EndedRun.{IsEndedRun}
use Rattle.rv_passage.specs.Table.{still_open, table_at}
use Rattle.rv_passage.specs.Walk.{FollowedCycle, walk}
use Rattle.rv_passage.specs.declared.passage.Passage.{Passage}
use Rattle.rv_source.specs.Listing.{Listed}
use Rattle.rv_text.specs.Said.{Extends}
use Rattle.rv_text.proofs.Saying.{extends_both, extends_same, extends_whole}
use Rattle.rv_view.specs.Viewing.{IsNextCycle, cycle_shown, cycles_seen}
use Rattle.rv_view.specs.declared.shown_cycle.ShownCycle.{ShownCycle}
use Rattle.rv_view.proofs.EndedView.{cycles_seen-push}

-- the text of a cycle after some others
abbrev last_text : Listed → ℕ → Option Stall → List FollowedCycle → FollowedCycle → List ℕ
last_text listing first before cycles last =
    cycle_text listing first last.number
    (record { before = last_stall before cycles; reason = last.report.stall }) last.passages.rows

cycles-more : (listing : Listed) (first : ℕ) (before : Option Stall) (cycles : List FollowedCycle)
    (last : FollowedCycle)
    → cycles_text listing first before cycles ++ last_text listing first before cycles last
    ≡ cycles_text listing first before (cycles ++ last ∷ [])
cycles-more listing first before [] last = sym (append-nil _)
cycles-more listing first before (cycle ∷ cycles) last =
    let text = cycle_text listing first cycle.number (record { before = before; reason = cycle.report.stall })
    cycle.passages.rows in
    append_assoc text (cycles_text listing first cycle.report.stall cycles)
    (last_text listing first cycle.report.stall cycles last)
    ∙ ap (λ rest. text ++ rest) (cycles-more listing first cycle.report.stall cycles last)

last_stall-more : (before : Option Stall) (cycles : List FollowedCycle) (last : FollowedCycle) →
    last_stall before (cycles ++ last ∷ []) ≡ last.report.stall
last_stall-more before [] last = refl
last_stall-more before (cycle ∷ cycles) last = last_stall-more cycle.report.stall cycles last

-- one more cycle
module _ {seen : Watched} {cycle : ShownCycle} (next : IsNextCycle seen cycle)
    {listing listing' : Listed} {first : ℕ} {stall : Option Stall}
    (logging : IsLogging listing listing' first stall seen) where
  stall_now : cycle.progress.now.stall ≡ next.shown.report.stall
  stall_now = ap (λ (p : Progress). p.stall) (next.shown.progress_is
      ∙ progress_of-push (reports_of seen.moments) next.shown.report)

  -- the log is under way after one cycle more
  pub logging_on : IsLogging listing listing' first cycle.progress.now.stall (with_shown seen next.shown)
  logging_on = record {
    same = logging.same;
    began = logging.began;
    stalled =
        stall_now ∙ sym
        (ap (last_stall None) (cycles_seen-push seen next.shown)
        ∙ last_stall-more None (cycles_seen seen) (cycle_shown seen next.shown));
  }

  -- and its text
  pub logged_on : cycles_text listing seen.first.hardware.cycle None (cycles_seen seen
      ++ cycle_shown seen next.shown ∷ [])
      ≡ cycles_text listing seen.first.hardware.cycle None (cycles_seen seen)
      ++ cycle_text listing' first cycle.number
      (record { before = stall; reason = cycle.progress.now.stall }) cycle.rows.now
  logged_on =
      let number = seen.first.hardware.cycle in
      let so_far = cycles_text listing number None (cycles_seen seen) in
      sym
      ((λ i. so_far
      ++ cycle_text (logging.same i) (logging.began i) (next.shown.number i)
      (record { before = logging.stalled i; reason = stall_now i }) (next.rows_are i))
      ∙ cycles-more listing number None (cycles_seen seen) (cycle_shown seen next.shown))

-- the log of a run that ended: its begin, and then its cycles
pub logged_to_the_end : {arrivals : List Arrival} {limit : ℕ} {listing : Listed} {old new : GuidedHardware}
    {moments : List Moment} {stop : Stop}
    {first : ℕ} {rows : List Passage} {begun failed : Bool} {before mid now : Option (List ℕ)}
    → IsEndedRun arrivals limit old moments new stop → first ≡ old.hardware.cycle → rows ≡ (table_at old.hardware).rows
    → Extends false begun before mid (begin_text listing first rows)
    → Extends begun failed mid now (cycles_text listing old.hardware.cycle None (walk still_open old.hardware moments))
    → WritesLog arrivals limit listing old new stop failed before now
unfolding log_text
logged_to_the_end {listing = listing} {old = old} {moments = moments} {first = first} {rows = rows} run first_is
    rows_are begins goes_on =
    let cycles = cycles_text listing old.hardware.cycle None (walk still_open old.hardware moments) in
    let whole : begin_text listing first rows ++ cycles ≡ log_text listing old.hardware moments =
    λ i. begin_text listing (first_is i) (rows_are i) ++ cycles in (
      log_text listing old.hardware moments,
      record { moments = moments; run = run; text_is = refl },
      extends_whole (extends_same whole (extends_both begins goes_on)),
    )
