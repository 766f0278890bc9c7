-- Of rows that hold a unit in a cycle there are at most as many as there are units.
use Rattle.rv_hardware.proofs.Words.{◌≡◌, ℕ, ◌+◌, ◌≤◌, Bool, true, false, ◌&&◌, List, ◌++◌, ◌==◌, Some, None, count_by}
use Rattle.rv_hardware.proofs.Words.{Option, arith, is_of_kind, kind_of_word, at_kind, Lines, Kind, Values, Fetched}
use Rattle.rv_hardware.proofs.Words.{Hardware, Report, rows_of, Row, Step, Each-all, count, count-le}
use Rattle.rv_hardware.proofs.Marks.Cited.{in_cycle, Shows, counted_law, History, Passed, dispatching, Mark, Start}
use Rattle.rv_hardware.proofs.Marks.Cited.{mark_of_row, mark_of_entry, mark_of_fetched, marks_in, Extends, SoundRow}
use Rattle.rv_hardware.proofs.Marks.Cited.{count_in_flight}
use Rattle.rv_hardware.proofs.Laws.OtherUnits.Phases.{holds_mark, units_of_history, units_kept}

-- at most as many as hold a unit
module _ {v : Values} (k : Kind) {test : ℕ → Mark → Bool}
    (holds : (c : ℕ) (m : Mark) → test c m ≡ true → holds_mark v k c m ≡ true)
    (gone : (now : ℕ) (row : Row) → SoundRow v (now + 1) row → test now (mark_of_row row) ≡ false)
    (no_word : (now : ℕ) (f : Fetched) → test now (mark_of_fetched f) ≡ false) where
  held_at_end : (earlier : List Step) (old new : Hardware) (lines : Lines) (report : Report) → History v earlier old →
      History v (earlier ++ report.steps) new →
      Passed v (Extends old.cycle (marks_in earlier old)) earlier lines old report new →
      count (test old.cycle) (marks_in (earlier ++ report.steps) new) ≤ (at_kind k v.kinds).units
  held_at_end earlier old new lines report before after passed =
      let p : Mark → Bool = test old.cycle in
      let d : Hardware = (dispatching lines old).hardware in
      let all = count_in_flight p passed (gone old.cycle) (no_word old.cycle) in
      let held = in_cycle (units_kept v old.cycle) passed (units_of_history before) k in
      let entries = count-le (λ e. p (mark_of_entry e)) (λ e. holds_mark v k old.cycle (mark_of_entry e)) d.rob.entries
      (Each-all (λ e. p (mark_of_entry e) ≡ true → holds_mark v k old.cycle (mark_of_entry e) ≡ true)
      (λ e. holds old.cycle (mark_of_entry e)) d.rob.entries) in
      let tied = held.tied old.cycle (omega arith) in
      let within = held.within old.cycle (omega arith) in
      omega (arith, all, entries, tied, within)

  module _ {row_test : ℕ → Row → Bool} (shows : Shows v row_test test) where
    -- in no cycle do more rows pass a test of holding a unit than there are units
    pub units_law : {steps : List Step} {h : Hardware} → History v steps h → (c : ℕ) →
        count_by (row_test c) (rows_of steps) ≤ (at_kind k v.kinds).units
    units_law history = counted_law shows (at_kind k v.kinds).units held_at_end history

-- a start in a cycle
abbrev pub starts_at : ℕ → Option Start → Bool
starts_at c None = false
starts_at c (Some s) = s.cycle == c

-- a mark's instruction starts on a unit of this kind in a cycle
abbrev pub begins_mark : Kind → ℕ → Mark → Bool
begins_mark k c m = is_of_kind k (kind_of_word m.instruction) && starts_at c m.start
