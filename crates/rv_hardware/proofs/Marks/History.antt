-- A cycle passes through its phases, and a history is all cycles since the reset with all their steps.
use Rattle.rv_hardware.proofs.Words.{◌≡◌, ℕ, suc, ◌+◌, ◌-◌, ◌<◌, ◌≤◌, Bool, List, [], ◌∷◌, ◌++◌, map, length, is_none}
use Rattle.rv_hardware.proofs.Words.{sym, refl, ap, ◌∙◌, subst, append-nil, arith, IsLegal, Lines, Values, Each, Entry}
use Rattle.rv_hardware.proofs.Words.{Fetched, broadcast, Committing, IsCycle, any_prediction, commit_with, execute}
use Rattle.rv_hardware.proofs.Words.{with_lines, Dispatching, dispatch, stall_of, drain, Hardware, issue, Report}
use Rattle.rv_hardware.proofs.Words.{reset_hardware, Reachable, at_reset, by_cycle, rows_of, Row, Step, count}
use Rattle.rv_hardware.proofs.Words.{count-append, each_image, each_then, Each-append}
use Rattle.std.specs.FinSet as set
use Rattle.rv_hardware.proofs.Marks.Advance.{Kept}
use Rattle.rv_hardware.proofs.Marks.Basics.{Basics}
use Rattle.rv_hardware.proofs.Turns.Cited.{FetchPhase, IsNew, fetch_phase, cycle-keeps}
use Rattle.rv_hardware.proofs.Marks.List.{Mark, mark_of_row, mark_of_entry, mark_of_fetched, marks, marks_in}
use Rattle.rv_hardware.proofs.Marks.List.{marks_fetched}
use Rattle.rv_hardware.proofs.Marks.Phases.{Goes, commit_keeps, drain_keeps, issue_keeps, broadcast_keeps}
use Rattle.rv_hardware.proofs.Marks.Phases.{dispatch_keeps, goes_later, before_drain, before_broadcast, before_dispatch}
use Rattle.rv_hardware.proofs.Always.Sound.{IsSoundFor, always-kept, always-at_reset}
use Rattle.rv_hardware.proofs.Marks.Row.{SoundRow}
use Rattle.rv_hardware.proofs.Marks.Sound.{SoundEntry, SoundFetched}

-- between two cycles
abbrev pub Sound : Values → List Step → Hardware → Type 0
Sound v steps h = Basics v h.cycle h.cycle h.cycle h.cycle h.cycle h.cycle steps h

-- the hardware after each phase
abbrev pub committing : Lines → Hardware → Committing
committing lines old = commit_with set.contains lines old

-- the hardware after the drain phase
abbrev pub drained : Lines → Hardware → Hardware
drained lines old = drain (committing lines old).hardware

-- the hardware after the issue phase
abbrev pub issued_all : Lines → Hardware → Hardware
issued_all lines old = issue (drained lines old)

-- the hardware after the broadcast phase
abbrev pub sent_all : Lines → Hardware → Hardware
sent_all lines old = broadcast (issued_all lines old)

-- what the dispatch phase leaves
abbrev pub dispatching : Lines → Hardware → Dispatching
dispatching lines old = dispatch (sent_all lines old)

-- what holds after each phase
pub record Passed (v : Values) (R : List Mark → Type 0) (earlier : List Step) (lines : Lines) (old : Hardware)
    (report : Report) (new : Hardware) : Type 0 where
  pub begins : Sound v earlier old
  pub marks : R (marks_in earlier old)
  pub committed : Goes v old.cycle old.cycle old.cycle old.cycle old.cycle (old.cycle + 1) R (earlier ++ report.steps)
      (committing lines old).hardware
  pub drains : Goes v old.cycle old.cycle (old.cycle + 1) old.cycle old.cycle (old.cycle + 1) R
      (earlier ++ report.steps) (drained lines old)
  pub issues : Goes v old.cycle old.cycle (old.cycle + 1) old.cycle old.cycle (old.cycle + 1) R
      (earlier ++ report.steps) (issued_all lines old)
  pub sends : Goes v old.cycle old.cycle (old.cycle + 1) (old.cycle + 1) old.cycle (old.cycle + 1) R
      (earlier ++ report.steps) (sent_all lines old)
  pub dispatches : Goes v old.cycle (old.cycle + 1) (old.cycle + 1) (old.cycle + 1) old.cycle (old.cycle + 1) R
      (earlier ++ report.steps) (dispatching lines old).hardware
  pub fetches : FetchPhase old.cycle (dispatching lines old).hardware.front new.front
  pub others_stay : new ≡ record (dispatching lines old).hardware { front = new.front; cycle = old.cycle + 1 }
  pub steps : report.steps ≡ (committing lines old).steps
  pub report_is : (report.dispatched ≡ (dispatching lines old).dispatched) ×
      (report.stall ≡ stall_of (dispatching lines old))
  pub ends : Sound v (earlier ++ report.steps) new
  pub new_marks : marks_in (earlier ++ report.steps) new ≡
      marks_in (earlier ++ report.steps) (dispatching lines old).hardware ++ map mark_of_fetched fetches.added

module _ {v : Values} (legal : IsLegal v) {R : List Mark → Type 0} {earlier : List Step} (lines : Lines)
    {old : Hardware} (new : Hardware) (report : Report) (kept : Kept v old.cycle R) (begins : Sound v earlier old)
    (holds : R (marks_in earlier old)) where
  -- with the cycle's lines, what held between two cycles holds before the commit phase
  pub begin : Goes v old.cycle old.cycle old.cycle old.cycle old.cycle (old.cycle + 1) R (earlier ++ [])
      (with_lines lines old)
  begin =
      rw (append-nil earlier)
      (goes_later old.cycle old.cycle old.cycle (old.cycle + 1) (omega arith) (omega arith) (omega arith)
      (omega arith) (record {
        basics = record {
          cycle = refl;
          always = (always-kept v).phases.lines old lines begins.always;
          rows = begins.rows;
          entries = begins.entries;
          fetched = begins.fetched;
        };
        marks = holds;
      }))

  module _ {steps : List Step} {d : Hardware}
      (dispatched : Goes v old.cycle (old.cycle + 1) (old.cycle + 1) (old.cycle + 1) old.cycle
      (old.cycle + 1) R steps d)
      (fetches : FetchPhase old.cycle d.front new.front)
      (others_stay : new ≡ record d { front = new.front; cycle = old.cycle + 1 }) (always : IsSoundFor v new) where
    ended : Basics v (old.cycle + 1) (old.cycle + 1) (old.cycle + 1) (old.cycle + 1) (old.cycle + 1)
        (old.cycle + 1) steps new
    ended = grind (arith, Each-append, each_then)

    more_marks : marks_in steps new ≡ marks_in steps d ++ map mark_of_fetched fetches.added
    more_marks = grind (arith, marks_fetched)

  -- each phase of a cycle keeps what is basic and a property of marks that it may keep
  pub cycle_passes : IsCycle any_prediction lines old report new → Passed v R earlier lines old report new
  cycle_passes is =
      let steps : report.steps ≡ (committing lines old).steps =
      ap (λ r. r.steps) is.reports ∙ ap (λ (c : Committing). c.steps) is.commits in
      let d_is : is.dispatching ≡ dispatching lines old =
      is.executes ∙ ap (λ (c : Committing). execute c.hardware) is.commits in
      let committed = subst
      (λ l. Goes v old.cycle old.cycle old.cycle old.cycle old.cycle (old.cycle + 1) R (earlier ++ l)
      (committing lines old).hardware)
      (sym steps)
      (commit_keeps kept earlier set.contains begin) in
      let drains = drain_keeps (before_drain committed) in
      let issues = issue_keeps legal kept (earlier ++ report.steps) drains in
      let sends = broadcast_keeps kept (earlier ++ report.steps) (before_broadcast issues) in
      let dispatched = dispatch_keeps kept (earlier ++ report.steps) (before_dispatch sends) in
      let fetches = subst (λ (d : Dispatching). FetchPhase old.cycle d.hardware.front new.front) d_is
      (fetch_phase any_prediction is.dispatching.hardware.cache.backing old.cycle is.dispatching.hardware.front
      new.front is.fetch_stop is.fetches) in
      let others_stay = subst
      (λ (d : Dispatching). new ≡ record d.hardware { front = new.front; cycle = old.cycle + 1 }) d_is is.others_stay in
      let always = cycle-keeps (always-kept v) is begins.always in
      let at_end = ended dispatched fetches others_stay always in
      record {
        begins = begins;
        marks = holds;
        committed = committed;
        drains = drains;
        issues = issues;
        sends = sends;
        dispatches = dispatched;
        fetches = fetches;
        others_stay = others_stay;
        steps = steps;
        report_is = (
          ap (λ r. r.dispatched) is.reports ∙
              ap (λ (d : Dispatching). d.dispatched) d_is,
          ap (λ r. r.stall) is.reports ∙ ap stall_of d_is,
        );
        ends = subst (λ n. Basics v n n n n n n (earlier ++ report.steps) new) (sym at_end.cycle) at_end;
        new_marks = more_marks dispatched fetches others_stay always;
      }

-- all cycles since the reset, with all their steps
pub data History (v : Values) : List Step → Hardware → Type 0 where
  began : (image : List ℕ) (start : ℕ) → IsLegal v → History v [] (reset_hardware v image start)
  went_on : {earlier : List Step} {old new : Hardware} {lines : Lines} {report : Report} →
      History v earlier old → IsCycle any_prediction lines old report new → History v (earlier ++ report.steps) new

-- the description of every history is legal
pub history_is_legal : {v : Values} {steps : List Step} {h : Hardware} → History v steps h → IsLegal v
history_is_legal (began image start legal) = legal
history_is_legal {v} (went_on before is) = history_is_legal before

sound_at_reset : {v : Values} (image : List ℕ) (start : ℕ) → IsLegal v → Sound v [] (reset_hardware v image start)
sound_at_reset {v} image start legal = record {
  cycle = refl;
  always = always-at_reset image start legal;
  rows = tt;
  entries = tt;
  fetched = tt;
}

-- the property that all marks have
abbrev pub Anything : List Mark → Type 0
Anything ms = Unit {0}

-- every cycle keeps the property that all marks have
pub anything_is_kept : (v : Values) (now : ℕ) → Kept v now Anything
anything_is_kept v now = record { cut = λ xs ys r. tt; set = λ xs ys m n a r. tt }

-- what is basic holds in every history
pub history_is_sound : {v : Values} {steps : List Step} {h : Hardware} → History v steps h → Sound v steps h
history_is_sound {v} (began image start legal) = sound_at_reset image start legal
history_is_sound {v} (went_on {earlier} {old} {new} {lines} {report} before is) =
    (cycle_passes (history_is_legal before) lines new report (anything_is_kept v old.cycle)
    (history_is_sound before) tt is).ends

-- each phase of a cycle after a history keeps what is basic
pub history_passes : (v : Values) {earlier : List Step} {old new : Hardware} {lines : Lines} {report : Report} →
    History v earlier old → IsCycle any_prediction lines old report new → Passed v Anything earlier lines old report new
history_passes v {earlier} {old} {new} {lines} {report} before is =
    cycle_passes (history_is_legal before) lines new report (anything_is_kept v old.cycle)
    (history_is_sound before) tt is

-- the words that a cycle adds to some marks
abbrev pub is_buffered_mark : Mark → Bool
is_buffered_mark m = is_none m.dispatched

-- the words of this cycle come after those of earlier cycles, within the width and the room of the fetch buffer
pub record NewWords (v : Values) (now : ℕ) (ms : List Mark) (fs : List Fetched) : Type 0 where
  pub by_now : Each (λ m. m.fetched < now) ms
  pub are_new : Each (IsNew now) fs
  pub within_width : length fs ≤ v.fetch_width
  pub within_room : length fs ≤ v.fetch_buffer - count is_buffered_mark ms

-- a property of marks that beginnings, marks that go on and new words keep
pub record KeptMarks (v : Values) (R : ℕ → List Mark → Type 0) : Type 0 where
  pub at_reset : R 0 []
  pub kept : (now : ℕ) → Kept v now (R now)
  pub more : (now : ℕ) (ms : List Mark) (fs : List Fetched) → NewWords v now ms fs → R now ms →
      R (now + 1) (ms ++ map mark_of_fetched fs)

pub fetched_before : (v : Values) (now : ℕ) (steps : List Step) (es : List Entry) (fs : List Fetched) →
    Each (SoundRow v (now + 1)) (rows_of steps) → Each (SoundEntry v (now + 1) (now + 1) (now + 1)) es →
    Each (SoundFetched now) fs → Each (λ m. m.fetched < now) (marks steps es fs)
fetched_before v now steps es fs rows entries words =
    Each-append _ _ _
    (each_image _
    (λ row w. omega (arith, w.stamps.dispatched_after_fetch, w.stamps.retired_after_dispatch, w.below)) _ rows)
    (Each-append _ _ _ (each_image _ (λ e w. omega (arith, w.after_fetch, w.by_now)) _ entries)
    (each_image _ (λ f w. w.0) _ words))

rows_not_buffered : (rows : List Row) → count is_buffered_mark (map mark_of_row rows) ≡ 0
rows_not_buffered [] = refl
rows_not_buffered (row ∷ rows) = rows_not_buffered rows

entries_not_buffered : (es : List Entry) → count is_buffered_mark (map mark_of_entry es) ≡ 0
entries_not_buffered [] = refl
entries_not_buffered (e ∷ es) = entries_not_buffered es

words_are_buffered : (fs : List Fetched) → count is_buffered_mark (map mark_of_fetched fs) ≡ length fs
words_are_buffered [] = refl
words_are_buffered (f ∷ fs) = ap suc (words_are_buffered fs)

-- the marks that wait for dispatch are as many as the fetch buffer's words
pub buffered_words : (steps : List Step) (es : List Entry) (fs : List Fetched) →
    count is_buffered_mark (marks steps es fs) ≡ length fs
buffered_words steps es fs = grind (arith, count-append, rows_not_buffered, entries_not_buffered, words_are_buffered)

-- the words that a cycle fetches are new ones after the marks so far
pub new_words : {v : Values} {R : List Mark → Type 0} {earlier : List Step} {lines : Lines} {old new : Hardware}
    {report : Report} (passed : Passed v R earlier lines old report new) →
    NewWords v old.cycle (marks_in (earlier ++ report.steps) (dispatching lines old).hardware) passed.fetches.added
new_words {v} {earlier} {lines} {old} {report} passed =
    let d : Hardware = (dispatching lines old).hardware in
    let b = passed.dispatches.basics in
    record {
      by_now = fetched_before v old.cycle (earlier ++ report.steps) _ _ b.rows b.entries b.fetched;
      are_new = passed.fetches.are_new;
      within_width = omega (arith, passed.fetches.within_width, b.always.sizes.width);
      within_room = omega (
        arith,
        passed.fetches.within_room,
        b.always.sizes.room,
        buffered_words (earlier ++ report.steps) d.rob.entries d.front.entries,
      );
    }

-- a property of marks that is kept holds in every history
pub marks_of_history : {v : Values} {R : ℕ → List Mark → Type 0} → KeptMarks v R → {steps : List Step} {h : Hardware} →
    History v steps h → R h.cycle (marks_in steps h)
marks_of_history r (began image start legal) = r.at_reset
marks_of_history {v} {R} r (went_on {earlier} {old} {new} {lines} {report} before is) =
    let passed = cycle_passes (history_is_legal before) lines new report (r.kept old.cycle) (history_is_sound before)
    (marks_of_history r before) is in
    let d : Hardware = (dispatching lines old).hardware in
    let steps : List Step = earlier ++ report.steps in
    let next : new.cycle ≡ old.cycle + 1 = ap (λ (h : Hardware). h.cycle) passed.others_stay in
    let words = new_words passed in
    rw (next, passed.new_marks) (r.more old.cycle (marks_in steps d) passed.fetches.added words passed.dispatches.marks)

-- whatever is reachable has a history
pub reachable_has_history : {h : Hardware} → Reachable h → (v : Values) × (steps : List Step) × History v steps h
reachable_has_history (at_reset {values = values} {image = image} {start = start} legal loadable) =
    (values, [], began image start legal)
reachable_has_history (by_cycle {report = report} reached counted is) =
    let before = reachable_has_history reached in (before.0, before.1 ++ report.steps, went_on before.2 is)
