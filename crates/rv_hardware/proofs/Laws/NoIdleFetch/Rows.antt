-- In every history each mark shows why the next was not fetched earlier.
use Rattle.rv_hardware.proofs.Words.{◌≡◌, ℕ, ◌+◌, ◌-◌, ◌≤◌, true, false, ◌⊎◌, List, [], ◌∷◌, ◌++◌, map, length, Some}
use Rattle.rv_hardware.proofs.Words.{sym, refl, ap, ◌∙◌, subst, inl, inr, true≢false, append-nil, arith, length-append}
use Rattle.rv_hardware.proofs.Words.{Lines, Early, Values, due, Each, FetchBuffer, Fetched, IsCycle, any_prediction}
use Rattle.rv_hardware.proofs.Words.{with_lines, Hardware, Report, rows_of, Row, Step, count, each_image, each_then}
use Rattle.std.specs.FinSet as set
use Rattle.rv_hardware.proofs.Marks.Cited.{IsNew, count-as_of, Passed, History, began, went_on, is_buffered_mark}
use Rattle.rv_hardware.proofs.Marks.Cited.{buffered_words, committing, issued_all, dispatching, cycle_passes}
use Rattle.rv_hardware.proofs.Marks.Cited.{history_is_legal, history_is_sound, Mark, mark_of_row, mark_of_entry}
use Rattle.rv_hardware.proofs.Marks.Cited.{mark_of_fetched, marks_in, marks, marks_at_entry, as_of_now, marks_settled}
use Rattle.rv_hardware.proofs.Marks.Cited.{SoundRow, SoundFetched}
use Rattle.rv_hardware.proofs.Laws.NoIdleFetch.Links.{with_word, IsBy, Followed, IsOpen, Linked, LastIs, held_after}
use Rattle.rv_hardware.proofs.Laws.NoIdleFetch.Links.{held_count, WasLinked, was_linked_kept, linked_stays, linked_on}
use Rattle.rv_hardware.proofs.Laws.NoIdleFetch.Links.{linked_cut, linked_words, last_at}
use Rattle.rv_hardware.proofs.Laws.NoIdleFetch.Phases.{size, size_of_marks, Uncut, LeftByBroadcast, commit_goes_by}
use Rattle.rv_hardware.proofs.Laws.NoIdleFetch.Phases.{drain_and_issue, broadcast_and_dispatch}

-- the last mark after a squash: a row, or the instruction whose broadcast squashed the rest
abbrev Squashes : Values → ℕ → Mark → Type 0
Squashes v now m = IsBy m.retired now ⊎ ((v.recovery ≡ Early) × (m.broadcast ≡ Some now))

last_row : (v : Values) (now : ℕ) (rows : List Row) → Each (SoundRow v (now + 1)) rows →
    LastIs (Squashes v now) (map mark_of_row rows)
last_row v now [] sound = tt
last_row v now (row ∷ []) sound = inl (let below = sound.0 in omega (arith, below.below))
last_row v now (row ∷ r ∷ rs) sound = last_row v now (r ∷ rs) sound.1

no_rest : {X : Type 0} (xs rest : List X) {n : ℕ} → length (xs ++ rest) ≡ n → length xs ≡ n → rest ≡ []
no_rest xs [] all one = refl
no_rest xs (y ∷ ys) all one = absurd (let both = length-append xs (y ∷ ys) in omega (arith, both, all, one))

-- a front that is halted stays
pub stays_halted : {lines : Lines} {old new : Hardware} {report : Report} →
    IsCycle any_prediction lines old report new → (dispatching lines old).hardware.front.halted ≡ true →
    new.front ≡ (dispatching lines old).hardware.front
stays_halted {lines} {old} {new} {report} is = grind arith

module _ (v : Values) {earlier : List Step} {old new : Hardware} {lines : Lines} {report : Report}
    (before : History v earlier old) (is : IsCycle any_prediction lines old report new)
    (linked : Linked v old.cycle (IsOpen v old.front.halted old.cycle) (λ c. 0) (marks_in earlier old)) where
  abbrev Was : List Mark → Type 0
  Was = WasLinked v old.cycle old.front.halted (length (marks_in earlier old))

  passed : Passed v Was earlier lines old report new
  passed =
      cycle_passes (history_is_legal before) lines new report
      (was_linked_kept v old.cycle old.front.halted (length (marks_in earlier old))) (history_is_sound before)
      ([], rw (append-nil (marks_in earlier old)) linked, rw (append-nil (marks_in earlier old)) refl) is

  abbrev d : Hardware
  d = (dispatching lines old).hardware

  abbrev all : List Step
  all = earlier ++ report.steps

  left : LeftByBroadcast (length (marks_in earlier old)) old.front.halted v old.cycle all d
  left =
      let g : Hardware = with_lines lines old in
      let n : ℕ = length (marks_in earlier old) in
      let b = old.front.halted in
      let begins = inl (ap (λ l. size l g) (append-nil earlier) ∙ sym (size_of_marks earlier old), refl) in
      let commits = commit_goes_by n b earlier set.contains (due g.csrs g.lines) g begins in
      let c = (committing lines old).hardware in
      let issues = drain_and_issue n b v old.cycle all c (rw (passed.steps) commits) in
      broadcast_and_dispatch n b v old.cycle all
      (issued_all lines old) passed.issues.basics.cycle passed.issues.basics.always.sizes.values issues

  fetches_none : {P : Type 0} (f : Fetched) (fs : List Fetched) → passed.fetches.added ≡ f ∷ fs →
      d.front.halted ≡ true → P
  fetches_none f fs given halted =
      let same = ap (λ (r : FetchBuffer). length r.entries) (stays_halted is halted) in
      absurd (omega (
        arith,
        same,
        ap length passed.fetches.entries,
        length-append d.front.entries passed.fetches.added,
        ap length given,
      ))

  abbrev Next : List Mark → Type 0
  Next ms = Linked v (old.cycle + 1) (IsOpen v new.front.halted (old.cycle + 1)) (λ c. 0) ms

  new_ones : {fs : List Fetched} → passed.fetches.added ≡ fs →
      Each (λ m. m.fetched ≡ old.cycle) (map mark_of_fetched fs)
  new_ones {fs} at =
      each_image _ (λ f w. w.0) _ (subst (Each (IsNew old.cycle)) at passed.fetches.are_new)

  -- after a squash

  abbrev LastSquashes : (ℕ → ℕ) → Mark → Type 0
  LastSquashes h x = Squashes v old.cycle x

  squash_followed : (f : Mark) → f.fetched ≡ old.cycle → (h : ℕ → ℕ) (x : Mark) → Squashes v old.cycle x →
      Followed v (old.cycle + 1) h x f
  squash_followed f given h x holds = grind arith

  after_squash : LastIs (Squashes v old.cycle) (marks_in all d) → d.front.entries ≡ [] → d.front.halted ≡ false →
      (fs : List Fetched) → passed.fetches.added ≡ fs → Next (marks_in all d ++ map mark_of_fetched fs)
  after_squash last none runs [] at = absurd (by_reason (passed.fetches.goes_on at))
    where
      by_reason : (d.front.halted ≡ true) ⊎ ((d.front.width ≡ 0) ⊎ (d.front.capacity - length d.front.entries ≡ 0)) → ⊥
      by_reason (inl halted) = true≢false (sym halted ∙ runs)
      by_reason (inr (inl narrow)) =
          let legal = (history_is_legal before).pipeline.fetch_width in
          omega (arith, narrow, passed.dispatches.basics.always.sizes.width, legal)
      by_reason (inr (inr full)) =
          let legal = (history_is_legal before).pipeline.fetch_buffer in let empty = ap length none in
          omega (arith, full, empty, passed.dispatches.basics.always.sizes.room, legal)
  after_squash last none runs (f ∷ fs) at =
      let was = passed.dispatches.marks in
      let cut = linked_cut v old.cycle (IsOpen v old.front.halted old.cycle) (Squashes v old.cycle) (λ c. 0)
      (marks_in all d) was.0 last was.1 in
      let these = new_ones at in
      linked_on v old.cycle LastSquashes (IsOpen v new.front.halted (old.cycle + 1)) (λ c. 0) (marks_in all d)
      (mark_of_fetched f) (map mark_of_fetched fs) (squash_followed (mark_of_fetched f) these.0) cut
      (λ h. linked_words v old.cycle new.front.halted h (map mark_of_fetched (f ∷ fs)) these)

  -- where nothing was squashed

  module _ (uncut : Uncut (length (marks_in earlier old)) old.front.halted all d) where
    still : Linked v old.cycle (IsOpen v old.front.halted old.cycle) (λ c. 0) (marks_in all d)
    still =
        let was = passed.dispatches.marks in
        let none = no_rest (marks_in all d) was.0 was.2 (size_of_marks all d ∙ uncut.0) in
        subst (Linked v old.cycle (IsOpen v old.front.halted old.cycle) (λ c. 0))
        (ap (λ l. marks_in all d ++ l) none ∙ append-nil (marks_in all d)) was.1

    on_followed : (f : Fetched) (fs : List Fetched) → passed.fetches.added ≡ f ∷ fs → f.cycle ≡ old.cycle →
        (h : ℕ → ℕ) (x : Mark) → IsOpen v old.front.halted old.cycle h x →
        Followed v (old.cycle + 1) h x (mark_of_fetched f)
    on_followed f fs at same h x (inl halted) = fetches_none f fs at (uncut.1 ∙ halted)
    on_followed f fs at same h x (inr (inl over)) = (omega (arith, same), inl (rw same over))
    on_followed f fs at same h x (inr (inr full)) = (omega (arith, same), inr (inr (rw same full)))

    -- the words fill the buffer
    full_now : d.front.capacity - length d.front.entries ≡ 0 →
        v.fetch_buffer ≤ held_after (λ c. 0) (marks_in all d) old.cycle
    full_now full =
        let b = passed.dispatches.basics in
        let words : Each (SoundFetched (old.cycle + 1)) d.front.entries =
        each_then (λ f w. (omega (arith, w.0), w.1)) _ b.fetched in
        let held = held_count (λ c. 0) (marks_in all d) old.cycle in
        let counts = count-as_of is_buffered_mark old.cycle (marks_in all d) in
        let settled = ap (count is_buffered_mark)
        (as_of_now old.cycle _ (marks_settled v old.cycle all _ _ b.rows b.entries words)) in
        let many = buffered_words all d.rob.entries d.front.entries in
        omega (arith, full, b.always.sizes.room, held, counts, settled, many)

    stays_open : v.fetch_buffer ≤ held_after (λ c. 0) (marks_in all d) old.cycle → (h : ℕ → ℕ) (x : Mark) →
        with_word h x old.cycle ≡ held_after (λ c. 0) (marks_in all d) old.cycle →
        IsOpen v old.front.halted old.cycle h x → IsOpen v new.front.halted (old.cycle + 1) h x
    stays_open full h x same (inl halted) =
        inl (ap (λ (r : FetchBuffer). r.halted) (stays_halted is (uncut.1 ∙ halted)) ∙ uncut.1 ∙ halted)
    stays_open full h x same (inr (inl over)) = grind arith
    stays_open full h x same (inr (inr filled)) = grind arith

    goes_on : (fs : List Fetched) → passed.fetches.added ≡ fs → Next (marks_in all d ++ map mark_of_fetched fs)
    goes_on [] at = rw (append-nil (marks_in all d)) (by_reason (passed.fetches.goes_on at))
      where
        by_reason : (d.front.halted ≡ true) ⊎ ((d.front.width ≡ 0) ⊎ (d.front.capacity - length d.front.entries ≡ 0)) →
            Next (marks_in all d)
        by_reason (inl halted) =
            linked_stays v old.cycle (IsOpen v old.front.halted old.cycle) (IsOpen v new.front.halted (old.cycle + 1))
            (λ c. 0) (marks_in all d)
            (λ h x same was. inl (ap (λ (r : FetchBuffer). r.halted) (stays_halted is halted) ∙ halted)) still
        by_reason (inr (inl narrow)) =
            absurd (let legal = (history_is_legal before).pipeline.fetch_width in
            omega (arith, narrow, passed.dispatches.basics.always.sizes.width, legal))
        by_reason (inr (inr full)) =
            linked_stays v old.cycle (IsOpen v old.front.halted old.cycle) (IsOpen v new.front.halted (old.cycle + 1))
            (λ c. 0) (marks_in all d) (stays_open (full_now full)) still
    goes_on (f ∷ fs) at =
        let these = new_ones at in
        linked_on v old.cycle (IsOpen v old.front.halted old.cycle) (IsOpen v new.front.halted (old.cycle + 1)) (λ c. 0)
        (marks_in all d) (mark_of_fetched f) (map mark_of_fetched fs) (on_followed f fs at these.0) still
        (λ h. linked_words v old.cycle new.front.halted h (map mark_of_fetched (f ∷ fs)) these)

  by_squash : LeftByBroadcast (length (marks_in earlier old)) old.front.halted v old.cycle all d →
      Next (marks_in all d ++ map mark_of_fetched passed.fetches.added)
  by_squash (inl (inl uncut)) = goes_on uncut passed.fetches.added refl
  by_squash (inl (inr empty)) =
      after_squash
      (subst (LastIs (Squashes v old.cycle))
      (sym (ap (λ es. marks all es d.front.entries) empty.0 ∙ ap (λ fs. marks all [] fs) empty.1 ∙
      append-nil (map mark_of_row (rows_of all))))
      (last_row v old.cycle _ passed.dispatches.basics.rows))
      empty.1 empty.2 passed.fetches.added refl
  by_squash (inr mended) =
      after_squash
      (subst (LastIs (Squashes v old.cycle))
      (sym (ap (λ es. marks all es d.front.entries) mended.entries ∙
      ap (λ fs. marks all (mended.older ++ mended.last ∷ []) fs) mended.words ∙
      marks_at_entry all mended.older [] mended.last []))
      (last_at (Squashes v old.cycle) (map mark_of_row (rows_of all) ++ map mark_of_entry mended.older)
      (mark_of_entry mended.last) (inr (mended.early, mended.sent))))
      mended.words mended.runs passed.fetches.added refl

  pub linked_in_cycle : Linked v new.cycle (IsOpen v new.front.halted new.cycle) (λ c. 0) (marks_in all new)
  linked_in_cycle = rw (ap (λ (h : Hardware). h.cycle) passed.others_stay, passed.new_marks) (by_squash left)

-- in every history each mark shows why the next one was not fetched earlier
pub marks_are_linked : {v : Values} {steps : List Step} {h : Hardware} → History v steps h →
    Linked v h.cycle (IsOpen v h.front.halted h.cycle) (λ c. 0) (marks_in steps h)
marks_are_linked (began image start legal) = tt
marks_are_linked {v} (went_on before is) = linked_in_cycle v before is (marks_are_linked before)
