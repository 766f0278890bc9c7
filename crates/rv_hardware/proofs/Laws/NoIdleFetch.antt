-- Between two rows, one after the other, fetch waits for nothing but room, or begins anew.
pub mod Links
pub mod Phases
pub mod Rows
pub mod Next
use Rattle.rv_hardware.proofs.Words.{◌≡◌, ℕ, ◌≤◌, true, List, [], ◌∷◌, ◌++◌, map, is_none, nat_lt, nat_le, Some, None}
use Rattle.rv_hardware.proofs.Words.{count_by, Option, MatchOption, sym, refl, ap, ◌∙◌, subst, inl, inr, append_assoc}
use Rattle.rv_hardware.proofs.Words.{arith, and_from, map-append, Values, Hardware, IsFetchedAfter, EachNext}
use Rattle.rv_hardware.proofs.Words.{is_buffered_in, rows_of, Execution, Row, Step, Interrupt, Retired, Trap, and_first}
use Rattle.rv_hardware.proofs.Words.{and_second, Each-all, count-count_by, count-append, count-map, count-le}
use Rattle.rv_hardware.proofs.Marks.Cited.{History, Mark, mark_of_row, mark_of_entry, mark_of_fetched, until}
use Rattle.rv_hardware.proofs.Marks.Cited.{broadcast_of_execution, rows_append}
use Rattle.rv_hardware.proofs.Laws.FetchBuffer.{buffered_shows}
use Rattle.rv_hardware.proofs.Laws.RunsOn.{RunsOn, rows_of_all, none_earlier}
use Rattle.rv_hardware.proofs.Laws.NoIdleDispatch.{none_until}
use Rattle.rv_hardware.proofs.Laws.NoIdleFetch.Links.{is_word, with_word, Followed, IsOpen, Linked, held_after}
use Rattle.rv_hardware.proofs.Laws.NoIdleFetch.Links.{held_count}
use Rattle.rv_hardware.proofs.Laws.NoIdleFetch.Rows.{marks_are_linked}
use Rattle.rv_hardware.proofs.Laws.NoIdleFetch.Next.{next_was_fetched}

linked_at : (v : Values) (now : ℕ) (last : (ℕ → ℕ) → Mark → Type 0) (held : ℕ → ℕ) (xs ys : List Mark) (m n : Mark) →
    Linked v now last held (xs ++ m ∷ n ∷ ys) → Followed v now (held_after held xs) m n
linked_at v now last held [] ys m n h = h.0
linked_at v now last held (x ∷ xs) ys m n h = linked_at v now last (with_word held x) xs ys m n h.1

-- a word in the buffer is one of the rows that were
word_is_buffered : (c : ℕ) (row : Row) → is_word c (mark_of_row row) ≡ true → is_buffered_in c row ≡ true
word_is_buffered c row is = grind (arith, and_from, and_first, none_until, and_second)

-- they are no more than all
held_rows : (c : ℕ) (before after : List Row) →
    held_after (λ n. 0) (map mark_of_row before) c ≤ count_by (is_buffered_in c) (before ++ after)
held_rows c before after =
    let held = held_count (λ n. 0) (map mark_of_row before) c in
    let marks = count-map (is_word c) mark_of_row before in
    let fewer = count-le (λ row. is_word c (mark_of_row row)) (is_buffered_in c) before
    (Each-all _ (word_is_buffered c) before) in
    let both = count-append (is_buffered_in c) before after in
    let all = count-count_by (is_buffered_in c) (before ++ after) in
    omega (arith, held, marks, fewer, both, all)

after_one : (held : ℕ → ℕ) (xs : List Mark) (m : Mark) (c : ℕ) →
    held_after held (xs ++ m ∷ []) c ≡ with_word (held_after held xs) m c
after_one held [] m c = refl
after_one held (x ∷ xs) m c = after_one (with_word held x) xs m c

sent_at : (o : Option Execution) {t : ℕ} → broadcast_of_execution o ≡ Some t → MatchOption o ⊥ (λ x. t ≡ x.broadcast)
sent_at o is = grind arith

module _ {v : Values} {earlier steps : List Step} {old h : Hardware} (run : RunsOn v earlier steps old h) where
  rows_at : (before after : List Step) (a b : Row) → earlier ++ steps ≡ before ++ Retired a ∷ Retired b ∷ after →
      rows_of (earlier ++ steps) ≡ rows_of before ++ a ∷ b ∷ rows_of after
  rows_at before after a b at = ap rows_of at ∙ rows_append before (Retired a ∷ Retired b ∷ after)

  -- the marks after those of the rows
  abbrev after_rows : List Mark
  after_rows = map mark_of_entry h.rob.entries ++ map mark_of_fetched h.front.entries

  followed_rows : (before after : List Row) (a b : Row) → rows_of (earlier ++ steps) ≡ before ++ a ∷ b ∷ after →
      Followed v h.cycle (held_after (λ c. 0) (map mark_of_row before)) (mark_of_row a) (mark_of_row b)
  followed_rows before after a b at =
      linked_at v h.cycle (IsOpen v h.front.halted h.cycle) (λ c. 0) (map mark_of_row before)
      (map mark_of_row after ++ after_rows) (mark_of_row a) (mark_of_row b)
      (subst (Linked v h.cycle (IsOpen v h.front.halted h.cycle) (λ c. 0))
      (ap (λ l. map mark_of_row l ++ after_rows) at ∙
      ap (λ l. l ++ after_rows) (map-append mark_of_row before (a ∷ b ∷ after)) ∙
      append_assoc (map mark_of_row before) (map mark_of_row (a ∷ b ∷ after)) after_rows)
      (marks_are_linked run.all))

  module _ (before after : List Row) (a b : Row) (at : rows_of (earlier ++ steps) ≡ before ++ a ∷ b ∷ after)
      (by : b.fetched ≤ a.retired) where
    filled_rows : (c : ℕ) → old.cycle ≤ c →
        v.fetch_buffer ≤ with_word (held_after (λ n. 0) (map mark_of_row before)) (mark_of_row a) c →
        v.fetch_buffer ≤ count_by (is_buffered_in c) (rows_of steps)
    filled_rows c from full =
        let one = after_one (λ n. 0) (map mark_of_row before) (mark_of_row a) c in
        let same = ap (λ l. held_after (λ n. 0) l c) (map-append mark_of_row before (a ∷ [])) in
        let fewer = held_rows c (before ++ a ∷ []) (b ∷ after) in
        let whole = ap (count_by (is_buffered_in c)) (at ∙ sym (append_assoc before (a ∷ []) (b ∷ after))) in
        let all = ap (count_by (is_buffered_in c)) (rows_of_all run) in
        let none = none_earlier run (buffered_shows v) c from (rows_of steps) in
        omega (arith, full, one, same, fewer, whole, all, none)

    by_cases : Followed v h.cycle (held_after (λ c. 0) (map mark_of_row before)) (mark_of_row a) (mark_of_row b) →
        IsFetchedAfter v old.cycle (rows_of steps) (Retired a) (Retired b)
    by_cases (now, inl over) = inl (omega (arith, over, by))
    by_cases (now, inr (inl early)) = inr (inl (early.0, sent_at a.execution early.1))
    by_cases (now, inr (inr full)) = inr (inr (λ c from later sooner. filled_rows c from (full c later sooner)))

  next_rows : (before after : List Step) (s t : Step) → earlier ++ steps ≡ before ++ s ∷ t ∷ after →
      IsFetchedAfter v old.cycle (rows_of steps) s t
  next_rows before after (Retired a) (Retired b) at =
      by_cases (rows_of before) (rows_of after) a b (rows_at before after a b at)
      (next_was_fetched run.all before after (Retired a) (Retired b) at)
      (followed_rows (rows_of before) (rows_of after) a b (rows_at before after a b at))
  next_rows before after s t at = tt

  -- the field `no_idle_fetch` of `Laws`, of every run
  pub law_of_no_idle_fetch : EachNext (IsFetchedAfter v old.cycle (rows_of steps)) steps
  law_of_no_idle_fetch before after s t at =
      next_rows (earlier ++ before) after s t
      (ap (λ l. earlier ++ l) at ∙ sym (append_assoc earlier before (s ∷ t ∷ after)))
