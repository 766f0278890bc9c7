-- Where marks are counted at the end of each cycle, no more rows pass the test of a cycle than marks did.
use Rattle.rv_hardware.proofs.Words.{◌≡◌, ℕ, suc, ◌<◌, ◌≤◌, Bool, true, false, cond, ◌&&◌, List, [], ◌∷◌, ◌++◌, map}
use Rattle.rv_hardware.proofs.Words.{count_by, refl, ◌∙◌, inl, inr, arith, le-leb, cases_lt, map-append, Lines, Values}
use Rattle.rv_hardware.proofs.Words.{Each, Hardware, Report, rows_of, Row, Step, EveryAfter, count, count-count_by}
use Rattle.rv_hardware.proofs.Words.{count-none, count-map, count-le, Beginning-count, EveryAfter-at, each_then}
use Rattle.rv_hardware.proofs.Marks.History.{Passed, History, history_is_sound}
use Rattle.rv_hardware.proofs.Marks.List.{Mark, mark_of_row, marks_in, at_end, as_of, as_of-append, was_fetched}
use Rattle.rv_hardware.proofs.Marks.List.{Extends}
use Rattle.rv_hardware.proofs.Marks.Past.{rows_obey}
use Rattle.rv_hardware.proofs.Marks.Row.{SoundRow}

-- counts as of a cycle

picked : (p : Mark → Bool) (c : ℕ) (b : Bool) (m : Mark) (ms : List Mark) →
    count p (map (at_end c) (cond b (m ∷ ms) ms)) ≡
    cond (b && p (at_end c m)) (suc (count p (map (at_end c) ms))) (count p (map (at_end c) ms))
picked p c b m ms = grind arith

-- a count of marks as they stood at the end of a cycle is a count of the marks
pub count-as_of : (p : Mark → Bool) (c : ℕ) (ms : List Mark) →
    count p (as_of c ms) ≡ count (λ m. was_fetched c m && p (at_end c m)) ms
count-as_of p c [] = refl
count-as_of p c (m ∷ ms) = grind (arith, picked, count-as_of p c ms)

-- what a test of rows shows of their marks, and that none passes it from its retirement on
pub record Shows (v : Values) (row_test : ℕ → Row → Bool) (test : ℕ → Mark → Bool) : Type 0 where
  pub mark : (c bound : ℕ) (row : Row) → SoundRow v bound row → row_test c row ≡ true →
      (was_fetched c (mark_of_row row) && test c (at_end c (mark_of_row row))) ≡ true
  pub ends : (c bound : ℕ) (row : Row) → SoundRow v bound row → row_test c row ≡ true → c < row.retired

-- a sound row that retired by a cycle fails the test of that cycle
pub fails_later : {v : Values} {row_test : ℕ → Row → Bool} {test : ℕ → Mark → Bool} (shows : Shows v row_test test)
    (c : ℕ) {bound : ℕ} {row : Row} →
    bound ≤ c → SoundRow v bound row → (b : Bool) → row_test c row ≡ b → row_test c row ≡ false
fails_later shows c {bound} {row} le sound true is =
    absurd (let before = shows.ends c bound row sound is in omega (arith, le, before, sound.below))
fails_later shows c le sound false is = is

module _ {v : Values} {row_test : ℕ → Row → Bool} {test : ℕ → Mark → Bool} (shows : Shows v row_test test) (most : ℕ)
    (own : (earlier : List Step) (old new : Hardware) (lines : Lines) (report : Report) → History v earlier old →
    History v (earlier ++ report.steps) new →
    Passed v (Extends old.cycle (marks_in earlier old)) earlier lines old report new →
    count (test old.cycle) (marks_in (earlier ++ report.steps) new) ≤ most) where
  counted_before : {steps : List Step} {h : Hardware} → History v steps h → (c : ℕ) → c < h.cycle →
      count (row_test c) (rows_of steps) ≤ most
  counted_before {steps} {h} history c lt =
      let obeys = rows_obey v (λ n ms. count (test n) ms ≤ most)
      (λ n xs ys b le. let less = Beginning-count (test n) xs ys b in omega (arith, less, le)) own history c lt in
      let counts = count-as_of (test c) c (map mark_of_row (rows_of steps)) ∙
      count-map (λ m. was_fetched c m && test c (at_end c m)) mark_of_row (rows_of steps) in
      let fewer = count-le (row_test c)
      (λ row. was_fetched c (mark_of_row row) && test c (at_end c (mark_of_row row))) _
      (each_then (λ row sound. shows.mark c h.cycle row sound) _ (history_is_sound history).rows) in
      omega (arith, obeys, counts, fewer)

  counted_after : {steps : List Step} {h : Hardware} → History v steps h → (c : ℕ) → h.cycle ≤ c →
      count (row_test c) (rows_of steps) ≤ most
  counted_after {steps} {h} history c le =
      let none = count-none (row_test c) _
      (each_then (λ row sound. fails_later shows c le sound (row_test c row) refl) _ (history_is_sound history).rows) in
      omega (arith, none)

  -- at most so many rows pass
  pub counted_law : {steps : List Step} {h : Hardware} → History v steps h → (c : ℕ) →
      count_by (row_test c) (rows_of steps) ≤ most
  counted_law {steps} {h} history c =
      let same = count-count_by (row_test c) (rows_of steps) in
      elim (cases_lt c h.cycle) [
        | inl before ↦ let le = counted_before history c before in omega (arith, same, le)
        | inr after ↦ let le = counted_after history c after in omega (arith, same, le)
      ]

-- what stands after others

pub as_of_place : (c : ℕ) (before after : List Mark) (m : Mark) → was_fetched c m ≡ true →
    as_of c (before ++ m ∷ after) ≡ as_of c before ++ at_end c m ∷ as_of c after
as_of_place c before after m is = grind (arith, as_of-append)

-- what marks obeyed at the end of a cycle, of one row after others
pub after_law : (P : List Mark → Mark → Type 0) (c : ℕ) {rows : List Row} (before after : List Row) (row : Row) →
    EveryAfter P [] (as_of c (map mark_of_row rows)) → rows ≡ before ++ row ∷ after → row.fetched ≤ c →
    P (as_of c (map mark_of_row before)) (at_end c (mark_of_row row))
after_law P c before after row h given le = grind (arith, EveryAfter-at, map-append, as_of_place, le-leb)

-- where the test of marks shows that of rows, no more marks pass it than rows
pub after_count : (p : Mark → Bool) (q : Row → Bool) (c : ℕ) (before : List Row) →
    Each (λ a. (was_fetched c (mark_of_row a) && p (at_end c (mark_of_row a))) ≡ true → q a ≡ true) before →
    count p (as_of c (map mark_of_row before)) ≤ count_by q before
after_count p q c before shows =
    let counts = count-as_of p c (map mark_of_row before) ∙
    count-map (λ m. was_fetched c m && p (at_end c m)) mark_of_row before in
    let fewer = count-le (λ row. was_fetched c (mark_of_row row) && p (at_end c (mark_of_row row))) q before shows in
    let same = count-count_by q before in
    omega (arith, counts, fewer, same)
