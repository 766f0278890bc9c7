-- No more things are counted at the words of RAM than there are.
use Rattle.std.proofs.Common.{◌≡◌, ◌∙◌, ℕ, zero, suc, ◌+◌, ◌-◌, ◌≤◌, ◌==◌, nat_lt, Bool, true, false, List, [], ◌∷◌}
use Rattle.std.proofs.Common.{length, map, Option, Some, None, cond, refl, ap, arith, ne_eqb}
use Rattle.std.proofs.lemmas.Bool.{eqb-true}
use Rattle.std.proofs.lemmas.List.Sums.{sum_by-cons}
use Rattle.std.specs.Prelude.{slice_set, sum}
use Rattle.std.specs.List.{range_with_len, slice_get}
use Rattle.rv_isa.specs.declared.values.Values.{Values}
use Rattle.rv_sentences.specs.WordCount.{count_at, is_word, or_nothing, with_all, with_one}
use Rattle.rv_sentences.specs.WordNotes.{Notes, note_at, notes_of}

-- the sum of a function of so many words
total : (ℕ → ℕ) → ℕ → ℕ → ℕ
total f a zero = 0
total f a (suc n) = f a + total f (a + 1) n

sum_is_total : (f : ℕ → ℕ) (a n : ℕ) → sum (map f (range_with_len a n)) ≡ total f a n
unfolding total
sum_is_total f a zero = refl
sum_is_total f a (suc n) = sum_by-cons (λ (c : ℕ). c) (f a) (map f (range_with_len (a + 1) n))
    ∙ ap (λ t. f a + t) (sum_is_total f (a + 1) n)

total_none : (f : ℕ → ℕ) (a n : ℕ) → ((w : ℕ) → a ≤ w → f w ≡ 0) → total f a n ≡ 0
unfolding total
total_none f a zero none = refl
total_none f a (suc n) none =
    omega (arith, none a (omega arith), total_none f (a + 1) n (λ w from. none w (omega (arith, from))))

total_both : (f g : ℕ → ℕ) (a n : ℕ) → total (λ w. f w + g w) a n ≡ total f a n + total g a n
unfolding total
total_both f g a zero = refl
total_both f g a (suc n) = omega (arith, total_both f g (a + 1) n)

at_word : Option ℕ → ℕ → ℕ
at_word place w = cond (is_word w place) 1 0

at_word-other : (place : Option ℕ) (w : ℕ) → is_word w place ≡ false → at_word place w ≡ 0
unfolding at_word
at_word-other place w is = rw is refl

-- a thing is at a word once at most
one_place : (place a n : ℕ) → total (at_word (Some place)) a n ≤ 1
unfolding total at_word
one_place place a zero = omega arith
one_place place a (suc n) = by_first (place == a) refl (one_place place (a + 1) n) where
  by_first : (here : Bool) → (place == a) ≡ here → total (at_word (Some place)) (a + 1) n ≤ 1 →
      at_word (Some place) a + total (at_word (Some place)) (a + 1) n ≤ 1
  by_first true here rest =
      let same = eqb-true place a here in
      let others = total_none (at_word (Some place)) (a + 1) n
      (λ w from. at_word-other (Some place) w (ne_eqb place w (λ is. omega (arith, is, same, from)))) in
      rw here (omega (arith, others))
  by_first false here rest = rw here (omega (arith, rest))

places_once : (place : Option ℕ) (a n : ℕ) → total (at_word place) a n ≤ 1
places_once None a n = let none = total_none (at_word None) a n (λ w from. at_word-other None w refl) in
    omega (arith, none)
places_once (Some place) a n = one_place place a n

module _ {X : Type 0} (place : X → Option ℕ) where
  counts_within : (xs : List X) (a n : ℕ) → total (count_at place xs) a n ≤ length xs
  unfolding at_word
  counts_within [] a n = let none = total_none (count_at place []) a n (λ w from. refl) in omega (arith, none)
  counts_within (x ∷ xs) a n =
      let each : (w : ℕ) → count_at place (x ∷ xs) w ≡ at_word (place x) w + count_at place xs w =
      λ w. sum_by-cons (λ (y : X). at_word (place y) w) x xs in
      let apart : total (count_at place (x ∷ xs)) a n ≡ total (λ w. at_word (place x) w + count_at place xs w) a n =
      λ i. total (λ w. each w i) a n in
      let both = total_both (at_word (place x)) (count_at place xs) a n in
      omega (arith, apart, both, places_once (place x) a n, counts_within xs a n)

  -- all counts together
  pub counted_within : (values : Values) (xs : List X) → sum (notes_of values (count_at place xs)).words ≤ length xs
  counted_within values xs = grind (arith, sum_is_total, counts_within)

-- ---- one more

sum_cons : (count : ℕ) (counts : List ℕ) → sum (count ∷ counts) ≡ count + sum counts
sum_cons count counts = sum_by-cons (λ (n : ℕ). n) count counts

one_of : (counts : List ℕ) (i n : ℕ) → slice_get counts i ≡ Some n → n ≤ sum counts
one_of [] i n is = absurd cc
one_of (count ∷ counts) zero n is = omega (arith, sum_cons count counts, ap or_nothing is)
one_of (count ∷ counts) (suc i) n is = omega (arith, sum_cons count counts, one_of counts i n is)

counted_by : (counts : List ℕ) (i n : ℕ) (below : Bool) → cond below None (slice_get counts i) ≡ Some n → n ≤ sum counts
counted_by counts i n true is = absurd cc
counted_by counts i n false is = one_of counts i n is

-- the count of a word is no more than all together
pub counted_few : (counts : Notes ℕ) (word n : ℕ) → note_at counts word ≡ Some n → n ≤ sum counts.words
counted_few counts word n is = counted_by counts.words (word - counts.first) n (nat_lt word counts.first) is

sum_set : (counts : List ℕ) (i n : ℕ) → slice_get counts i ≡ Some n → sum (slice_set counts i (n + 1)) ≡ sum counts + 1
sum_set [] i n is = absurd cc
sum_set (count ∷ counts) zero n is = omega (arith, sum_cons (n + 1) counts, sum_cons count counts, ap or_nothing is)
sum_set (count ∷ counts) (suc i) n is =
    omega (arith, sum_cons count (slice_set counts i (n + 1)), sum_cons count counts, sum_set counts i n is)

sum_at : (counts : Notes ℕ) (word : ℕ) (below : Bool) → nat_lt word counts.first ≡ below → (got : Option ℕ) →
    slice_get counts.words (word - counts.first) ≡ got
    → sum (with_one (Some word) counts).words ≤ sum counts.words + 1
sum_at counts word true is got got_is = rw is (omega arith)
sum_at counts word false is None got_is = rw (is, got_is) (omega arith)
sum_at counts word false is (Some n) got_is =
    rw (is, got_is, is) (omega (arith, sum_set counts.words (word - counts.first) n got_is))

-- one thing more is counted once at most
pub sum_with_one : (place : Option ℕ) (counts : Notes ℕ) → sum (with_one place counts).words ≤ sum counts.words + 1
sum_with_one place counts = grind (arith, sum_at)

pub sum_with_all : {X : Type 0} (place : X → Option ℕ) (xs : List X) (counts : Notes ℕ) →
    sum (with_all place xs counts).words ≤ sum counts.words + length xs
sum_with_all place [] counts = omega arith
sum_with_all place (x ∷ xs) counts =
    omega (arith, sum_with_one (place x) (with_all place xs counts), sum_with_all place xs counts)
