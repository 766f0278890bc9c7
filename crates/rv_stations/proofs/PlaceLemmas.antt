-- Lists of places, in which one is moved back.
use Rattle.std.proofs.Common.{◌≡◌, ℕ, zero, suc, ◌+◌, ◌<◌, ◌≤◌, List, [], ◌∷◌, ◌++◌, length, get_or, drop, take, remove}
use Rattle.std.proofs.Common.{slice_set, All, refl, ap, arith}
use Rattle.std.specs.List.{AllPairs, insert, range_with_len}
use Rattle.std.proofs.lemmas.List.Elements.{All-cons, All-head, All-tail}
use Rattle.std.proofs.lemmas.List.Kept.{AllPairs-cons}

module _ {A : Type 0} where
  -- what stands after a place moved up by one, and a place was written last
  pub moved-back : (at count last : ℕ) (xs : List A) (x : A) → last ≡ at + count → last < length xs →
      slice_set ((take at xs ++ take count (drop (suc at) xs)) ++ drop last xs) last x ≡ insert (remove xs at) last x
  moved-back at count last [] x is within = absurd (omega arith)
  moved-back zero zero zero (a ∷ xs) x is within = refl
  moved-back zero zero (suc last) (a ∷ xs) x is within = absurd (omega arith)
  moved-back zero (suc count) zero (a ∷ xs) x is within = absurd (omega arith)
  moved-back zero (suc count) (suc last) (a ∷ []) x is within = absurd (omega arith)
  moved-back zero (suc count) (suc last) (a ∷ b ∷ xs) x is within =
      ap (λ ys. b ∷ ys) (moved-back zero count last (b ∷ xs) x (omega arith) (omega arith))
  moved-back (suc at) count zero (a ∷ xs) x is within = absurd (omega arith)
  moved-back (suc at) count (suc last) (a ∷ xs) x is within =
      ap (λ ys. a ∷ ys) (moved-back at count last xs x (omega arith) (omega arith))

  -- an element inserted after the first n leaves them
  pub take-insert : (n : ℕ) (xs : List A) (x : A) → n ≤ length xs → take n (insert xs n x) ≡ take n xs
  take-insert zero xs x within = refl
  take-insert (suc n) [] x within = absurd (omega arith)
  take-insert (suc n) (a ∷ xs) x within = ap (λ ys. a ∷ ys) (take-insert n xs x (omega arith))

  -- the first n once one of the first n + 1 is removed are those n + 1 without it
  pub take-remove : (at n : ℕ) (xs : List A) → at ≤ n → at < length xs →
      take n (remove xs at) ≡ remove (take (suc n) xs) at
  take-remove at n [] order within = absurd (omega arith)
  take-remove zero n (a ∷ xs) order within = refl
  take-remove (suc at) zero (a ∷ xs) order within = absurd (omega arith)
  take-remove (suc at) (suc n) (a ∷ xs) order within =
      ap (λ ys. a ∷ ys) (take-remove at n xs (omega arith) (omega arith))

  module _ (P : A → Type 0) where
    -- what holds of all holds with one more of which it holds
    pub All-insert : (n : ℕ) (xs : List A) (x : A) → All P xs → P x → All P (insert xs n x)
    All-insert zero xs x all holds = All-cons P x xs holds all
    All-insert (suc n) [] x all holds = All-cons P x [] holds all
    All-insert (suc n) (a ∷ xs) x all holds =
        All-cons P a (insert xs n x) (All-head P a xs all) (All-insert n xs x (All-tail P a xs all) holds)

    -- what holds of all holds of those that a removal leaves
    pub All-remove : (at : ℕ) (xs : List A) → at < length xs → All P xs → All P (remove xs at)
    All-remove at [] within all = absurd (omega arith)
    All-remove zero (a ∷ xs) within all = All-tail P a xs all
    All-remove (suc at) (a ∷ xs) within all =
        All-cons P a (remove xs at) (All-head P a xs all) (All-remove at xs (omega arith) (All-tail P a xs all))

  module _ (R : A → A → Type 0) (flip : (x y : A) → R x y → R y x) where
    first : (x : A) (xs : List A) → AllPairs R (x ∷ xs) → All (R x) xs
    first x xs pairs = λ k d lt. pairs 0 (suc k) d (omega arith) (omega arith)

    others : (x : A) (xs : List A) → AllPairs R (x ∷ xs) → AllPairs R xs
    others x xs pairs = λ i j d lt within. pairs (suc i) (suc j) d (omega arith) (omega arith)

    -- what is taken out of a list is related to all that stay
    pub All-others : (at : ℕ) (xs : List A) (d : A) → at < length xs → AllPairs R xs →
        All (R (get_or xs at d)) (remove xs at)
    All-others at [] d within pairs = absurd (omega arith)
    All-others zero (x ∷ xs) d within pairs = first x xs pairs
    All-others (suc at) (x ∷ xs) d within pairs =
        All-cons (R (get_or xs at d)) x (remove xs at)
        (flip x (get_or xs at d) (pairs 0 (suc at) d (omega arith) (omega arith)))
        (All-others at xs d (omega arith) (others x xs pairs))

    -- one more that is related to all may be inserted anywhere, and all pairs stay related
    pub AllPairs-insert : (n : ℕ) (xs : List A) (x : A) → All (R x) xs → AllPairs R xs → AllPairs R (insert xs n x)
    AllPairs-insert zero xs x all pairs = AllPairs-cons R x xs all pairs
    AllPairs-insert (suc n) [] x all pairs = AllPairs-cons R x [] all pairs
    AllPairs-insert (suc n) (y ∷ ys) x all pairs =
        AllPairs-cons R y (insert ys n x)
        (All-insert (R y) n ys x (first y ys pairs) (flip x y (All-head (R x) y ys all)))
        (AllPairs-insert n ys x (All-tail (R x) y ys all) (others y ys pairs))

-- one more number in a row
range_with_len-next : (a n : ℕ) → range_with_len a n ++ (a + n) ∷ [] ≡ range_with_len a (n + 1)
range_with_len-next a zero = let same : a + 0 ≡ a = omega arith in rw same refl
range_with_len-next a (suc n) = grind (arith, range_with_len-next (a + 1) n)

-- the numbers below n, then n, are those below n + 1
pub range-next : (n : ℕ) → range_with_len 0 n ++ n ∷ [] ≡ range_with_len 0 (n + 1)
range-next n = let same : 0 + n ≡ n = omega arith in rw same at (range_with_len-next 0 n)
