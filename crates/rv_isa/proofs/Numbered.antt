-- Lists of things that have sequence numbers: those below a number, and the order of their numbers.
use Rattle.std.proofs.Common.{◌≡◌, ℕ, zero, suc, ◌+◌, ◌<◌, ◌≤◌, inl, inr, Bool, cond, List, []}
use Rattle.std.proofs.Common.{◌∷◌, ◌++◌, length, get_or, take, drop, map, filter, remove}
use Rattle.std.proofs.Common.{slice_get, Some, All, nat_lt, append-nil, refl, ap, sym, ◌∙◌, arith}
use Rattle.std.specs.List.Sorted.{IsNonDecreasingBy}
use Rattle.std.proofs.lemmas.Bool.{cases_lt, lt-ltb, le-ltb}
use Rattle.std.proofs.lemmas.List.Elements.{filter-append, All-append, All-push, All-head, All-tail, All-cons, All-map}
use Rattle.std.proofs.lemmas.List.Kept.{AllPairs-cons, AllPairs-filter}
use Rattle.std.proofs.lemmas.List.Quantifiers.{all_pairs_push, all_pairs_remove}
use Rattle.rv_isa.specs.Numbered.{below, AreBelow, IsInOrder}

module _ {X : Type 0} (seq : X → ℕ) where
  -- those below a number

  -- those below n of two lists are those of the first, then those of the second
  pub below-append : (n : ℕ) (xs ys : List X) → below seq n (xs ++ ys) ≡ below seq n xs ++ below seq n ys
  below-append n xs ys = filter-append (λ x. nat_lt (seq x) n) xs ys

  -- the first is below n, and stays
  pub below-stays : (n : ℕ) (x : X) (xs : List X) → seq x < n → below seq n (x ∷ xs) ≡ x ∷ below seq n xs
  below-stays n x xs lt = rw (lt-ltb (seq x) n lt) refl

  -- the first is not below n, and goes
  pub below-goes : (n : ℕ) (x : X) (xs : List X) → n ≤ seq x → below seq n (x ∷ xs) ≡ below seq n xs
  below-goes n x xs le = rw (le-ltb (seq x) n le) refl

  -- where every number is below n, all are kept
  pub below-all : (n : ℕ) (xs : List X) → AreBelow seq n xs → below seq n xs ≡ xs
  below-all n [] are = refl
  below-all n (x ∷ xs) are = below-stays n x xs (are 0 x (omega arith))
      ∙ ap (λ l. x ∷ l) (below-all n xs (All-tail (λ z. seq z < n) x xs are))

  -- where no number is below n, none is kept
  pub below-none : (n : ℕ) (xs : List X) → All (λ x. n ≤ seq x) xs → below seq n xs ≡ []
  below-none n [] are = refl
  below-none n (x ∷ xs) are = below-goes n x xs (are 0 x (omega arith))
      ∙ below-none n xs (All-tail (λ z. n ≤ seq z) x xs are)

  -- those below the lower of two numbers
  pub below-below : (m n : ℕ) (xs : List X) → m ≤ n → below seq m (below seq n xs) ≡ below seq m xs
  below-below m n [] le = refl
  below-below m n (x ∷ xs) le = elim (cases_lt (seq x) n) [
    | inl low ↦ ap (below seq m) (below-stays n x xs low)
        ∙ ap (λ l. cond (nat_lt (seq x) m) (x ∷ l) l) (below-below m n xs le)
    | inr high ↦ ap (below seq m) (below-goes n x xs high) ∙ below-below m n xs le
        ∙ sym (below-goes m x xs (omega arith))
  ]

  -- one list whose numbers are all below n, and one whose are not
  pub below-split : (n : ℕ) (xs ys : List X) → AreBelow seq n xs → All (λ y. n ≤ seq y) ys → below seq n (xs ++ ys) ≡ xs
  below-split n xs ys low high =
      below-append n xs ys ∙ (λ i. below-all n xs low i ++ below-none n ys high i) ∙ append-nil xs

  -- every number is below n

  -- what is below a number is below each that is no lower
  pub AreBelow-weaken : (m n : ℕ) (xs : List X) → m ≤ n → AreBelow seq m xs → AreBelow seq n xs
  AreBelow-weaken m n xs le are k d lt = omega (arith, are k d lt)

  -- one more below n before all
  pub AreBelow-cons : (n : ℕ) (x : X) (xs : List X) → seq x < n → AreBelow seq n xs → AreBelow seq n (x ∷ xs)
  AreBelow-cons n x xs lt are = All-cons (λ z. seq z < n) x xs lt are

  -- the first is below n
  pub AreBelow-head : (n : ℕ) (x : X) (xs : List X) → AreBelow seq n (x ∷ xs) → seq x < n
  AreBelow-head n x xs are = All-head (λ z. seq z < n) x xs are

  -- those after the first are below n
  pub AreBelow-tail : (n : ℕ) (x : X) (xs : List X) → AreBelow seq n (x ∷ xs) → AreBelow seq n xs
  AreBelow-tail n x xs are = All-tail (λ z. seq z < n) x xs are

  -- two lists that are below n, one after the other
  pub AreBelow-append : (n : ℕ) (xs ys : List X) → AreBelow seq n xs → AreBelow seq n ys → AreBelow seq n (xs ++ ys)
  AreBelow-append n xs ys low high = All-append (λ z. seq z < n) xs ys low high

  -- one more below n after all
  pub AreBelow-push : (n : ℕ) (xs : List X) (x : X) → AreBelow seq n xs → seq x < n → AreBelow seq n (xs ++ x ∷ [])
  AreBelow-push n xs x are lt = All-push (λ z. seq z < n) xs x are lt

  -- those below n are below n
  pub below-AreBelow : (n : ℕ) (xs : List X) → AreBelow seq n (below seq n xs)
  below-AreBelow n [] = λ k d lt. absurd (omega arith)
  below-AreBelow n (x ∷ xs) = elim (cases_lt (seq x) n) [
    | inl low ↦ rw (below-stays n x xs low) (AreBelow-cons n x (below seq n xs) low (below-AreBelow n xs))
    | inr high ↦ rw (below-goes n x xs high) (below-AreBelow n xs)
  ]

  -- the one at a place
  pub AreBelow-slice_get : (n i : ℕ) (xs : List X) (x : X) → AreBelow seq n xs → slice_get xs i ≡ Some x → seq x < n
  AreBelow-slice_get n i [] x are at = absurd (cc)
  AreBelow-slice_get n zero (y ∷ ys) x are at = let same : y ≡ x = cc in rw (← same) (AreBelow-head n y ys are)
  AreBelow-slice_get n (suc i) (y ∷ ys) x are at = AreBelow-slice_get n i ys x (AreBelow-tail n y ys are) at

  -- each number is below all later ones

  -- one with a smaller number before all
  pub IsInOrder-cons : (x : X) (xs : List X) → All (λ y. seq x < seq y) xs → IsInOrder seq xs → IsInOrder seq (x ∷ xs)
  IsInOrder-cons x xs above order = AllPairs-cons (λ y z. seq y < seq z) x xs above order

  -- all later ones are above the first
  pub IsInOrder-head : (x : X) (xs : List X) → IsInOrder seq (x ∷ xs) → All (λ y. seq x < seq y) xs
  IsInOrder-head x xs order k d lt = order 0 (suc k) d (omega arith) (omega arith)

  -- those after the first are in order
  pub IsInOrder-tail : (x : X) (xs : List X) → IsInOrder seq (x ∷ xs) → IsInOrder seq xs
  IsInOrder-tail x xs order i j d lt within = order (suc i) (suc j) d (omega arith) (omega arith)

  -- one with a larger number after all
  pub IsInOrder-push : (xs : List X) (x : X) → IsInOrder seq xs → AreBelow seq (seq x) xs → IsInOrder seq (xs ++ x ∷ [])
  IsInOrder-push xs x order are = all_pairs_push (λ y z. seq y < seq z) xs x order are

  -- those below n stay in order
  pub IsInOrder-below : (n : ℕ) (xs : List X) → IsInOrder seq xs → IsInOrder seq (below seq n xs)
  IsInOrder-below n xs order = AllPairs-filter (λ y z. seq y < seq z) (λ z. nat_lt (seq z) n) xs order

  -- those that pass a test stay in order
  pub IsInOrder-filter : (test : X → Bool) (xs : List X) → IsInOrder seq xs → IsInOrder seq (filter test xs)
  IsInOrder-filter test xs order = AllPairs-filter (λ y z. seq y < seq z) test xs order

  -- all but one stay in order
  pub IsInOrder-remove : (i : ℕ) (xs : List X) → i < length xs → IsInOrder seq xs → IsInOrder seq (remove xs i)
  IsInOrder-remove i xs within order = all_pairs_remove (λ y z. seq y < seq z) xs i within order

  -- all but the first k stay in order
  pub IsInOrder-drop : (k : ℕ) (xs : List X) → IsInOrder seq xs → IsInOrder seq (drop k xs)
  IsInOrder-drop zero xs order = order
  IsInOrder-drop (suc k) [] order = order
  IsInOrder-drop (suc k) (x ∷ xs) order = IsInOrder-drop k xs (IsInOrder-tail x xs order)

  -- in order, none is below n after one that is not
  pub below-stops : (n : ℕ) (x : X) (xs : List X) → IsInOrder seq (x ∷ xs) → n ≤ seq x → below seq n (x ∷ xs) ≡ []
  below-stops n x xs order le = below-goes n x xs le
      ∙ below-none n xs (λ k d lt. omega (arith, IsInOrder-head x xs order k d lt))

  -- in order, those below n are a beginning of the list
  pub below-take : (n : ℕ) (xs : List X) → IsInOrder seq xs → below seq n xs ≡ take (length (below seq n xs)) xs
  below-take n [] order = refl
  below-take n (x ∷ xs) order = elim (cases_lt (seq x) n) [
    | inl low ↦ rw (below-stays n x xs low) (ap (λ l. x ∷ l) (below-take n xs (IsInOrder-tail x xs order)))
    | inr high ↦ rw (below-stops n x xs order high) refl
  ]

  -- where exactly the first i are below n, those are a beginning of length i
  pub below-prefix : (n i : ℕ) (xs : List X) → i ≤ length xs → ((k : ℕ) (d : X) → k < i → seq (get_or xs k d) < n) →
      ((k : ℕ) (d : X) → i ≤ k → k < length xs → n ≤ seq (get_or xs k d)) → below seq n xs ≡ take i xs
  below-prefix n zero xs within low high = below-none n xs (λ k d lt. high k d (omega arith) lt)
  below-prefix n (suc i) [] within low high = refl
  below-prefix n (suc i) (x ∷ xs) within low high =
      below-stays n x xs (low 0 x (omega arith))
      ∙ ap (λ l. x ∷ l)
      (below-prefix n i xs (omega arith) (λ k d lt. low (suc k) d (omega arith))
      (λ k d le lt. high (suc k) d (omega arith) (omega arith)))

  -- the one at a place is above the first
  IsInOrder-slice_get : (x : X) (i : ℕ) (xs : List X) (y : X) → All (λ z. seq x < seq z) xs → slice_get xs i ≡ Some y →
      seq x < seq y
  IsInOrder-slice_get x i [] y above at = absurd (cc)
  IsInOrder-slice_get x zero (z ∷ zs) y above at = let same : z ≡ y = cc in rw (← same) (above 0 z (omega arith))
  IsInOrder-slice_get x (suc i) (z ∷ zs) y above at =
      IsInOrder-slice_get x i zs y (All-tail (λ w. seq x < seq w) z zs above) at

  -- in order, all are below n where the last is
  pub AreBelow-last : (n i : ℕ) (xs : List X) (x : X) → IsInOrder seq xs → length xs ≤ i + 1 → slice_get xs i ≡ Some x →
      seq x < n → AreBelow seq n xs
  AreBelow-last n i [] x order past at lt = λ k d within. absurd (omega arith)
  AreBelow-last n zero (y ∷ []) x order past at lt = let same : y ≡ x = cc in
      AreBelow-cons n y [] (rw same lt) (λ k d within. absurd (omega arith))
  AreBelow-last n zero (y ∷ z ∷ ys) x order past at lt = absurd (omega arith)
  AreBelow-last n (suc i) (y ∷ ys) x order past at lt =
      AreBelow-cons n y ys (omega (arith, IsInOrder-slice_get y i ys x (IsInOrder-head y ys order) at))
      (AreBelow-last n i ys x (IsInOrder-tail y ys order) (omega arith) at lt)

-- a change that keeps the numbers
module _ {X Y : Type 0} (seq : X → ℕ) (key : Y → ℕ) (f : X → Y) (same : (x : X) → key (f x) ≡ seq x) where
  -- those below n are changed to those below n of the changed list
  pub below-map : (n : ℕ) (xs : List X) → below key n (map f xs) ≡ map f (below seq n xs)
  below-map n [] = refl
  below-map n (x ∷ xs) = elim (cases_lt (seq x) n) [
    | inl low ↦ below-stays key n (f x) (map f xs) (omega (arith, same x)) ∙ ap (λ l. f x ∷ l) (below-map n xs)
        ∙ sym (ap (map f) (below-stays seq n x xs low))
    | inr high ↦ below-goes key n (f x) (map f xs) (omega (arith, same x)) ∙ below-map n xs
        ∙ sym (ap (map f) (below-goes seq n x xs high))
  ]

  -- a list in order is changed to one in order
  pub IsInOrder-map : (xs : List X) → IsInOrder seq xs → IsInOrder key (map f xs)
  IsInOrder-map [] order = λ i j d lt within. absurd (omega arith)
  IsInOrder-map (x ∷ xs) order =
      IsInOrder-cons key (f x) (map f xs)
      (All-map (λ z. key (f x) < key z) f xs
      (λ k d lt. omega (arith, same x, same (get_or xs k d), IsInOrder-head seq x xs order k d lt)))
      (IsInOrder-map xs (IsInOrder-tail seq x xs order))
