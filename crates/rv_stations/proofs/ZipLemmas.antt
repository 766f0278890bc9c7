-- Lists joined element by element, as an edit of both leaves them.
use Rattle.std.proofs.Common.{◌≡◌, ℕ, zero, suc, ◌<◌, List, [], ◌∷◌, ◌++◌, length, take, drop, replicate, slice_get}
use Rattle.std.proofs.Common.{slice_set, Some, refl, ap, arith}
use Rattle.std.specs.Simd.Lanes.{zip2}

module _ {X Y Z : Type 0} (f : X → Y → Z) where
  -- one list after another
  pub zip2-append : (xs xs' : List X) (ys ys' : List Y) → length xs ≡ length ys → zip2 f (xs ++ xs') (ys ++ ys')
      ≡ zip2 f xs ys ++ zip2 f xs' ys'
  zip2-append [] xs' [] ys' long = refl
  zip2-append [] xs' (y ∷ ys) ys' long = absurd (omega arith)
  zip2-append (x ∷ xs) xs' [] ys' long = absurd (omega arith)
  zip2-append (x ∷ xs) xs' (y ∷ ys) ys' long = ap (λ zs. f x y ∷ zs) (zip2-append xs xs' ys ys' (omega arith))

  -- the first n of both lists are joined to the first n
  pub zip2-take : (n : ℕ) (xs : List X) (ys : List Y) → zip2 f (take n xs) (take n ys) ≡ take n (zip2 f xs ys)
  zip2-take zero xs ys = refl
  zip2-take (suc n) [] ys = refl
  zip2-take (suc n) (x ∷ xs) [] = refl
  zip2-take (suc n) (x ∷ xs) (y ∷ ys) = ap (λ zs. f x y ∷ zs) (zip2-take n xs ys)

  -- what follows the first n of both lists is joined to what follows the first n
  pub zip2-drop : (n : ℕ) (xs : List X) (ys : List Y) → length xs ≡ length ys → zip2 f (drop n xs) (drop n ys)
      ≡ drop n (zip2 f xs ys)
  zip2-drop zero xs ys long = refl
  zip2-drop (suc n) [] ys long = refl
  zip2-drop (suc n) (x ∷ xs) [] long = absurd (omega arith)
  zip2-drop (suc n) (x ∷ xs) (y ∷ ys) long = zip2-drop n xs ys (omega arith)

  -- an element written to both lists at a place is one written there once joined
  pub zip2-set : (i : ℕ) (xs : List X) (ys : List Y) (x : X) (y : Y) → i < length xs → i < length ys →
      zip2 f (slice_set xs i x) (slice_set ys i y) ≡ slice_set (zip2 f xs ys) i (f x y)
  zip2-set i [] ys x y within_xs within_ys = absurd (omega arith)
  zip2-set i (a ∷ as') [] x y within_xs within_ys = absurd (omega arith)
  zip2-set zero (a ∷ as') (b ∷ bs) x y within_xs within_ys = refl
  zip2-set (suc i) (a ∷ as') (b ∷ bs) x y within_xs within_ys =
      ap (λ zs. f a b ∷ zs) (zip2-set i as' bs x y (omega arith) (omega arith))

  -- copies of two elements are joined to copies of one
  pub zip2-replicate : (n : ℕ) (x : X) (y : Y) → zip2 f (replicate n x) (replicate n y) ≡ replicate n (f x y)
  zip2-replicate zero x y = refl
  zip2-replicate (suc n) x y = ap (λ zs. f x y ∷ zs) (zip2-replicate n x y)

  -- the elements of both lists at a place are joined to the one there
  pub slice_get-zip2 : (i : ℕ) (xs : List X) (ys : List Y) (x : X) (y : Y) → slice_get xs i ≡ Some x →
      slice_get ys i ≡ Some y → slice_get (zip2 f xs ys) i ≡ Some (f x y)
  slice_get-zip2 i [] ys x y at_x at_y = cc
  slice_get-zip2 i (a ∷ as') [] x y at_x at_y = cc
  slice_get-zip2 zero (a ∷ as') (b ∷ bs) x y at_x at_y = cc
  slice_get-zip2 (suc i) (a ∷ as') (b ∷ bs) x y at_x at_y = slice_get-zip2 i as' bs x y at_x at_y
