-- The place of an address among what is kept in order, and the change there.
use Rattle.std.proofs.Common.{◌≡◌, ◌∙◌, ℕ, zero, suc, ◌+◌, ◌<◌, ◌≤◌, ◌==◌, nat_lt, Bool, true, false, List, [], ◌∷◌}
use Rattle.std.proofs.Common.{length, get_or, set, refl, ap, sym, subst, arith, eq-eqb, Result, Ok, Err, IfOk, IfErr}
use Rattle.std.specs.Prelude.{insert}
use Rattle.std.specs.List.Sorted.{IsBinarySearchResult, IsNonDecreasingBy, IsSearchInRange}
use Rattle.std.specs.Ordering.{nat_cmp, ordering_index}
use Rattle.std.proofs.lemmas.Cmp.{ranked}
use Rattle.std.proofs.lemmas.List.{set-get_or}
use Rattle.std.proofs.lemmas.List.Edits.{get_or-insert_at}
use Rattle.std.proofs.lemmas.Bool.{eqb-true, ltb-true}
use Rattle.std.proofs.lemmas.Bool.Decides.{nat_tests}
use Rattle.rv_passage.specs.ByAddress.{AreAbove, IsInOrder, IsPlaceFor, IsPlaceOf, with_change}

-- what was put in at a place may be changed there
set-insert : {X : Type 0} (xs : List X) (i : ℕ) (x y : X) → i ≤ length xs → set (insert xs i x) i y ≡ insert xs i y
set-insert [] zero x y within = refl
set-insert [] (suc i) x y within = absurd (omega arith)
set-insert (z ∷ xs) zero x y within = refl
set-insert (z ∷ xs) (suc i) x y within = ap (λ l. z ∷ l) (set-insert xs i x y (omega arith))

module _ {X : Type 0} (address_of : X → ℕ) where
  -- those above an address are above a lower one
  pub above-lower : (low high : ℕ) (xs : List X) → low < high → AreAbove address_of high xs → AreAbove address_of low xs
  above-lower low high [] under above = tt
  above-lower low high (x ∷ xs) under above = (omega (arith, under, above.0), above-lower low high xs under above.1)

  above-at : (low : ℕ) (xs : List X) (i : ℕ) (d : X) → AreAbove address_of low xs → i < length xs →
      low < address_of (get_or xs i d)
  above-at low [] i d above here = absurd (omega arith)
  above-at low (x ∷ xs) zero d above here = above.0
  above-at low (x ∷ xs) (suc i) d above here = above-at low xs i d above.1 (omega arith)

  -- a later place has no lower address
  in_order-le : (xs : List X) → IsInOrder address_of xs → IsNonDecreasingBy address_of xs
  in_order-le [] order i j d along within = absurd (omega arith)
  in_order-le (x ∷ xs) order zero zero d along within = omega arith
  in_order-le (x ∷ xs) order zero (suc j) d along within =
      let above = above-at (address_of x) xs j d order.0 (omega arith) in omega (arith, above)
  in_order-le (x ∷ xs) order (suc i) zero d along within = absurd (omega arith)
  in_order-le (x ∷ xs) order (suc i) (suc j) d along within = in_order-le xs order.1 i j d (omega arith) (omega arith)

  -- and a higher one, where it is another place
  in_order-lt : (xs : List X) (i j : ℕ) (d e : X) → IsInOrder address_of xs → i < j → j < length xs →
      address_of (get_or xs i d) < address_of (get_or xs j e)
  in_order-lt [] i j d e order along within = absurd (omega arith)
  in_order-lt (x ∷ xs) zero zero d e order along within = absurd (omega arith)
  in_order-lt (x ∷ xs) zero (suc j) d e order along within = above-at (address_of x) xs j e order.0 (omega arith)
  in_order-lt (x ∷ xs) (suc i) zero d e order along within = absurd (omega arith)
  in_order-lt (x ∷ xs) (suc i) (suc j) d e order along within =
      in_order-lt xs i j d e order.1 (omega arith) (omega arith)

  module _ (address : ℕ) (xs : List X) (order : IsInOrder address_of xs) where
    comparisons_rise : IsNonDecreasingBy (λ x. ordering_index (nat_cmp (address_of x) address)) xs
    comparisons_rise i j d along within =
        let rises = in_order-le xs order i j d along within in grind (arith, nat_tests, rises)

    -- a binary search finds the place of an address, or the one for it
    pub searched : (r : Result ℕ ℕ) → IsSearchInRange r (length xs) →
        IsBinarySearchResult (λ x. nat_cmp (address_of x) address) xs r →
        IfOk r (λ place. IsPlaceOf address_of address place xs) × IfErr r (λ place. IsPlaceFor address_of address place xs)
    searched (Ok place) within here = (
      record {
        within = within;
        before = λ k x low.
            let under = in_order-lt xs k place x x order low within in omega (arith, under, ranked _ address _ (sym (here x)));
        there = λ x. ranked _ address _ (sym (here x));
      },
      tt,
    )
    searched (Err place) within parted = (
      tt,
      record {
        within = within;
        before = λ k x low. ranked _ address _ (sym ((parted comparisons_rise).0 k x (omega arith) low));
        after = λ k x from low. ranked _ address _ (sym ((parted comparisons_rise).1 k x from low));
      },
    )

module _ {X : Type 0} (address_of : X → ℕ) (nothing_at : ℕ → X) (address : ℕ) (change : X → X) where
  abbrev changed : List X → List X
  changed xs = with_change address_of nothing_at address change xs

  -- cases of where a change is made
  module _ (P : List X → Type 0) (x : X) (xs : List X) where
    by_order : (low : Bool) → (address_of x == address) ≡ false → nat_lt address (address_of x) ≡ low →
        (address < address_of x → P (change (nothing_at address) ∷ x ∷ xs)) →
        (address_of x < address → P (x ∷ changed xs)) → P (changed (x ∷ xs))
    by_order true other is new later = rw (other, is) (new (ltb-true address (address_of x) is))
    by_order false other is new later = grind arith

    by_test : (same : Bool) → (address_of x == address) ≡ same → (address_of x ≡ address → P (change x ∷ xs)) →
        (address < address_of x → P (change (nothing_at address) ∷ x ∷ xs)) →
        (address_of x < address → P (x ∷ changed xs)) → P (changed (x ∷ xs))
    by_test true is here new later = rw is (here (eqb-true (address_of x) address is))
    by_test false is here new later = by_order (nat_lt address (address_of x)) is refl new later

    -- what holds of a change at the first, before it and after it holds of a change
    pub by_place : (address_of x ≡ address → P (change x ∷ xs)) →
        (address < address_of x → P (change (nothing_at address) ∷ x ∷ xs)) →
        (address_of x < address → P (x ∷ changed xs)) → P (changed (x ∷ xs))
    by_place here new later = by_test (address_of x == address) refl here new later

  -- a change adds one at most
  pub length-change : (xs : List X) → length (changed xs) ≤ length xs + 1
  length-change [] = omega arith
  length-change (x ∷ xs) =
      by_place (λ ys. length ys ≤ length (x ∷ xs) + 1) x xs (λ is. omega arith)
      (λ above. omega arith) (λ below. omega (arith, length-change xs))

  module _ (keeps : (x : X) → address_of (change x) ≡ address_of x) (begins : (a : ℕ) → address_of (nothing_at a) ≡ a)
    where
      begun : address_of (change (nothing_at address)) ≡ address
      begun = keeps (nothing_at address) ∙ begins address

      above-change : (low : ℕ) (xs : List X) → low < address → AreAbove address_of low xs →
          AreAbove address_of low (changed xs)
      above-change low [] under above = (subst (λ (a : ℕ). low < a) (sym begun) under, tt)
      above-change low (x ∷ xs) under above =
          by_place (AreAbove address_of low) x xs
          (λ is. (subst (λ (a : ℕ). low < a) (sym (keeps x)) above.0, above.1))
          (λ over. (subst (λ (a : ℕ). low < a) (sym begun) under, above))
          (λ below. (above.0, above-change low xs under above.1))

      -- the addresses stay in order
      pub in_order-change : (xs : List X) → IsInOrder address_of xs → IsInOrder address_of (changed xs)
      in_order-change [] order = (tt, tt)
      in_order-change (x ∷ xs) order =
          by_place (IsInOrder address_of) x xs
          (λ is. (subst (λ (a : ℕ). AreAbove address_of a xs) (sym (keeps x)) order.0, order.1))
          (λ above. (
            (
              subst (λ (a : ℕ). a < address_of x) (sym begun) above,
              subst (λ (a : ℕ). AreAbove address_of a xs) (sym begun)
                  (above-lower address_of address (address_of x) xs above order.0),
            ),
            order,
          ))
          (λ below. (above-change (address_of x) xs below order.0, in_order-change xs order.1))

      -- and so do those that a change of some others makes
      pub in_order-made : (old new : List X) → IsInOrder address_of old → new ≡ changed old → IsInOrder address_of new
      in_order-made old new order made = subst (IsInOrder address_of) (sym made) (in_order-change old order)

  lower : (x : X) (xs : List X) → address_of x < address → changed (x ∷ xs) ≡ x ∷ changed xs
  lower x xs below = grind arith

  here : (x : X) (xs : List X) → address_of x ≡ address → changed (x ∷ xs) ≡ change x ∷ xs
  here x xs is = rw (eq-eqb (address_of x) address is) refl

  higher : (x : X) (xs : List X) → address < address_of x → changed (x ∷ xs) ≡ change (nothing_at address) ∷ x ∷ xs
  higher x xs above = grind arith

  change-there : (xs : List X) (i : ℕ) (d : X) → i < length xs →
      ((k : ℕ) (x : X) → k < i → address_of (get_or xs k x) < address) → address_of (get_or xs i d) ≡ address →
      changed xs ≡ set xs i (change (get_or xs i d))
  change-there [] i d within before is = absurd (omega arith)
  change-there (x ∷ xs) zero d within before is = here x xs is
  change-there (x ∷ xs) (suc i) d within before is =
      lower x xs (before 0 x (omega arith))
      ∙ ap (λ l. x ∷ l) (change-there xs i d (omega arith) (λ k v low. before (suc k) v (omega arith)) is)

  change-new : (xs : List X) (i : ℕ) → i ≤ length xs →
      ((k : ℕ) (x : X) → k < i → address_of (get_or xs k x) < address) →
      ((k : ℕ) (x : X) → i ≤ k → k < length xs → address < address_of (get_or xs k x)) →
      changed xs ≡ insert xs i (change (nothing_at address))
  change-new [] zero within before after = refl
  change-new [] (suc i) within before after = absurd (omega arith)
  change-new (x ∷ xs) zero within before after = higher x xs (after 0 x (omega arith) (omega arith))
  change-new (x ∷ xs) (suc i) within before after =
      lower x xs (before 0 x (omega arith)) ∙
      ap (λ l. x ∷ l)
      (change-new xs i (omega arith) (λ k v low. before (suc k) v (omega arith))
      (λ k v from to. after (suc k) v (omega arith) (omega arith)))

  module _ (xs : List X) (place : ℕ) where
    -- a change at the place of an address
    pub change-at : IsPlaceOf address_of address place xs → (x : X) → changed xs ≡ set xs place (change (get_or xs place x))
    change-at is x = change-there xs place x is.within is.before (is.there x)

    -- a change of what is put in first is the change at its place
    pub change-made : IsPlaceFor address_of address place xs → (made : List X) →
        made ≡ insert xs place (nothing_at address) → (x : X) → changed xs ≡ set made place (change (get_or made place x))
    change-made is made made_is x = grind (arith, change-new, set-insert, set, get_or-insert_at)

module _ {X : Type 0} (address_of : X → ℕ) (nothing_at : ℕ → X) (address : ℕ) (xs : List X) (place : ℕ) where
  -- what is there is not begun again
  pub begun-there : IsPlaceOf address_of address place xs → xs ≡ with_change address_of nothing_at address (λ x. x) xs
  begun-there is =
      sym (change-at address_of nothing_at address (λ x. x) xs place is (nothing_at address)
      ∙ set-get_or xs place (nothing_at address))

  -- and where nothing was kept, it is put in first
  pub begun-new : IsPlaceFor address_of address place xs →
      insert xs place (nothing_at address) ≡ with_change address_of nothing_at address (λ x. x) xs
  begun-new is = sym (change-new address_of nothing_at address (λ x. x) xs place is.within is.before is.after)
