-- A change of the counts at one address, and what it keeps.
use Rattle.std.proofs.Common.{◌≡◌, ◌∙◌, ℕ, zero, suc, ◌<◌, List, [], ◌∷◌, length, get_or, refl}
use Rattle.std.proofs.Common.{ap, sym, subst, arith, inl, inr}
use Rattle.rv_cache.specs.WriteBack.{Each}
use Rattle.rv_passage.proofs.ByAddress.{above-lower, by_place}
use Rattle.rv_counts.specs.Counts.{nothing_at, times_of}
use Rattle.rv_counts.specs.Order.{AreAbove, HasAddress, IsInOrder, address_of, with_change}
use Rattle.rv_counts.specs.declared.counts.WordCounts.{WordCounts}

-- what implies another property of each implies it of all
pub each-by : {X : Type 0} {P Q : X → Type 0} (xs : List X) → ((x : X) → P x → Q x) → Each P xs → Each Q xs
each-by [] then each = tt
each-by (x ∷ xs) then each = (then x each.0, each-by xs then each.1)

none_of : (n : ℕ) → (0 < n → ⊥) → n ≡ 0
none_of zero never = refl
none_of (suc n) never = absurd (never (omega arith))

-- what each of some has, the one at a place has
pub each-at : {X : Type 0} (P : X → Type 0) (xs : List X) (i : ℕ) (d : X) → Each P xs → i < length xs →
    P (get_or xs i d)
each-at P [] i d each within = absurd (omega arith)
each-at P (x ∷ xs) zero d each within = each.0
each-at P (x ∷ xs) (suc i) d each within = each-at P xs i d each.1 (omega arith)

module _ (address : ℕ) (change : WordCounts → WordCounts) where
  -- each has a property, where the change makes it
  pub each-change : (P : WordCounts → Type 0) → ((w : WordCounts) → P w → P (change w)) →
      P (change (nothing_at address)) → (words : List WordCounts) → Each P words →
      Each P (with_change address change words)
  each-change P then new [] each = (new, tt)
  each-change P then new (w ∷ ws) each =
      by_place address_of nothing_at address change (λ words. Each P words) w ws (λ is. (then w each.0, each.1)) (λ above. (new, each))
      (λ below. (each.0, each-change P then new ws each.1))

  module _ (keeps : (w : WordCounts) → (change w).address ≡ w.address) where
    -- it has the address, and each that it had
    pub has-change : (words : List WordCounts) → HasAddress address (with_change address change words)
    has-change [] = inl (keeps (nothing_at address))
    has-change (w ∷ ws) = grind (arith, has-change ws)

    -- an address that has counts keeps them
    pub has-kept : (other : ℕ) (words : List WordCounts) → HasAddress other words →
        HasAddress other (with_change address change words)
    has-kept other [] has = absurd has
    has-kept other (w ∷ ws) (inl is) = grind arith
    has-kept other (w ∷ ws) (inr later) = grind (arith, has-kept other ws later)

-- none of a lower address is among those above
above-lacks : (address : ℕ) (words : List WordCounts) → AreAbove address words → HasAddress address words → ⊥
above-lacks address [] above has = has
above-lacks address (w ∷ ws) above (inl is) = omega (arith, above.0, is)
above-lacks address (w ∷ ws) above (inr later) = above-lacks address ws above.1 later

-- The counts are those of a function of the address. A change at one makes them those of another function, which differs there
-- alone.
module _ (address : ℕ) (change : WordCounts → WordCounts) (old new : ℕ → WordCounts)
    (others : (other : ℕ) → (other ≡ address → ⊥) → new other ≡ old other) (here : change (old address) ≡ new address)
    (none : times_of (old address) ≡ 0 → old address ≡ nothing_at address) (place : (other : ℕ) →
    (new other).address ≡ other) where
  abbrev AreOld : List WordCounts → Type 0
  AreOld words = Each (λ w. w ≡ old w.address) words

  abbrev AreNew : List WordCounts → Type 0
  AreNew words = Each (λ w. w ≡ new w.address) words

  abbrev Lists : List WordCounts → Type 0
  Lists words = 0 < times_of (old address) → HasAddress address words

  one_other : (w : WordCounts) → (w.address ≡ address → ⊥) → w ≡ old w.address → w ≡ new w.address
  one_other w is_not is = is ∙ sym (others w.address is_not)

  all_others : (words : List WordCounts) → AreAbove address words → AreOld words → AreNew words
  all_others [] above are = tt
  all_others (w ∷ ws) above are = (one_other w (λ is. omega (arith, is, above.0)) are.0, all_others ws above.1 are.1)

  is_new : (w : WordCounts) → w ≡ new address → w ≡ new w.address
  is_new w is = is ∙ ap new (sym (ap (λ (v : WordCounts). v.address) is ∙ place address))

  fresh : (words : List WordCounts) → Lists words → (HasAddress address words → ⊥) →
      change (nothing_at address) ≡ new address
  fresh words lists lacks = grind arith

  above_all : (w : WordCounts) (ws : List WordCounts) → address < w.address → AreAbove w.address ws →
      AreAbove address (w ∷ ws)
  above_all w ws above order = (above, above-lower address_of address w.address ws above order)

  -- each address is counted as before, but the changed one
  pub counted-change : (words : List WordCounts) → IsInOrder words → AreOld words → Lists words →
      AreNew (with_change address change words)
  counted-change [] order are lists = (is_new _ (fresh [] lists (λ has. has)), tt)
  counted-change (w ∷ ws) order are lists =
      by_place address_of nothing_at address change AreNew w ws
      (λ is. (
        is_new (change w) (ap change (are.0 ∙ ap old is) ∙ here),
        all_others ws (subst (λ (a : ℕ). AreAbove a ws) is order.0) are.1,
      ))
      (λ above.
      let over = above_all w ws above order.0 in
      (is_new _ (fresh (w ∷ ws) lists (above-lacks address (w ∷ ws) over)), all_others (w ∷ ws) over are))
      (λ below. (
        one_other w (λ is. omega (arith, is, below)) are.0,
        counted-change ws order.1 are.1 (λ some. later below (lists some)),
      )) where
        later : w.address < address → HasAddress address (w ∷ ws) → HasAddress address ws
        later below (inl is) = absurd (omega (arith, is, below))
        later below (inr has) = has
