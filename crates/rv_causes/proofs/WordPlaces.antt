-- The cycles of an address, by its place among words in order.
use Rattle.std.proofs.Common.{◌≡◌, ℕ, zero, suc, ◌<◌, List, [], ◌∷◌, length, get_or, refl, sym, arith, eq-eqb, ne_eqb}
use Rattle.rv_passage.specs.ByAddress.{IsPlaceFor, IsPlaceOf}
use Rattle.rv_causes.specs.Account.{AreWithin, IsWithin, address_of, cycles_at}
use Rattle.rv_causes.specs.declared.word_cycles.WordCycles.{WordCycles}

-- all have what each has
pub within-at : (cycles : ℕ) (words : List WordCycles) (i : ℕ) (d : WordCycles) → AreWithin cycles words →
    i < length words
    → IsWithin cycles (get_or words i d)
within-at cycles [] i d within here = absurd (omega arith)
within-at cycles (w ∷ ws) zero d within here = within.0
within-at cycles (w ∷ ws) (suc i) d within here = within-at cycles ws i d within.1 (omega arith)

module _ (address : ℕ) where
  -- the word of the address is found at its place
  pub found-there : (words : List WordCycles) (i : ℕ) (d : WordCycles) → i < length words
      → ((k : ℕ) (w : WordCycles) → k < i → (get_or words k w).address < address)
      → (get_or words i d).address ≡ address → cycles_at address words ≡ (get_or words i d).cycles
  found-there [] i d within before is = absurd (omega arith)
  found-there (w ∷ ws) zero d within before is = rw (eq-eqb w.address address is) refl
  found-there (w ∷ ws) (suc i) d within before is =
      rw (ne_eqb w.address address (λ same. let low = before 0 w (omega arith) in omega (arith, same, low)))
      (found-there ws i d (omega arith) (λ k v low. before (suc k) v (omega arith)) is)

  -- and none where all are of other addresses
  pub found-none : (words : List WordCycles) →
      ((k : ℕ) (w : WordCycles) → k < length words → (get_or words k w).address ≡ address → ⊥)
      → cycles_at address words ≡ 0
  found-none [] others = refl
  found-none (w ∷ ws) others = rw (ne_eqb w.address address (others 0 w (omega arith)))
      (found-none ws (λ k v within. others (suc k) v (omega arith)))

module _ (address : ℕ) (words : List WordCycles) (place : ℕ) where
  -- the cycles of an address are those of the word at its place
  pub cycles-there : IsPlaceOf address_of address place words → (w : WordCycles) → (get_or words place w).cycles
      ≡ cycles_at address words
  cycles-there is w = sym (found-there address words place w is.within is.before (is.there w))

  -- and none where there is no word of it
  pub cycles-none : IsPlaceFor address_of address place words → 0 ≡ cycles_at address words
  cycles-none is = grind (arith, found-none)
