-- What functions give at the numbers of a range.
use Rattle.std.proofs.Common.{◌≡◌, ◌+◌, ◌<◌, ◌≤◌, ℕ, zero, suc, ◌∷◌, ◌++◌, map, replicate, refl, arith}
use Rattle.std.specs.List.{range_with_len}

module _ {X : Type 0} (f g : ℕ → X) (x : X) (b : ℕ) (there : (i : ℕ) → b ≤ i → f i ≡ g i) where
  same_after : (a n : ℕ) → b ≤ a → map f (range_with_len a n) ≡ map g (range_with_len a n)
  same_after a zero le = refl
  same_after a (suc n) le = (λ i. there a le i ∷ same_after (a + 1) n (omega arith) i)

  -- before b the one value, and after it what the other function gives
  pub split_range : (a m n : ℕ) → a + m ≡ b → ((i : ℕ) → a ≤ i → i < b → f i ≡ x) →
      map f (range_with_len a (m + n)) ≡ replicate m x ++ map g (range_with_len b n)
  split_range a zero n is here = grind (arith, same_after)
  split_range a (suc m) n is here =
      let more : suc m + n ≡ suc (m + n) = omega arith in
      rw more (λ i. here a (omega arith) (omega arith) i
      ∷ split_range (a + 1) m n (omega arith) (λ k above below. here k (omega (arith, above)) below) i)
