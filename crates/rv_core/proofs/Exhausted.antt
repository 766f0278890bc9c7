-- A pipeline has a cycle left, or has done all that it counts, by its answer to whether it is exhausted.
use Rattle.rv_core.proofs.Words.{◌≡◌, ℕ, ◌^◌, ◌<◌, ◌≤◌, Bool, true, false, nat_le, sym, ◌∙◌, leb-false, leb-true}

module _ {cycle : ℕ} {all : Bool} (is : all ≡ nat_le (2 ^ 40) cycle) where
  -- where it is not exhausted it has a cycle left
  pub cycle_left : all ≡ false → cycle < 2 ^ 40
  cycle_left more = leb-false (2 ^ 40) cycle (sym is ∙ more)

  -- where it is, none
  pub all_done : all ≡ true → 2 ^ 40 ≤ cycle
  all_done none = leb-true (2 ^ 40) cycle (sym is ∙ none)
