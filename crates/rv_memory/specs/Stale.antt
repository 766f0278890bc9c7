use Rattle.std.specs.Prelude.{ℕ, ◌+◌, ◌*◌, ◌≤◌, Bool, ◌&&◌, nat_le, nat_lt, IsTrue}
use Rattle.std.specs.Ordering.{nat_cmp}
use Rattle.std.specs.FinSet as set

-- the stale words of a range of addresses, each by its address divided by 4
pub record StaleWords : Type 0 where
  pub base : ℕ
  pub size : ℕ
  pub words : set.FinSet nat_cmp

-- the address lies in the range
abbrev pub is_covered : StaleWords → ℕ → Bool
is_covered stale address = nat_le stale.base address && nat_lt address (stale.base + stale.size)

-- each stale word lies in the range
abbrev pub AreCovered : StaleWords → Type 0
AreCovered stale =
    (word : ℕ) → IsTrue (set.contains stale.words word) →
    (stale.base ≤ 4 * word) × (4 * word + 4 ≤ stale.base + stale.size)
