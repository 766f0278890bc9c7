-- A byte after stores is that of the youngest which covers it, else memory's.
use Rattle.rv_hardware.proofs.Words.{◌≡◌, ℕ, ◌+◌, ◌<◌, ◌-◌, ◌≤◌, List, [], ◌∷◌, length, slice_get}
use Rattle.rv_hardware.proofs.Words.{slice_index_or as get_or, Some, None, Option, unwrap_or, refl, arith, cond-false}
use Rattle.rv_hardware.proofs.Words.{option_or, StoreAccess, overwritten, Layout, get_or-overwritten_above}
use Rattle.rv_hardware.proofs.Words.{get_or-overwritten_below, get_or-overwritten_in, Each, youngest_byte}
use Rattle.rv_hardware.proofs.Words.{byte_of_state, written_at, Store as QueuedStore, StoreState, Filled, bytes_after}
use Rattle.rv_hardware.proofs.Words.{with_store}
use Rattle.std.proofs.lemmas.Option.{slice_get-get_or, slice_get_past}
use Rattle.rv_hardware.proofs.Headline.Retires.{IsStoreAccess}
use Rattle.rv_hardware.proofs.Headline.Words.{length-stored}

-- what a store writes, if that is known, lies in RAM within one word
abbrev pub IsStateInside : Layout → StoreState → Type 0
IsStateInside layout (Filled access phase) = IsStoreAccess layout access
IsStateInside layout _ = Unit {0}

-- what a queued store writes lies in the layout's RAM
abbrev pub IsInside : Layout → QueuedStore → Type 0
IsInside layout s = IsStateInside layout s.state

unwrap_or-or : (a b : Option ℕ) (d : ℕ) → unwrap_or (option_or a b) d ≡ unwrap_or a (unwrap_or b d)
unwrap_or-or a b d = grind arith

module _ (layout : Layout) where
  module _ {access : StoreAccess} (legal : IsStoreAccess layout access) (xs : List ℕ)
      (size : length xs ≡ layout.size) (i : ℕ) where
    abbrev at : ℕ
    at = access.address - layout.base

    abbrev place : ℕ
    place = layout.base + i

    abbrev found : Option ℕ
    found = slice_get access.bytes (place - access.address)

    fits : at + length access.bytes ≤ length xs
    fits = omega (arith, legal.above, legal.below)

    covered : at ≤ i → i < at + length access.bytes → written_at place access ≡ Some (get_or access.bytes (i - at) 0)
    covered from here = grind (arith, slice_get-get_or)

    before : i < at → written_at place access ≡ None
    before below = grind (arith, cond-false)

    after : at + length access.bytes ≤ i → written_at place access ≡ None
    after above = grind (arith, slice_get_past)

    one_after : get_or (overwritten xs at access.bytes) i 0 ≡ unwrap_or (written_at place access) (get_or xs i 0)
    one_after = grind (arith, get_or-overwritten_below, get_or-overwritten_in, covered, get_or-overwritten_above, after)

  -- after one store
  byte_after_one : (state : StoreState) (xs : List ℕ) (i : ℕ) → IsStateInside layout state → length xs ≡ layout.size →
      get_or (with_store layout.base state xs) i 0 ≡ unwrap_or (byte_of_state (layout.base + i) state) (get_or xs i 0)
  byte_after_one state xs i inside size = grind (arith, one_after)

  length-after_one : (state : StoreState) (xs : List ℕ) → IsStateInside layout state → length xs ≡ layout.size →
      length (with_store layout.base state xs) ≡ layout.size
  length-after_one state xs inside size = grind (arith, length-stored)

  -- after all of them
  pub byte_after : (ss : List QueuedStore) (xs : List ℕ) (i : ℕ) → Each (IsInside layout) ss → length xs ≡ layout.size →
      get_or (bytes_after layout.base ss xs) i 0 ≡ unwrap_or (youngest_byte (layout.base + i) ss) (get_or xs i 0)
  byte_after [] xs i inside size = refl
  byte_after (s ∷ ss) xs i inside size =
      grind (
        arith,
        length-after_one,
        byte_after_one,
        unwrap_or-or,
        byte_after ss (with_store layout.base s.state xs) i inside.1 (length-after_one s.state xs inside.0 size),
      )
