-- The bytes that a load takes from the older stores and the cache are those of memory after the stores.
use Rattle.rv_core.proofs.Words.{◌≡◌, ℕ, zero, suc, ◌+◌, ◌-◌, ◌<◌, ◌≤◌, true, List, [], ◌∷◌, ◌++◌, length, take, drop}
use Rattle.rv_core.proofs.Words.{is_some, slice_index_or as get_or, slice_range, Option, unwrap_or, sym, refl, ap, ◌∙◌}
use Rattle.rv_core.proofs.Words.{arith, and_parts, bytes_of, Width, forwarded, youngest_byte, Store, bytes_after}
use Rattle.rv_core.proofs.Words.{drop_more, get_or_append_left, get_or-between, length-between, LieIn, bytes_over}
use Rattle.rv_core.proofs.Words.{is_forwarded}
use Rattle.rv_core.proofs.Loads.BytesAfter.{get_or-bytes_after, length-bytes_after}

-- so many numbers of a list, from a place on
abbrev numbers : ℕ → ℕ → List ℕ → List ℕ
numbers zero i xs = []
numbers (suc n) i xs = get_or xs i 0 ∷ numbers n (i + 1) xs

take-drop : (n i : ℕ) (xs : List ℕ) → i + n ≤ length xs → take n (drop i xs) ≡ numbers n i xs
take-drop zero i xs within = refl
take-drop (suc n) i xs within = grind (arith, drop_more, take-drop n (i + 1) xs)

between-numbers : (n i : ℕ) (xs : List ℕ) → i + n ≤ length xs → slice_range xs i (i + n) ≡ numbers n i xs
between-numbers n i xs within = ap (λ k. take k (drop i xs)) (omega arith) ∙ take-drop n i xs within

module _ (ram below : List ℕ) (ss : List Store) (address place : ℕ) where
  abbrev pub IsByte : ℕ → Type 0
  IsByte k = get_or ram (place + k) 0 ≡ unwrap_or (youngest_byte (address + k) ss) (get_or below k 0)

  byte_at : (i k : ℕ) → i ≡ place + k → IsByte k →
      get_or ram i 0 ≡ unwrap_or (youngest_byte (address + k) ss) (get_or below k 0)
  byte_at i k is byte = ap (λ j. get_or ram j 0) is ∙ byte

  pub bytes_laid : (width : Width) → place + bytes_of width ≤ length ram → ((k : ℕ) → k < bytes_of width → IsByte k) →
      slice_range ram place (place + bytes_of width)
      ≡ take (bytes_of width) (bytes_over (forwarded ss address (bytes_of width)) below)
  bytes_laid width within byte = grind (arith, between-numbers, byte_at)

-- where stores forward all, what is below says nothing

forwarded_some : (o : Option ℕ) (a b : ℕ) → is_some o ≡ true → unwrap_or o a ≡ unwrap_or o b
forwarded_some o a b some = grind arith

pub forwarded_all : (width : Width) (ss : List Store) (address : ℕ) →
    is_forwarded (forwarded ss address (bytes_of width)) (bytes_of width) ≡ true → (k : ℕ) → k < bytes_of width →
    is_some (youngest_byte (address + k) ss) ≡ true
forwarded_all width ss address all k lt = grind (arith, and_parts)

module _ (base size : ℕ) (ss : List Store) (bytes : List ℕ) (sized : length bytes ≡ size) (inside : LieIn base size ss)
    (address : ℕ) (width : Width) (from : base ≤ address) (to : address + bytes_of width ≤ base + size) where
  abbrev ram : List ℕ
  ram = bytes_after base ss bytes

  abbrev place : ℕ
  place = address - base

  within : place + bytes_of width ≤ length ram
  within = omega (arith, length-bytes_after base size ss bytes sized inside)

  byte_after : (k : ℕ) →
      get_or ram (place + k) 0 ≡ unwrap_or (youngest_byte (address + k) ss) (get_or bytes (place + k) 0)
  byte_after k =
      let at : place + k ≡ address + k - base = omega arith in
      ap (λ i. get_or ram i 0) at
      ∙ get_or-bytes_after base size (address + k) ss bytes sized inside (omega arith)
      ∙ ap (λ i. unwrap_or (youngest_byte (address + k) ss) (get_or bytes i 0)) (sym at)

  -- the stores forward every byte
  pub bytes_from_stores : (below : List ℕ) →
      is_forwarded (forwarded ss address (bytes_of width)) (bytes_of width) ≡ true →
      slice_range ram place (place + bytes_of width)
      ≡ take (bytes_of width) (bytes_over (forwarded ss address (bytes_of width)) below)
  bytes_from_stores below all = grind (arith, bytes_laid, within, byte_after, forwarded_some, forwarded_all)

  -- those of the cache lie below
  pub bytes_from_cache : (padding : List ℕ) →
      slice_range ram place (place + bytes_of width)
      ≡ take (bytes_of width) (bytes_over (forwarded ss address (bytes_of width))
      (slice_range bytes place (place + bytes_of width) ++ padding))
  bytes_from_cache padding =
      grind (arith, length-between, bytes_laid, within, byte_after, get_or_append_left, get_or-between)
