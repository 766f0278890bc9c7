-- The byte that programs see is the youngest retired store's, else the cache's.
use Rattle.rv_core.proofs.Words.{◌≡◌, ℕ, ◌-◌, ◌≤◌, false, nat_le, slice_get, slice_index_or as get_or, Some, None}
use Rattle.rv_core.proofs.Words.{Option, unwrap_or, arith, le-leb, and_from, cond-true, is_in_ram, youngest_byte}
use Rattle.rv_core.proofs.Words.{Hardware, layout_of, seen, slice_get_past, byte_seen, IsCached, LieIn, IsSoundHardware}
use Rattle.rv_core.proofs.Loads.BytesAfter.{length-bytes_after, slice_get-bytes_after}
use Rattle.rv_core.proofs.Issued.Writes.{committed_inside}

module _ (h : Hardware) (sound : IsSoundHardware h) (address : ℕ) where
  inside : LieIn h.values.ram_base h.values.ram_size h.committed
  inside = committed_inside h.values h.committed sound.stores.each

  abbrev byte : Option ℕ
  byte = byte_seen (layout_of h.values) (seen h).ram address

  from_base : h.values.ram_base ≤ address → byte ≡ slice_get (seen h).ram (address - h.values.ram_base)
  from_base from = cond-true (nat_le h.values.ram_base address) _ None (le-leb h.values.ram_base address from)

  -- outside RAM there is none
  pub none_outside : (IsCached h.cache address → ⊥) → None ≡ byte
  none_outside outside = grind (arith, from_base, slice_get_past, length-bytes_after, inside)

  -- in RAM it is the youngest store's, or the cache's
  pub some_inside : IsCached h.cache address → (n : ℕ) →
      n ≡ unwrap_or (youngest_byte address h.committed) (get_or h.cache.bytes (address - h.cache.base) 0) →
      Some n ≡ byte
  some_inside cached n is = grind (arith, from_base, slice_get-bytes_after, inside)

  -- no byte outside RAM is cached
  pub outside_by : (Found : Type 0) → IsCached h.cache address → is_in_ram (layout_of h.values) address 1 ≡ false →
      Found
  outside_by Found cached outside =
      absurd (grind (arith, and_from, sound.cache.base, sound.cache.bytes))
