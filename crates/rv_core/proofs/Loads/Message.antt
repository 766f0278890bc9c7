-- The value that a load takes from the older stores and the cache is that of its effect.
use Rattle.rv_core.proofs.Words.{◌≡◌, ℕ, ◌+◌, ◌-◌, ◌≤◌, List, ◌++◌, length, take, slice_range, None, Option, sym, refl}
use Rattle.rv_core.proofs.Words.{arith, number_of, bytes_of, is_sign_extended, width_of, pc_plus_4, Cause, LoadForm}
use Rattle.rv_core.proofs.Words.{Width, Layout, fault_message, IsAccess, Memory, number_at, extended, loads, State}
use Rattle.rv_core.proofs.Words.{Contents, forwarded, Store, bytes_after, effect_message, writes, IsAfter, IsOverRam}
use Rattle.rv_core.proofs.Words.{bytes_over, load_fault, path_of}
use Rattle.rv_core.proofs.Loads.Bytes.{bytes_from_cache, bytes_from_stores}
use Rattle.rv_core.proofs.Loads.Effect.{PathFacts, aligned_width, load_faults, load_gives, load_within, path_facts}
use Rattle.rv_core.specs.declared.load.Path.{Path}
use Rattle.rv_core.specs.declared.load.Path.TheVariants.{Without, FromStores, FromCache}

-- what is known by the path that was found
found : (layout : Layout) (ss : List Store) (address count : ℕ) (path : Path) → path_of layout ss address count ≡ path →
    PathFacts (load_fault layout address count) (forwarded ss address count) count path
found layout ss address count path is = grind (arith, path_facts)

-- a load that faults gives its fault
pub from_fault : (cache : Contents Memory) (ss : List Store) (s : State) (form : LoadForm)
    (rd address : ℕ) (cause : Cause) →
    path_of cache.backing.layout ss address (bytes_of (width_of form)) ≡ Without cause →
    fault_message cause address ≡ effect_message None (loads cache.backing.layout s form rd address)
from_fault cache ss s form rd address cause is = grind (arith, load_faults, found, bytes_of)

-- a load that accesses the cache reads as many bytes as it may
pub accesses : (cache : Contents Memory) (ss : List Store) → IsOverRam cache → (width : Width) (address count : ℕ)
    (overlay : List (Option ℕ)) → path_of cache.backing.layout ss address (bytes_of width) ≡ FromCache overlay →
    count ≡ bytes_of width → IsAccess cache address count
accesses cache ss over width address count overlay is same = grind (arith, load_within, bytes_of, found, aligned_width)

module _ (cache : Contents Memory) (ss : List Store) (over : IsOverRam cache) (s : State) (after : IsAfter cache ss s)
    (form : LoadForm) (rd address : ℕ) where
  abbrev count : ℕ
  count = bytes_of (width_of form)

  abbrev place : ℕ
  place = address - cache.base

  -- a load of these bytes
  abbrev pub value_over : List (Option ℕ) → List ℕ → ℕ
  value_over overlay below = extended (is_sign_extended form) count (number_of (take count (bytes_over overlay below)))

  module _ (fault : load_fault cache.backing.layout address count ≡ None) where
    from : cache.base ≤ address
    from = omega (arith, over.base, (load_within cache.backing.layout address count fault).1)

    to : address + count ≤ cache.base + length cache.bytes
    to = omega (arith, over.base, over.size, (load_within cache.backing.layout address count fault).2)

    number_after : number_at cache.backing.layout s.ram address count
        ≡ number_of (slice_range (bytes_after cache.base ss cache.bytes) place (place + count))
    number_after =
        λ j. number_of (slice_range (after.ram j) (address - sym over.base j) (address - sym over.base j + count))

    gives : (overlay : List (Option ℕ)) (below : List ℕ) → overlay ≡ forwarded ss address count →
        slice_range (bytes_after cache.base ss cache.bytes) place (place + count)
        ≡ take count (bytes_over (forwarded ss address count) below) →
        effect_message None (writes s rd (value_over overlay below) (pc_plus_4 s.pc))
        ≡ effect_message None (loads cache.backing.layout s form rd address)
    gives overlay below same bytes = grind (arith, number_after, writes, load_gives)

  -- a load whose bytes all come from the stores gives its effect
  pub from_stores : (overlay : List (Option ℕ)) (below : List ℕ) →
      path_of cache.backing.layout ss address count ≡ FromStores overlay →
      effect_message None (writes s rd (value_over overlay below) (pc_plus_4 s.pc))
      ≡ effect_message None (loads cache.backing.layout s form rd address)
  from_stores overlay below is =
      let known = found cache.backing.layout ss address count (FromStores overlay) is in
      gives known.0 overlay below known.1
      (bytes_from_stores cache.base (length cache.bytes) ss cache.bytes refl after.inside address (width_of form)
      (from known.0)
      (to known.0) below known.2)

  -- and so does one with bytes from the cache
  pub from_cache : (overlay : List (Option ℕ)) (padding : List ℕ) →
      path_of cache.backing.layout ss address count ≡ FromCache overlay →
      effect_message None (writes s rd (value_over overlay (slice_range cache.bytes place (place + count) ++ padding))
      (pc_plus_4 s.pc)) ≡ effect_message None (loads cache.backing.layout s form rd address)
  from_cache overlay padding is =
      let known = found cache.backing.layout ss address count (FromCache overlay) is in
      gives known.0 overlay (slice_range cache.bytes place (place + count) ++ padding) known.1
      (bytes_from_cache cache.base (length cache.bytes) ss cache.bytes refl after.inside address (width_of form)
      (from known.0)
      (to known.0) padding)
