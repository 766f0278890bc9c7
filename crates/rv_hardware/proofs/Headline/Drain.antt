-- The drain phase changes nothing that programs see.
use Rattle.rv_hardware.proofs.Words.{◌≡◌, ℕ, ◌+◌, ◌-◌, ◌≤◌, Bool, true, false, List, [], ◌∷◌, length, if◌then◌else◌}
use Rattle.rv_hardware.proofs.Words.{nat_le, slice_index_or as get_or, Some, None, Option, sym, refl, ap, ◌∙◌, inl, inr}
use Rattle.rv_hardware.proofs.Words.{true≢false, arith, StoreAccess, Values, overwritten, State, consistent_after}
use Rattle.rv_hardware.proofs.Words.{consistent_written, dirty_after_access, IsConsistent, Each, oldest_to_drain}
use Rattle.rv_hardware.proofs.Words.{without_drained, draining, is_committed_state, is_draining, state_to_drain}
use Rattle.rv_hardware.proofs.Words.{Store as QueuedStore, Committed, Draining, StoreState, Filled, drain, end_drain}
use Rattle.rv_hardware.proofs.Words.{start_drain, with_drained, Hardware, bytes_after, with_store, layout_of, seen}
use Rattle.rv_hardware.proofs.Headline.Invariant.{DrainInOrder, HoldsMemory, IsSoundAt}
use Rattle.rv_hardware.proofs.Headline.Retires.{IsStoreAccess}
use Rattle.rv_hardware.proofs.Headline.Victim.{access_mixed}
use Rattle.rv_hardware.proofs.Headline.Words.{length-stored, stored_again, bytes_after-fresh}

-- ---- other stores and bytes, after which programs see the same
module _ {values : Values} {cycle : ℕ} {s : State} {h : Hardware} (is : IsSoundAt values cycle s h) where
  -- the hardware with other memory, where that holds what it has to, and programs see the same
  pub with_other_memory : (new : Hardware) → new.values ≡ h.values → new.cycle ≡ h.cycle → new.pc ≡ h.pc →
      new.csrs ≡ h.csrs → new.rob ≡ h.rob → new.front ≡ h.front → seen new ≡ seen h →
      HoldsMemory new.values new.stale new.cache new.committed → IsSoundAt values cycle s new
  with_other_memory new same_values same_cycle same_pc same_csrs same_rob same_front same_seen memory = grind arith

module _ (values : Values) (cycle : ℕ) (state : State) (h : Hardware) where
  abbrev with_stores : List QueuedStore → Hardware
  with_stores stores = record h { committed = stores }

  -- ---- a store whose access is over leaves
  without_first : (b : Bool) (s : QueuedStore) (ss : List QueuedStore) → is_draining s ≡ b →
      IsSoundAt values cycle state (with_stores (s ∷ ss)) →
      IsSoundAt values cycle state (with_stores (if b then ss else s ∷ ss))
  without_first false s ss is sound = sound
  without_first true s ss is sound =
      let was = sound.sound.memory in
      let same : bytes_after h.values.ram_base ss h.cache.bytes ≡ bytes_after h.values.ram_base (s ∷ ss) h.cache.bytes =
      ap (bytes_after h.values.ram_base ss) (sym (was.drains.0 is)) in
      let same_seen : seen (with_stores ss) ≡ seen (with_stores (s ∷ ss)) =
      ap (λ (ram : List ℕ). record (seen h) { ram = ram }) same in
      with_other_memory sound (with_stores ss) refl refl refl refl refl refl same_seen (record {
        place = was.place;
        cache_size = was.cache_size;
        consistent = was.consistent;
        retired = was.retired.1;
        drains = none_first ss was.drains.1;
        fresh = λ i fresh. was.fresh i fresh ∙ ap (λ (xs : List ℕ). get_or xs i 0) (sym same);
        inside = was.inside;
      }) where
        none_first : (ss : List QueuedStore) → Each (λ t. is_draining t ≡ false) ss →
            DrainInOrder h.values.ram_base h.cache.bytes ss
        none_first [] none = tt
        none_first (t ∷ ts) none = (λ drains. absurd (true≢false (sym drains ∙ none.0)), none.1)

  pub end_kept : (stores : List QueuedStore) → IsSoundAt values cycle state (with_stores stores) →
      IsSoundAt values cycle state (with_stores (without_drained stores))
  end_kept stores sound = grind (arith, without_first)

  -- ---- the oldest begins its access
  to_drain : (now : StoreState) (access : StoreAccess) → state_to_drain now ≡ Some access →
      now ≡ Filled access Committed
  to_drain now access is = grind arith

  module _ (s : QueuedStore) (ss : List QueuedStore) (access : StoreAccess) (now : s.state ≡ Filled access Committed)
      (sound : IsSoundAt values cycle state (with_stores (s ∷ ss))) where
    abbrev base : ℕ
    base = h.values.ram_base

    abbrev place : ℕ
    place = access.address - base

    abbrev old : Hardware
    old = with_stores (s ∷ ss)

    abbrev new : Hardware
    new = with_drained access old

    abbrev drained : QueuedStore
    drained = record s { state = draining s.state }

    was : HoldsMemory h.values h.stale h.cache (s ∷ ss)
    was = sound.sound.memory

    access_is : was.retired.0.access ≡ access
    access_is = grind (arith, was)

    legal : IsStoreAccess (layout_of h.values) access
    legal = rw (← access_is) was.retired.0.legal

    bytes_are : new.cache.bytes ≡ overwritten h.cache.bytes place access.bytes
    bytes_are = ap (λ b. overwritten h.cache.bytes (access.address - b) access.bytes) was.place.cache_base

    drained_is : drained.state ≡ Filled access Draining
    drained_is = ap draining now

    -- its bytes are in the cache now
    in_cache : with_store base drained.state new.cache.bytes ≡ new.cache.bytes
    in_cache =
        ap (λ (state : StoreState). with_store base state new.cache.bytes) drained_is
        ∙ ap (λ (xs : List ℕ). overwritten xs place access.bytes) bytes_are
        ∙ stored_again legal h.cache.bytes was.cache_size
        ∙ sym bytes_are

    same_ram : bytes_after base (drained ∷ ss) new.cache.bytes ≡ bytes_after base (s ∷ ss) h.cache.bytes
    same_ram = grind (arith, in_cache, bytes_are)

    same_seen : seen new ≡ seen old
    same_seen = ap (λ (ram : List ℕ). record (seen h) { ram = ram }) same_ram

    -- the line that the access brings is dirty, and so RAM may lack the store's bytes
    consistent : IsConsistent h.cache.base h.cache.values new.cache.bytes new.cache.sets new.cache.backing.bytes
    consistent =
        let above : h.cache.base ≤ access.address = omega (arith, was.place.cache_base, legal.above) in
        let below : access.address + length access.bytes ≤ h.cache.base + length h.cache.bytes =
        omega (arith, was.place.cache_base, was.cache_size, legal.below) in
        let accessed = consistent_after h.cache.base h.cache.values h.cache.bytes h.cache.backing.bytes h.cache.sets
        was.consistent access.address above
        (omega (arith, legal.some, below)) true in
        let dirty = dirty_after_access h.cache.base h.cache.values h.cache.bytes new.cache.backing.bytes new.cache.sets
        accessed h.cache access.address refl refl in
        consistent_written h.cache.base h.cache.values h.cache.bytes new.cache.backing.bytes new.cache.sets accessed
        access.address access.bytes legal.aligned.0 legal.aligned.1 above below dirty

    start_one : IsSoundAt values cycle state new
    start_one =
        let mixed = access_mixed h.cache access.address h.cache.backing.bytes was.consistent.size in
        with_other_memory sound new refl refl refl refl refl refl same_seen (record {
          place = was.place;
          cache_size = ap length bytes_are ∙ length-stored legal h.cache.bytes was.cache_size;
          consistent = consistent;
          retired = (
            record {
              access = access;
              phase = Draining;
              state_is = drained_is;
              retired = ap is_committed_state drained_is;
              legal = legal;
              marked = rw (← access_is) was.retired.0.marked;
            },
            was.retired.1,
          );
          drains = (λ drains. in_cache, was.drains.1);
          fresh = λ i fresh.
              elim (mixed.either i) [
                | inl stays ↦ stays ∙ was.fresh i fresh
                | inr cached ↦ cached ∙
                    sym (bytes_after-fresh (layout_of h.values) h.stale
                    (s ∷ ss) h.cache.bytes was.retired was.cache_size i fresh)
              ]
              ∙ ap (λ (xs : List ℕ). get_or xs i 0) (sym same_ram);
          inside = was.inside;
        })

  start_first : (s : QueuedStore) (ss : List QueuedStore) (o : Option StoreAccess) → state_to_drain s.state ≡ o →
      IsSoundAt values cycle state (with_stores (s ∷ ss)) →
      IsSoundAt values cycle state (start_drain o (with_stores (s ∷ ss)))
  start_first s ss None is sound = sound
  start_first s ss (Some access) is sound = start_one s ss access (to_drain s.state access is) sound

  pub start_kept : (stores : List QueuedStore) → IsSoundAt values cycle state (with_stores stores) →
      IsSoundAt values cycle state (start_drain (oldest_to_drain stores) (with_stores stores))
  start_kept stores sound = grind (arith, start_first)

drain_by : (b : Bool) {values : Values} {cycle : ℕ} {state : State} {h : Hardware} → IsSoundAt values cycle state h →
    IsSoundAt values cycle state (if b then start_drain (oldest_to_drain (end_drain h).committed) (end_drain h) else h)
drain_by false sound = sound
drain_by true {values} {cycle} {state} {h} sound =
    start_kept values cycle state h (without_drained h.committed) (end_kept values cycle state h h.committed sound)

-- the drain phase keeps the hardware sound, with the same state seen
pub drain_kept : {values : Values} {cycle : ℕ} {state : State} {h : Hardware} → IsSoundAt values cycle state h →
    IsSoundAt values cycle state (drain h)
drain_kept {values} {cycle} {state} {h} sound = drain_by (nat_le h.port_free h.cycle) sound
