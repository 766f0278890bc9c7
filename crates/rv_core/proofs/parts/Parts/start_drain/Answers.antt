use Rattle.rv_core.proofs.Words.{◌≡◌, ◌+◌, Bool, false, List, length, Some, None, Option, sym, refl, ap, ◌∙◌}
use Rattle.rv_core.proofs.Words.{true≢false, arith, StoreAccess, oldest_to_drain, with_oldest_draining}
use Rattle.rv_core.proofs.Words.{Store as QueuedStore, start_drain, with_drained, Hardware, stores_of, IsSome, IsTrue}
use Rattle.rv_core.proofs.Words.{IsAccess, Queue, IsSound, hardware_of, IsDescribedCache, IsSoundHardware, queue_of}
use Rattle.rv_core.proofs.Words.{Inside}
use Rattle.rv_core.proofs.Phases.Drained.{below_when_draining, draining_after, oldest_is_legal, retired_when_draining}
use Rattle.rv_core.proofs.Phases.Stored.{sound_with_cache, parts_with_cache, view_with_cache, with_cache}
use Rattle.rv_core.proofs.parts.Parts.start_drain.Goals as goal

-- the queue's oldest store is the oldest retired one
oldest : {p : Inside} → IsSound p → oldest_to_drain p.stores.stores ≡ oldest_to_drain (hardware_of p).committed
oldest {p = p} before = grind arith

nothing_starts : (h : Hardware) (found : Option StoreAccess) (can_drain : Bool) → (IsSome found → IsTrue can_drain) →
    can_drain ≡ false → h ≡ start_drain found h
nothing_starts h None can_drain is_given not = refl
nothing_starts h (Some access) can_drain is_given not = absurd (true≢false (sym (is_given refl) ∙ not))

pub returns-then-not-can_drain : goal.returns-then-not-can_drain
returns-then-not-can_drain c = grind (arith, nothing_starts, oldest)

is_access : {p : Inside} (access : StoreAccess) → IsSound p → oldest_to_drain p.stores.stores ≡ Some access →
    IsAccess p.cache access.address (length access.bytes)
is_access {p = p} access before is =
    let legal = oldest_is_legal p.values (hardware_of p).committed access before.sound.stores.each
    (sym (oldest before) ∙ is) in (
      legal.aligned,
      (
        omega (arith, before.sound.cache.base, legal.from_base),
        omega (arith, before.sound.cache.base, before.sound.cache.bytes, legal.to_end),
      ),
    )

pub write-cost-requires : goal.write-cost-requires
write-cost-requires c = grind (arith, is_access)

is_oldest : {p : Inside} {access : StoreAccess} → IsSound p → oldest_to_drain p.stores.stores ≡ Some access →
    oldest_to_drain (hardware_of p).committed ≡ Some access
is_oldest before is = sym (oldest before) ∙ is

-- the parts but for cache and port
abbrev draining : Inside → List QueuedStore
draining p = with_oldest_draining (hardware_of p).committed

queued : {p : Inside} {stores : Queue} {access : StoreAccess} → IsSound p →
    oldest_to_drain p.stores.stores ≡ Some access →
    stores ≡ record p.stores { stores = with_oldest_draining p.stores.stores } →
    stores ≡ queue_of (record (hardware_of p) { committed = draining p })
queued {p = p} {access = access} before is left =
    let h = hardware_of p in
    left
    ∙ ap (λ (q : Queue). record q { stores = with_oldest_draining q.stores }) before.tied.queued
    ∙ ap (λ l. record { stores = l; capacity = h.values.store_queue })
    (draining_after h.committed (stores_of h.rob.retired h.rob.entries) access (is_oldest before is))

described : (c : goal.After-self-1) → IsDescribedCache c.self.inside.values c.write-cost.new.self
described c = grind arith

sound : (c : goal.After-self-1) →
    IsSoundHardware (with_cache c.write-cost.new.self (draining c.self.inside) (c.self.inside.cycle + c.from.result)
    (hardware_of c.self.inside))
sound c =
    let h = hardware_of c.self.inside in
    sound_with_cache c.self.invariant.sound (described c)
    (retired_when_draining h.values h.committed c.self.invariant.sound.stores.each)
    (below_when_draining h.rob.retired h.committed c.self.invariant.sound.stores.older)
    (omega (arith, c.self.invariant.sound.cycles, c.from.ensures, c.write-cost.type_inv))

stores : (c : goal.After-self-1) →
    c.start_drain-access.new.self ≡ queue_of (record (hardware_of c.self.inside) { committed = draining c.self.inside })
stores c = queued c.self.invariant c.start_drain-access.ensures.access c.start_drain-access.ensures.stores

pub invariant_of-self : goal.invariant_of-self
invariant_of-self c =
    parts_with_cache c.self.invariant (sound c) (stores c)

-- the access is the definition's
accessed : (c : goal.After-self-1) →
    with_cache c.write-cost.new.self (draining c.self.inside) (c.self.inside.cycle + c.from.result)
    (hardware_of c.self.inside)
    ≡ with_drained c.start_drain-access.result (hardware_of c.self.inside)
accessed c = grind arith

pub returns : goal.returns
returns c =
    let p = c.self.inside in
    view_with_cache c.self.invariant (sound c) (stores c)
    ∙ accessed c
    ∙ ap (λ o. start_drain o (hardware_of p))
    (sym (is_oldest c.self.invariant c.start_drain-access.ensures.access))
    ∙ ap (λ (h : Hardware). start_drain (oldest_to_drain h.committed) h) c.self.view_is
