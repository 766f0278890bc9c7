-- The stores of a queue are added one place after another.
use Rattle.std.proofs.Common.{◌≡◌, ℕ, zero, suc, ◌+◌, ◌<◌, List, [], ◌∷◌, Option, arith, drop, length, refl}
use Rattle.std.specs.Prelude.{slice_get}
use Rattle.rv_stores.specs.declared.store.Store.{Store}
use Rattle.rv_causes.specs.WaitingStores.{with_queue, with_queued}

after_next : (stores : List Store) (place : ℕ) (waiting : List (Option ℕ)) → place < length stores
    → with_queue (drop (suc place) stores) (with_queued (slice_get stores place) waiting)
    ≡ with_queue (drop place stores) waiting
after_next [] place waiting here = absurd (omega (arith, here))
after_next (s ∷ ss) zero waiting here = refl
after_next (s ∷ ss) (suc place) waiting here = after_next ss place waiting (omega (arith, here))

-- one store of the queue more is added before those after it
pub queued_on : (stores : List Store) (place : ℕ) (waiting : List (Option ℕ)) → place < length stores
    → with_queue (drop (place + 1) stores) (with_queued (slice_get stores place) waiting)
    ≡ with_queue (drop place stores) waiting
queued_on stores place waiting here = grind (arith, after_next)
