-- The stores that wait for the cache's port are retired ones, and only the oldest may have begun its access.
use Rattle.rv_hardware.proofs.Words.{◌≡◌, ℕ, true, false, List, [], ◌∷◌, ◌++◌, Option, append-nil, StoreAccess, Each}
use Rattle.rv_hardware.proofs.Words.{with_oldest_draining, without_drained, draining, is_committed, is_committed_state}
use Rattle.rv_hardware.proofs.Words.{is_draining, Store, StoreState, Hardware, committed_store, by_test, Each-push}
use Rattle.rv_hardware.proofs.Words.{arith}
use Rattle.rv_hardware.proofs.Turns.Cited.{IsKept, phases-kept, IsKeptByChanges}

-- retired, and its access has not begun
abbrev pub CanDrain : Store → Type 0
CanDrain s = (is_committed s ≡ true) × (is_draining s ≡ false)

-- all stores are retired, and none after the oldest has begun its access
abbrev pub IsQueue : List Store → Type 0
IsQueue [] = Unit {0}
IsQueue (s ∷ ss) = (is_committed s ≡ true) × Each CanDrain ss

-- the stores that wait for the port are such a queue
abbrev pub HasQueue : Hardware → Type 0
HasQueue h = IsQueue h.committed

-- stores of which none has begun its access are a queue
pub queue_of_all : (ss : List Store) → Each CanDrain ss → IsQueue ss
queue_of_all ss each = grind arith

queue_push : (ss : List Store) (s : Store) → CanDrain s → IsQueue ss → IsQueue (ss ++ s ∷ [])
queue_push ss s can queue = grind (arith, Each-push)

queue_retired : (ss : List Store) (seq : ℕ) (access : Option StoreAccess) → IsQueue ss →
    IsQueue (ss ++ committed_store seq access)
queue_retired ss seq access queue = grind (arith, append-nil, queue_push)

pub queue_without : (ss : List Store) → IsQueue ss → IsQueue (without_drained ss)
queue_without ss queue = grind (arith, by_test, queue_of_all)

still_committed : (state : StoreState) → is_committed_state state ≡ true → is_committed_state (draining state) ≡ true
still_committed state is = grind arith

pub queue_draining : (ss : List Store) → IsQueue ss → IsQueue (with_oldest_draining ss)
queue_draining ss queue = grind (arith, still_committed)

queue_changes : IsKeptByChanges HasQueue
queue_changes h given holds queue = grind (arith, queue_retired, queue_without, queue_draining)

-- every cycle keeps it
pub queue-kept : IsKept HasQueue
queue-kept = record { phases = phases-kept queue_changes; fetch = λ ram cycle h front stop queue fetches. queue }
