-- Everything in flight is squashed: what is left is empty, but for the retired stores.
use Rattle.rv_core.proofs.Words.{◌≡◌, ℕ, List, [], filter, append-nil, arith, for_each, PerKind, is_committed}
use Rattle.rv_core.proofs.Words.{ReorderBuffer, Hardware, flushed, below, below-none, Queue, Pool, squashed_pool}
use Rattle.rv_core.proofs.Words.{Pending, squashed_bus, Renaming, cleared, cut_from, IsSoundHardware, AreTied}
use Rattle.rv_core.proofs.Retired.Stores.{AreRetired}
use Rattle.rv_core.proofs.Phases.InFlight.{sound_in_flight}
use Rattle.rv_core.proofs.Ties.Entries.{entries_below-none}
use Rattle.rv_core.proofs.Ties.Queue.{retired_of_queue}

-- no number is below 0
none_below_0 : {X : Type 0} (seq : X → ℕ) (xs : List X) → below seq 0 xs ≡ []
none_below_0 seq xs = below-none seq 0 xs (λ k d lt. omega arith)

-- what a squash of everything leaves is tied to the flushed hardware, whatever became of its registers
pub tied_when_flushed : (h : Hardware) (pc : ℕ) (registers : List ℕ) (rob : ReorderBuffer) (rename : Renaming)
    (stations : PerKind Pool) (bus : Pending) (queue : Queue) →
    AreTied h rename stations bus queue → AreRetired h.values h.committed →
    AreTied (flushed (record h { pc = pc; registers = registers; rob = rob })) (cleared rename)
    (for_each (squashed_pool 0) stations) (squashed_bus 0 bus)
    (record queue { stores = filter is_committed queue.stores })
tied_when_flushed h pc registers rob rename stations bus queue tied are =
    grind (arith, none_below_0, retired_of_queue, append-nil)

-- flushed hardware is sound
pub sound_when_flushed : (h : Hardware) → IsSoundHardware h → IsSoundHardware (flushed h)
sound_when_flushed h sound = grind (arith, sound_in_flight)

-- a cut from the first number on leaves an empty reorder buffer
pub emptied : (rob : ReorderBuffer) → cut_from 0 rob ≡ record rob { entries = [] }
emptied rob = grind (arith, entries_below-none)
