-- The fetch phase keeps what holds of the hardware.
use Rattle.std.proofs.Common.{arith}
use Rattle.rv_core.proofs.Words.{ℕ, All, sym, subst, All-append, Memory, Answers, FetchBuffer, FetchesInto, FetchStop}
use Rattle.rv_core.proofs.Words.{All-Each, Each-weaker, IsSound, IsDecoded, Inside}
use Rattle.rv_hardware.proofs.Turns.Fetch.{IsNew, fetch_phase}

-- the instructions of the words in the fetch buffer are still theirs after a fetch
pub fetched_decoded : (answers : Answers) (ram : Memory) (cycle : ℕ) (old new : FetchBuffer) (stop : FetchStop) →
    All IsDecoded old.entries → FetchesInto answers ram cycle old new stop → All IsDecoded new.entries
fetched_decoded answers ram cycle old new stop all fetches =
    let phase = fetch_phase answers ram cycle old new stop fetches in
    subst (All IsDecoded) (sym phase.entries)
    (All-append IsDecoded old.entries phase.added all
    (All-Each IsDecoded phase.added (Each-weaker (IsNew cycle) IsDecoded (λ f is. is.1) phase.added phase.are_new)))

-- the front alone changes
pub sound_with_front : (parts : Inside) (front : FetchBuffer) → IsSound parts → All IsDecoded front.entries →
    IsSound (record parts { front = front })
sound_with_front parts front before decoded = grind arith
