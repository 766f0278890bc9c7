-- The hardware with other instructions in flight, or with other fetched words, is as sound.
use Rattle.std.proofs.Common.{arith}
use Rattle.rv_core.proofs.Words.{◌≡◌, ◌≤◌, false, List, length, All, AllPairs, is_serialising, Entry, FetchBuffer}
use Rattle.rv_core.proofs.Words.{Hardware, IsDecoded, IsSoundEntry, IsSoundHardware}

-- sound instructions and decoded words in place of others leave sound hardware
pub sound_in_flight : (h : Hardware) (es : List Entry) (front : FetchBuffer) → IsSoundHardware h →
    length es ≤ h.values.rob →
    All (IsSoundEntry h.values) es
    → AllPairs (λ older younger. is_serialising older.instruction ≡ false) es → All IsDecoded front.entries
    → IsSoundHardware (record h { rob = record h.rob { entries = es }; front = front })
sound_in_flight h es front sound fits each serial decoded = grind arith
