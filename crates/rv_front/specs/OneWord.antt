-- The fetch of one word, of which a cycle's fetch is made.
use Rattle.std.specs.Prelude.{◌≡◌, ℕ, nat_lt, is_none, [], ◌∷◌, ◌++◌, length, Option, Some, MatchBool}
use Rattle.rv_memory.specs.Memory.{Memory}
use Rattle.rv_front.specs.FetchBuffer.{Answers, FetchBuffer, IsFetchedAt, stop_after}
use Rattle.rv_front.specs.declared.fetched.{Fetched.Fetched, FetchStop.FetchStop}
use Rattle.rv_front.specs.declared.fetched.FetchStop.TheVariants.{Room}

-- the fetch of one word where there is room, and why the fetch ends with it or, where there is none, without it
abbrev pub FetchesOne : Answers → Memory → ℕ → FetchBuffer → FetchBuffer → Option FetchStop → Type 0
FetchesOne answers ram cycle old new stop =
    MatchBool (nat_lt (length old.entries) old.capacity)
    ((e : Fetched) ×
    IsFetchedAt answers ram cycle old.next_pc e ×
    (stop ≡ stop_after e) ×
    (new ≡ record old { entries = old.entries ++ e ∷ []; next_pc = e.predicted; halted = is_none e.word }))
    ((new ≡ old) × (stop ≡ Some Room))
