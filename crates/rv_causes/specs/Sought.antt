-- What is looked for among the instructions of a cycle, by their stamps.
use Rattle.std.specs.Prelude.{ℕ, ◌+◌, ◌==◌, ◌&&◌, not, nat_lt, Bool, true, false, Option, Some, None, is_some}
use Rattle.rv_isa.specs.Instruction.{is_fence_i, is_load, is_of_kind, is_store, kind_of_word}
use Rattle.rv_isa.specs.declared.operations.Kind.{Kind}
use Rattle.rv_passage.specs.Passage.{is_in_flight}
use Rattle.rv_passage.specs.Result.{issued_in, ready_in}
use Rattle.rv_passage.specs.declared.passage.{Ending.Ending, Passage.Passage}
use Rattle.rv_passage.specs.declared.passage.Ending.TheVariants.{InFlight, Retired, Trapped, Squashed}
use Rattle.rv_causes.specs.declared.sought.Sought.{Sought}
use Rattle.rv_causes.specs.declared.sought.Sought.TheVariants as sought

-- a stamp is that of a cycle
abbrev pub is_at : ℕ → Option ℕ → Bool
is_at cycle None = false
is_at cycle (Some stamp) = stamp == cycle

-- it is that of the cycle just before
abbrev pub is_just_before : ℕ → Option ℕ → Bool
is_just_before cycle None = false
is_just_before cycle (Some stamp) = stamp + 1 == cycle

-- it is that of a cycle before
abbrev pub is_before : ℕ → Option ℕ → Bool
is_before cycle None = false
is_before cycle (Some stamp) = nat_lt stamp cycle

-- an instruction retired or trapped
abbrev pub is_end : Ending → Bool
is_end InFlight = false
is_end (Retired order cycle written next) = true
is_end (Trapped cycle cause) = true
is_end (Squashed cycle) = false

-- it uses a unit of a kind
abbrev pub uses : Kind → Passage → Bool
uses kind p = is_of_kind kind (kind_of_word p.instruction)

-- an instruction is one that is looked for
abbrev pub is_sought : Sought → Passage → Bool
is_sought sought.Any p = true
is_sought sought.InFlight p = is_in_flight p
is_sought sought.Entry p = is_in_flight p && is_some p.dispatched
is_sought sought.FenceI p = is_fence_i p.instruction && (is_in_flight p && is_some p.dispatched)
is_sought sought.Ended p = is_end p.ending
is_sought (sought.Number number) p = p.number == number
is_sought (sought.Stationed kind cycle) p =
    uses kind p && (is_before cycle p.dispatched && not (is_before cycle (issued_in p)))
is_sought (sought.IssuedIn kind cycle) p = uses kind p && is_at cycle (issued_in p)
is_sought (sought.IssuedBefore kind cycle) p = uses kind p && is_just_before cycle (issued_in p)
is_sought (sought.LoadUntil cycle end) p =
    is_load p.instruction && (is_at cycle (issued_in p) && is_at end (ready_in p))
is_sought (sought.BroadcastBefore cycle) p = is_just_before cycle p.broadcast
is_sought (sought.StoreBefore cycle) p = is_store p.instruction && is_just_before cycle p.broadcast
