-- A unit is held no longer than for the longest execution.
use Rattle.rv_hardware.proofs.Words.{ℕ, ◌+◌, ◌≤◌, Bool, List, arith, at_kind-for_each, with_kind-each, at_kind}
use Rattle.rv_hardware.proofs.Words.{with_kind, Issue, Kind, PerKind, Values, Each, Pool, free_pool, held_for, Hardware}
use Rattle.rv_hardware.proofs.Words.{reset_hardware, Each-push, Each-filter, each_then}
use Rattle.rv_units.specs.Pool.{started as started_unit}
use Rattle.rv_hardware.proofs.Turns.Cited.{IsKept, phases-kept, IsKeptByChanges, longest_execution}

-- an execution holds its unit until a cycle
abbrev pub HoldsUntil : ℕ → Issue → Type 0
HoldsUntil limit start = start.cycle + start.cost ≤ limit

abbrev pub HoldUntil : ℕ → PerKind Pool → Type 0
HoldUntil limit units = (k : Kind) → Each (HoldsUntil limit) (at_kind k units).starts

-- no unit is held for longer than the longest execution
abbrev pub AreHeld : Hardware → Type 0
AreHeld h = HoldUntil (h.cycle + longest_execution h) h.units

held_at_most : (pipelined : Bool) (cost longest : ℕ) → 1 ≤ longest → cost ≤ longest → held_for pipelined cost ≤ longest
held_at_most pipelined cost longest one most = grind arith

held_by_start : (h : Hardware) (k : Kind) (cost : ℕ) → cost ≤ longest_execution h → AreHeld h →
    HoldUntil (h.cycle + longest_execution h) (with_kind k (started_unit cost h.cycle (at_kind k h.units)) h.units)
held_by_start h k cost costs held = grind (arith, held_at_most, with_kind-each, Each-push, Each-filter)

held_changes : IsKeptByChanges AreHeld
held_changes h given holds held = grind (arith, held_by_start)

-- every cycle keeps it
pub held-kept : IsKept AreHeld
held-kept = record {
  phases = phases-kept held_changes;
  fetch = λ ram cycle h front stop held fetches.
      let limit : ℕ = h.cycle + longest_execution h in
      let more : ℕ = h.cycle + 1 + longest_execution h in
      let past : limit ≤ more = omega arith in
      λ k. each_then (λ start before. later start before past) _ (held k);
} where
  later : {limit more : ℕ} (start : Issue) → start.cycle + start.cost ≤ limit → limit ≤ more →
      start.cycle + start.cost ≤ more
  later start before past = omega arith

-- it holds at reset
pub held-at_reset : (values : Values) (image : List ℕ) (start : ℕ) → AreHeld (reset_hardware values image start)
held-at_reset values image start k = rw (at_kind-for_each free_pool values.kinds k) tt
