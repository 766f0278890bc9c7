-- An access to the cache costs a hit, a miss and a write-back at most, and an execution the longest one's time.
use Rattle.rv_hardware.proofs.Words.{ℕ, ◌≤◌, arith, greatest_access, greatest_latency, at_kind, Kind, Values, Memory}
use Rattle.rv_hardware.proofs.Words.{Contents, access_cost, Hardware, Path, cost_of}
use Rattle.rv_hardware.proofs.Turns.Forms.{longest_execution}

-- an access costs a hit, a miss and a write-back at most
pub access_cost-most : (cache : Contents Memory) (address : ℕ) →
    access_cost cache address ≤ greatest_access cache.values
access_cost-most cache address = grind arith

-- an access costs a hit at least
pub access_cost-least : (cache : Contents Memory) (address : ℕ) → cache.values.hit ≤ access_cost cache address
access_cost-least cache address = grind arith

latency_at_most : (values : Values) (k : Kind) → (at_kind k values.kinds).latency ≤ greatest_latency values
latency_at_most values k = grind arith

forward_at_most : (values : Values) → values.forward ≤ greatest_latency values
forward_at_most values = omega arith

-- an execution costs the longest execution's time at most
pub cost_of-most : (h : Hardware) (k : Kind) (path : Path) → cost_of h k path ≤ longest_execution h
cost_of-most h k path = grind (arith, latency_at_most, forward_at_most, access_cost-most)
