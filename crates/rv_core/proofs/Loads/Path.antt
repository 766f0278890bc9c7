-- The path of a load in the code is the definition's.
use Rattle.std.proofs.Common.{arith}
use Rattle.rv_core.proofs.Words.{◌≡◌, ℕ, not, ◌||◌, List, nat_le, at_kind, Kind, Entry, Hardware, Path as DefinedPath}
use Rattle.rv_core.proofs.Words.{cost_of, has_port, with_access, layout_of, stores_after, path_of_load, cache_after}
use Rattle.rv_core.proofs.Words.{defined_path, path_cost, port_after, needs_port, path_of}
use Rattle.rv_core.specs.declared.load.Path.{Path}

-- the code's path of a load is the definition's
pub path_is_defined : (h : Hardware) (older : List Entry) (address count : ℕ) →
    defined_path address (path_of (layout_of h.values) (stores_after h older) address count)
    ≡ path_of_load h older address count
path_is_defined h older address count = grind arith

-- what the port lets pass
pub port_is_defined : (h : Hardware) (address : ℕ) (p : Path) →
    (nat_le h.port_free h.cycle || not (needs_port p)) ≡ has_port h (defined_path address p)
port_is_defined h address p = grind arith

-- what an execution costs
pub cost_is_defined : (h : Hardware) (kind : Kind) (p : DefinedPath) →
    path_cost (at_kind kind h.values.kinds).latency h.values.forward h.cache p ≡ cost_of h kind p
cost_is_defined h kind p = grind arith

-- and what it leaves of cache and port
pub access_is_defined : (h : Hardware) (p : DefinedPath) →
    record h { cache = cache_after h.cache p; port_free = port_after h.cycle h.port_free h.cache p } ≡ with_access p h
access_is_defined h p = grind arith
