-- The simulated hardware between two cycles.
use Rattle.std.specs.Prelude.{ℕ, List}
use Rattle.std.specs.Ordering.{nat_cmp}
use Rattle.std.specs.FinSet as set
use Rattle.rv_isa.specs.declared.{lines.Lines.Lines, per_kind.PerKind.PerKind, values.Values.Values}
use Rattle.rv_arch.specs.Csr.{Kept}
use Rattle.rv_memory.specs.Memory.{Memory}
use Rattle.rv_cache.specs.Cache.{Contents}
use Rattle.rv_stores.specs.declared.store.Store.{Store}
use Rattle.rv_rob.specs.ReorderBuffer.{ReorderBuffer}
use Rattle.rv_units.specs.Pool.{Pool}
use Rattle.rv_front.specs.FetchBuffer.{FetchBuffer}

-- all that the hardware remembers
pub record Hardware : Type 0 where
  -- what the machine description says
  pub values : Values
  -- the state that retired instructions left: pc, registers, CSRs, and the words that they stored to
  pub pc : ℕ
  pub registers : List ℕ
  pub csrs : Kept
  pub stale : set.FinSet nat_cmp
  -- the data cache over RAM, and the retired stores that it does not hold yet, oldest first
  pub cache : Contents Memory
  pub committed : List Store
  -- the first cycle in which the cache's port is idle
  pub port_free : ℕ
  -- the executions that hold a unit
  pub units : PerKind Pool
  -- the instructions in flight and the fetched words
  pub rob : ReorderBuffer
  pub front : FetchBuffer
  -- the number of the cycle, and the levels of the interrupt lines in it
  pub cycle : ℕ
  pub lines : Lines
