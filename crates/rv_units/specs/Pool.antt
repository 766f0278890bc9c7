-- The units of one kind: the starts that hold one, and when one is free.
use Rattle.std.specs.Prelude.{ℕ, ◌+◌, Bool, ◌&&◌, List, [], ◌∷◌, ◌++◌, length, filter, nat_le, nat_lt, if◌then◌else◌}
use Rattle.rv_isa.specs.declared.{issues.Issue.Issue, values.KindValues.KindValues}

-- how many units of a kind there are, whether they are pipelined, and the starts: the cycle of each, and
-- for how many cycles it holds its unit
pub record Pool : Type 0 where
  pub units : ℕ
  pub is_pipelined : Bool
  pub starts : List Issue

-- the units that a description gives a kind, all of them free
abbrev pub free_pool : KindValues → Pool
free_pool kind = record { units = kind.units; is_pipelined = kind.pipelined; starts = [] }

-- a pipelined unit is held for one cycle, another one for as long as the execution takes
abbrev pub held_for : Bool → ℕ → ℕ
held_for is_pipelined cost = if is_pipelined then 1 else cost

-- an execution holds its unit from its start on
abbrev pub holds_unit : ℕ → Issue → Bool
holds_unit cycle start = nat_le start.cycle cycle && nat_lt cycle (start.cycle + start.cost)

-- the starts that hold a unit in a cycle
abbrev pub holding : ℕ → List Issue → List Issue
holding cycle starts = filter (holds_unit cycle) starts

-- fewer units are held than there are
abbrev pub is_free : ℕ → Pool → Bool
is_free cycle pool = nat_lt (length (holding cycle pool.starts)) pool.units

-- the pool after a start: what still holds a unit, and the new execution
abbrev pub started : ℕ → ℕ → Pool → Pool
started cost cycle pool = record pool {
  starts = holding cycle pool.starts ++ record { cycle = cycle; cost = held_for pool.is_pipelined cost } ∷ [];
}
