-- The fields of a pool of units: what they stand for, and what is true of them.
use Rattle.std.specs.Prelude.{◌≤◌, replicate, if◌then◌else◌, vec_capacity}
use Rattle.rv_units.specs.Pool.{Pool}
use Rattle.rv_units.specs.declared.unit_pool.UnitPool.TheInside.{Inside}

-- a pipelined kind counts its starts of one cycle, another one lists what holds a unit
abbrev pub pool : Inside → Pool
pool p = record {
  units = p.units;
  is_pipelined = p.is_pipelined;
  starts = if p.is_pipelined then replicate p.count (record { cycle = p.latest; cost = 1 }) else p.starts.items;
}

-- the room for as many starts as there are units is reserved
pub record IsSoundPool (p : Inside) : Type 0 where
  pub reserved : p.units ≤ vec_capacity p.starts
