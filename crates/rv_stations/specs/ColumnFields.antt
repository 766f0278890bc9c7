-- The fields of a column of operands: what they stand for, and what is true of them.
use Rattle.std.specs.Prelude.{◌≡◌, ◌≤◌, ◌%◌, List, vec_len}
use Rattle.std.specs.Simd.Lanes.{zip2}
use Rattle.rv_stations.specs.declared.waiting.Operand.{Operand}
use Rattle.rv_stations.specs.Column.{operand_of, IsWaitMask}
use Rattle.rv_stations.specs.declared.column.OperandColumn.TheInside.{Inside}

-- the operands that the tags and the values stand for
abbrev pub operands : Inside → List Operand
operands c = zip2 operand_of c.tags.items c.values.items

-- there are as many tags as values, at most 64 in groups of eight, and a bit says which operands wait
pub record IsSoundColumn (c : Inside) : Type 0 where
  pub as_many : vec_len c.tags ≡ vec_len c.values
  pub few : vec_len c.tags ≤ 64
  pub eights : vec_len c.tags % 8 ≡ 0
  pub marked : IsWaitMask (operands c) c.waiting
