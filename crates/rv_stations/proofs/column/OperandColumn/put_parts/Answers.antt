-- One tag and one value written are one operand, and the bit shows whether it waits.
use Rattle.std.proofs.Common.{arith}
use Rattle.std.proofs.lemmas.List.{length-set}
use Rattle.rv_stations.specs.Column.{operand_of}
use Rattle.rv_stations.specs.ColumnFields.{operands}
use Rattle.rv_stations.proofs.ColumnLemmas.{IsWaitMask-set, place_within, length-column}
use Rattle.rv_stations.proofs.ZipLemmas.{zip2-set}
use Rattle.rv_stations.proofs.column.OperandColumn.put_parts.Goals as goal

pub index_mut-requires : goal.index_mut-requires
index_mut-requires c = omega (
  arith,
  place_within c.self.inside c.self.invariant _ c.self.view_is
      c.args.place c.requires,
)

pub index_mut-requires-2 : goal.index_mut-requires-2
index_mut-requires-2 c =
    omega (
      arith,
      place_within c.self.inside c.self.invariant _ c.self.view_is c.args.place c.requires,
      c.self.invariant.as_many,
    )

pub marked-self-inside-requires : goal.marked-self-inside-requires
marked-self-inside-requires c =
    omega (
      arith,
      place_within c.self.inside c.self.invariant _ c.self.view_is c.args.place c.requires,
      c.self.invariant.few,
    )

pub invariant_of-self : goal.invariant_of-self
invariant_of-self c =
    let within = place_within c.self.inside c.self.invariant _ c.self.view_is c.args.place c.requires in
    record {
      as_many =
          omega (
            arith,
            length-set c.self.inside.tags.items c.args.place c.args.tag,
            length-set c.self.inside.values.items c.args.place c.args.value,
            c.self.invariant.as_many,
          );
      few = c.self.invariant.few;
      eights = c.self.invariant.eights;
      marked =
          rw (zip2-set operand_of c.args.place c.self.inside.tags.items c.self.inside.values.items c.args.tag
          c.args.value within (omega (arith, within, c.self.invariant.as_many)))
          (IsWaitMask-set (operands c.self.inside) c.args.place c.args.tag c.args.value c.self.inside.waiting
          c.marked-self-inside.result
          (omega (arith, length-column c.self.inside c.self.invariant, c.self.invariant.few))
          (omega (arith, within, length-column c.self.inside c.self.invariant))
          c.self.invariant.marked (rw c.is_producer.ensures at c.marked-self-inside.ensures.bit)
          c.marked-self-inside.ensures.others);
    }

pub returns : goal.returns
returns c =
    let within = place_within c.self.inside c.self.invariant _ c.self.view_is c.args.place c.requires in
    rw (← c.self.view_is)
    (zip2-set operand_of c.args.place c.self.inside.tags.items c.self.inside.values.items c.args.tag c.args.value
    within (omega (arith, within, c.self.invariant.as_many)))
