use Rattle.std.proofs.Common.{arith}
use Rattle.rv_isa.proofs.Numbered.{IsInOrder-push}
use Rattle.rv_rename.proofs.Prefixes.{seq_of}
use Rattle.rv_rename.proofs.Youngest.{IsTable-push}
use Rattle.rv_rename.proofs.CheckpointLists.{checkpoints-define}
use Rattle.rv_rename.proofs.rename_map.RenameMap.define.Goals as goal

pub invariant_of-self : goal.invariant_of-self
invariant_of-self c =
    let older = rw (← c.self.view_is) at c.requires.1 in
    rw (c.append.ensures, c.index-place.ensures.number) (record {
      in_order =
          IsInOrder-push seq_of c.self.inside.producers.items (record { register = c.args.reg; seq = c.args.seq })
          c.self.invariant.in_order older;
      table_ok =
          IsTable-push c.self.inside.table c.self.inside.producers.items
          (record { register = c.args.reg; seq = c.args.seq })
          (omega (arith, c.index-place.ensures)) c.self.invariant.table_ok;
      numbers_fit = c.self.invariant.numbers_fit;
      room_ok = c.self.invariant.room_ok;
    })

pub returns : goal.returns
returns c = grind (arith, checkpoints-define)
