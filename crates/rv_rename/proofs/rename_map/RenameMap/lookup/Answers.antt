use Rattle.std.proofs.Common.{arith}
use Rattle.rv_rename.proofs.Youngest.{NoneAbove-youngest}
use Rattle.rv_rename.proofs.rename_map.RenameMap.lookup.Goals as goal

pub returns-clause-highest : goal.returns-clause-highest
returns-clause-highest c =
    grind (arith, NoneAbove-youngest, c.self.invariant.table_ok.producers c.args.reg)
