use Rattle.rv_rename.proofs.CheckpointLists.{checkpoints-filter}
use Rattle.std.proofs.Common.{arith, not, ◌==◌}
use Rattle.rv_rename.proofs.rename_map.RenameMap.drop_checkpoint.Goals as goal

pub returns : goal.returns
returns c = grind (arith, checkpoints-filter (λ n. not (c.args.seq == n)))
