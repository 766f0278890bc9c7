use Rattle.std.proofs.Common.{arith}
use Rattle.rv_rename.proofs.CheckpointLists.{checkpoints-push}
use Rattle.rv_rename.proofs.rename_map.RenameMap.checkpoint.Goals as goal

pub returns : goal.returns
returns c = grind (arith, checkpoints-push)
