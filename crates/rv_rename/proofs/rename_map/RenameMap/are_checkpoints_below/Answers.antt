use Rattle.rv_rename.proofs.CheckpointLists.{AreBelow-checkpoints}
use Rattle.rv_rename.proofs.rename_map.RenameMap.are_checkpoints_below.Goals as goal

pub returns : goal.returns
returns c =
    let tells = rw c.deref.ensures.value at c.all_below.ensures in
    let all = AreBelow-checkpoints c.args.seq c.self.inside.checkpoints.items c.self.inside.producers.items in
    rw (← c.self.view_is) (λ t. all.0 (tells.0 t), λ are. tells.1 (all.1 are))
