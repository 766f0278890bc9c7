use Rattle.rv_rob.proofs.Places.{entries_below-take}
use Rattle.rv_rob.proofs.reorder_buffer.Rob.cut.Goals as goal

pub returns : goal.returns
returns c =
    let kept = entries_below-take _ c.args.from c.self.inside.retired c.self.inside.entries.items
    c.saturating_sub-kept.ensures in
    rw (← c.self.view_is, kept, c.truncate_back.ensures)
