use Rattle.std.proofs.Common.{sym}
use Rattle.rv_rob.proofs.Places.{IsPlace, entry_of-place}
use Rattle.rv_rob.proofs.reorder_buffer.Rob.get.Goals as goal

pub returns : goal.returns
returns c =
    let place : IsPlace c.place_of.result c.args.seq c.self.inside.retired c.self.inside.entries.items =
    record {
      held = rw (← c.self.view_is) at c.place_of.ensures.held;
      retired = rw (← c.self.view_is) at c.place_of.ensures.retired;
    } in
    rw (c.get.ensures, ← c.self.view_is)
    (sym (entry_of-place _ c.args.seq c.self.inside.retired c.self.inside.entries.items place))
