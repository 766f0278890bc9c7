use Rattle.std.proofs.Common.{◌≡◌, slice_get, Some, None, ap, sym, refl, ◌∙◌}
use Rattle.std.specs.Option.{option_copied_mut}
use Rattle.std.specs.Fn.{FnOnceReturnsAtMut}
use Rattle.rv_rob.proofs.Places.{IsPlace, with_entry-write, with_entry-none}
use Rattle.rv_rob.proofs.reorder_buffer.Rob.change.Goals as goal
use Rattle.rv_rob.proofs.reorder_buffer.Rob.change.Goals.{in-Some, in_default}

pub returns : goal.returns
returns g c = λ f same.
    let items = c.self.inside.entries.items in
    let place : IsPlace c.place_of-place.result c.args.seq c.self.inside.retired c.self.inside.entries.items =
    record {
      held = rw (← c.self.view_is) at c.place_of-place.ensures.held;
      retired = rw (← c.self.view_is) at c.place_of-place.ensures.retired;
    } in
    elim c.match-get_mut.branch [
      | in-Some w ↦
          let held : slice_get items c.place_of-place.result ≡ Some w.in-Some.entry.now = sym c.get_mut.follows
          ∙ ap option_copied_mut w.in-Some.is in
          let written = with_entry-write f _ c.args.seq c.self.inside.retired items _ place held in
          let ran : FnOnceReturnsAtMut g.F.FnOnce c.args.change w.in-Some.entry.now tt w.change.new.arg2 =
          record { shown = _; shows = refl; left = _; met = w.change.ensures; leaves = refl } in
          rw (w.self-inside-is, ← c.self.view_is, written, same _ _ ran)
      | in_default w ↦
          let none : slice_get items c.place_of-place.result ≡ None = sym c.get_mut.follows
          ∙ ap option_copied_mut w.in_default.is in
          rw (w.self-inside-is, ← c.self.view_is, with_entry-none f _ c.args.seq c.self.inside.retired items place none)
    ]
