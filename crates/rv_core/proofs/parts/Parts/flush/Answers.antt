use Rattle.std.proofs.Common.{arith}
use Rattle.rv_core.proofs.Words.{◌≡◌, ap, ◌∙◌, flushed, hardware_of, Inside}
use Rattle.rv_core.proofs.Retired.Flushed.{emptied}
use Rattle.rv_core.proofs.Retired.Squashed.{AreSquashed, squashed-is, squashed-sound}
use Rattle.rv_core.proofs.parts.Parts.flush.Goals as goal

abbrev left : goal.After-redirect → Inside
left c = record c.self.inside {
  stores = c.squash_all.new.stores;
  stations = c.squash_all.new.stations;
  bus = c.squash_all.new.bus;
  rename = c.squash_all.new.rename;
  rob = c.squash_all.new.rob;
  front = c.redirect.new.self;
}

squashed : (c : goal.After-redirect) → AreSquashed c.self.inside (left c)
squashed c = grind arith

same : (c : goal.After-redirect) →
    record (hardware_of (left c)) { committed = (hardware_of c.self.inside).committed }
    ≡ flushed (hardware_of c.self.inside)
same c = grind (arith, emptied)

pub invariant_of-self : goal.invariant_of-self
invariant_of-self c =
    let p = c.self.inside in
    squashed-sound p (left c) c.self.invariant p.pc p.registers p.rob (squashed c) c.self.invariant.sound
    (same c) c.self.invariant.stale_base c.self.invariant.stale_size

pub returns : goal.returns
returns c =
    let p = c.self.inside in
    squashed-is p (left c) c.self.invariant p.pc p.registers p.rob (squashed c) c.self.invariant.sound (same c)
    ∙ ap flushed c.self.view_is
