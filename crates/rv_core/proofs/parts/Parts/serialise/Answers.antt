use Rattle.std.proofs.Common.{arith}
use Rattle.rv_core.proofs.Words.{◌≡◌, ◌+◌, ◌*◌, ◌<◌, sym, ap, ◌∙◌, subst, head_retired, Hardware, flushed, IsHead}
use Rattle.rv_core.proofs.Words.{hardware_of, registers_with, IsSoundHardware, Inside}
use Rattle.rv_core.proofs.Retired.Flushed.{emptied}
use Rattle.rv_core.proofs.Retired.Serial.{sound_after_serial}
use Rattle.rv_core.proofs.Retired.Squashed.{AreSquashed, squashed-is, squashed-sound}
use Rattle.rv_core.proofs.parts.Parts.serialise.Goals as goal

abbrev left : goal.After-redirect → Inside
left c = record c.self.inside {
  pc = c.args.next;
  registers = c.write.new.registers;
  stores = c.squash_all.new.stores;
  stations = c.squash_all.new.stations;
  bus = c.squash_all.new.bus;
  rename = c.squash_all.new.rename;
  rob = c.squash_all.new.rob;
  front = c.redirect.new.self;
}

-- the hardware before the squash
abbrev next : goal.After-redirect → Hardware → Hardware
next c h = record h {
  pc = c.args.next;
  registers = registers_with c.args.written h.registers;
  rob = head_retired h.rob;
}

squashed : (c : goal.After-redirect) → AreSquashed c.self.inside (left c)
squashed c = grind arith

sound : (c : goal.After-redirect) → IsSoundHardware (next c (hardware_of c.self.inside))
sound c =
    let head = subst (λ (x : Hardware). IsHead x c.args.entry.now) (sym c.self.view_is) c.requires.head in
    let room = subst (λ (x : Hardware). x.rob.retired < 8 * x.cycle + 8) (sym c.self.view_is) c.requires.room in
    sound_after_serial (hardware_of c.self.inside) c.args.entry.now head.0 c.args.next c.args.written
    c.self.invariant.sound
    head.1 room

same : (c : goal.After-redirect) →
    record (hardware_of (left c)) { committed = (hardware_of c.self.inside).committed }
    ≡ flushed (next c (hardware_of c.self.inside))
same c = grind (arith, emptied)

pub invariant_of-self : goal.invariant_of-self
invariant_of-self c =
    let p = c.self.inside in
    squashed-sound p (left c) c.self.invariant c.args.next
    (registers_with c.args.written p.registers) (head_retired p.rob)
    (squashed c) (sound c) (same c) c.self.invariant.stale_base
    c.self.invariant.stale_size

pub returns-clause-hardware : goal.returns-clause-hardware
returns-clause-hardware c =
    let p = c.self.inside in
    squashed-is p (left c) c.self.invariant c.args.next (registers_with c.args.written p.registers) (head_retired p.rob)
    (squashed c) (sound c) (same c) ∙ ap (λ h. flushed (next c h)) c.self.view_is
