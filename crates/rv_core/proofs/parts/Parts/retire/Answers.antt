use Rattle.std.proofs.Common.{arith}
use Rattle.rv_core.proofs.Words.{◌≡◌, ℕ, ◌+◌, ◌*◌, ◌<◌, Some, None, Option, sym, ap, ◌∙◌, subst, is_store}
use Rattle.rv_core.proofs.Words.{target_of_word, Message, Entry, Hardware, broadcast_of, with_result, StaleWords}
use Rattle.rv_core.proofs.Words.{without_checkpoint, IsHead, IsSound, hardware_of, without_target, IsLegalWrite}
use Rattle.rv_core.proofs.Words.{IsSoundHardware, AreTied, Inside}
use Rattle.rv_core.proofs.Ties.Closed.{closed-is, closed-sound}
use Rattle.rv_core.proofs.Retired.Head.{IsTarget, tied_after_head}
use Rattle.rv_core.proofs.Retired.Sound.{sound_after_head}
use Rattle.rv_core.proofs.Retired.Write.{legal_write, write_is_covered}
use Rattle.rv_core.proofs.parts.Parts.retire.Goals as goal

-- what the callers promise, of the parts themselves
head : (p : Inside) {h : Hardware} {e : Entry} → hardware_of p ≡ h → IsHead h e → IsHead (hardware_of p) e
head p {e = e} view is = subst (λ (x : Hardware). IsHead x e) (sym view) is

legal : {p : Inside} {h : Hardware} {e : Entry} {m : Message} → IsSound p → hardware_of p ≡ h → IsHead h e →
    broadcast_of e.stage ≡ Some m → m.fault ≡ None → IsLegalWrite p.values (is_store e.instruction) None m.store
legal {p = p} {e = e} {m = m} sound view is known faultless =
    let at = head p view is in legal_write (hardware_of p) e at.0 m sound.sound at.1 known faultless

pub commit_store-requires : goal.commit_store-requires
commit_store-requires c =
    write_is_covered c.self.inside.values c.self.inside.stale (is_store c.args.entry.now.instruction)
    c.args.message.now.store
    (legal c.self.invariant c.self.view_is c.requires.head c.requires.known c.requires.sound)
    c.self.invariant.stale_base c.self.invariant.stale_size

abbrev left : goal.After-self-1 → Inside
left c = record c.self.inside {
  pc = c.args.message.now.next_pc;
  registers = c.write_target.new.registers;
  stale = c.commit_store.new.stale;
  stores = c.commit_store.new.stores;
  rename = c.retire_oldest.new.rename;
  rob = c.retire_oldest.new.rob;
}

abbrev next : goal.After-self-1 → Hardware
next c = with_result c.args.entry.now c.args.message.now (hardware_of c.self.inside)

target : (c : goal.After-self-1) → IsTarget c.self.inside.registers (target_of_word c.args.entry.now.instruction)
target c = grind arith

write : (c : goal.After-self-1) →
    IsLegalWrite c.self.inside.values (is_store c.args.entry.now.instruction) None c.args.message.now.store
write c = legal c.self.invariant c.self.view_is c.requires.head c.requires.known c.requires.sound

sound : (c : goal.After-self-1) → IsSoundHardware (next c)
sound c =
    let at = head c.self.inside c.self.view_is c.requires.head in
    sound_after_head (hardware_of c.self.inside) c.args.entry.now at.0 c.args.message.now c.self.invariant.sound at.1
    (subst (λ (x : Hardware). x.rob.retired < 8 * x.cycle + 8) (sym c.self.view_is) c.requires.room) (write c)

tied : (c : goal.After-self-1) → AreTied (next c) (left c).rename (left c).stations (left c).bus (left c).stores
tied c =
    let p = c.self.inside in
    let at = head p c.self.view_is c.requires.head in
    let seq = p.rob.retired in
    let after_head =
    tied_after_head (hardware_of p) c.args.entry.now at.0 c.args.message.now p.rename p.stations p.bus p.stores
    c.self.invariant.tied c.self.invariant.sound.stores.each at.1 c.requires.known
    (target c) (write c) in
    record {
      renamed = c.retire_oldest.ensures.rename
          ∙ ap (λ (o : Option ℕ). without_checkpoint seq (without_target seq o p.rename)) c.requires.target
          ∙ after_head.renamed;
      stationed = after_head.stationed;
      pending = after_head.pending;
      queued = c.commit_store.ensures.stores ∙ after_head.queued;
    }

same : (c : goal.After-self-1) → record (hardware_of (left c)) { committed = (next c).committed } ≡ next c
same c = grind arith

pub invariant_of-self : goal.invariant_of-self
invariant_of-self c =
    closed-sound (left c) (next c) (same c) (tied c) (sound c)
    (ap (λ (s : StaleWords). s.base) c.commit_store.ensures.stale ∙ c.self.invariant.stale_base)
    (ap (λ (s : StaleWords). s.size) c.commit_store.ensures.stale ∙ c.self.invariant.stale_size)

pub returns : goal.returns
returns c =
    closed-is (left c) (next c) (same c) (tied c) (sound c)
    ∙ ap (with_result c.args.entry.now c.args.message.now) c.self.view_is
