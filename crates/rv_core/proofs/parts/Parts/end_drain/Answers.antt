use Rattle.std.proofs.Common.{arith}
use Rattle.rv_core.proofs.Words.{◌≡◌, ◌<◌, ap, ◌∙◌, without_drained, Store as QueuedStore, end_drain, Hardware, Queue}
use Rattle.rv_core.proofs.Words.{IsSound, hardware_of, IsRetiredStore, IsSoundHardware, queue_of, Inside}
use Rattle.rv_core.proofs.Phases.Drained.{kept_when_drained}
use Rattle.rv_core.proofs.Phases.Stored.{sound_with_cache, parts_with_cache, view_with_cache}
use Rattle.rv_core.proofs.parts.Parts.end_drain.Goals as goal

abbrev next : Inside → Hardware
next p = end_drain (hardware_of p)

sound : {p : Inside} → IsSound p → IsSoundHardware (next p)
sound {p = p} before =
    let h = hardware_of p in
    sound_with_cache before.sound before.sound.cache
    (kept_when_drained (λ (s : QueuedStore). IsRetiredStore h.values s.state) h.committed before.sound.stores.each)
    (kept_when_drained (λ (s : QueuedStore). s.seq < h.rob.retired) h.committed
    before.sound.stores.older) before.sound.port

queued : {p : Inside} {stores : Queue} → IsSound p →
    stores ≡ record p.stores { stores = without_drained p.stores.stores } →
    stores ≡ queue_of (next p)
queued {p = p} before is = grind arith

pub invariant_of-self : goal.invariant_of-self
invariant_of-self c =
    parts_with_cache c.self.invariant (sound c.self.invariant) (queued c.self.invariant c.end_drain.ensures)

pub returns : goal.returns
returns c =
    view_with_cache c.self.invariant (sound c.self.invariant) (queued c.self.invariant c.end_drain.ensures)
    ∙ ap end_drain c.self.view_is
