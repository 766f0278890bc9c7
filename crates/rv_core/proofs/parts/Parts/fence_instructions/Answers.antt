use Rattle.std.proofs.Common.{arith}
use Rattle.rv_core.proofs.Words.{◌≡◌, Bool, false, [], Some, sym, ap, ◌∙◌, FenceI, Entry, Hardware, Ends, IsTrue}
use Rattle.rv_core.proofs.Words.{IsHead, IsSound, hardware_of, Inside}
use Rattle.rv_core.proofs.Retired.Fence.{fence_waits_for_stores, fence_waits_for_port, queue_beside_fence}
use Rattle.rv_core.proofs.parts.Parts.fence_instructions.Goals as goal
use Rattle.rv_core.proofs.parts.Parts.fence_instructions.Goals.{then-not-is_empty-via-then-not-is_empty}
use Rattle.rv_core.proofs.parts.Parts.fence_instructions.Goals.{then-not-is_empty-via-else-not-is_empty+then-not-is_port_idle}

-- the queue is not empty, and so a retired store is left
store_left : (p : Inside) (h : Hardware) (e : Entry) (is_empty : Bool) → IsSound p → hardware_of p ≡ h → IsHead h e →
    e.instruction ≡ Some FenceI →
    (p.stores.stores ≡ [] → IsTrue is_empty) → is_empty ≡ false → h.committed ≡ [] → ⊥
store_left p h e is_empty sound view head fence is_given not none = grind (arith, queue_beside_fence)

pub returns-then-not-is_empty-clause-turn : goal.returns-then-not-is_empty-clause-turn
returns-then-not-is_empty-clause-turn c steps =
    ap Ends (elim c.then-not-is_empty.branch [
      | then-not-is_empty-via-then-not-is_empty w ↦
          fence_waits_for_stores c.args.self.now c.args.entry.now steps
          (store_left c.self.inside c.args.self.now c.args.entry.now c.is_empty.result c.self.invariant c.self.view_is
          c.requires.head c.requires.fence
          c.is_empty.ensures.1 w.if-not-is_empty.true)
      | then-not-is_empty-via-else-not-is_empty+then-not-is_port_idle w ↦
          fence_waits_for_port c.args.self.now c.args.entry.now steps (sym w.is_port_idle.ensures
          ∙ w.if-not-is_port_idle.true)
    ])
