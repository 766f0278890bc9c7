-- The hardware of which a serialising head has left is sound, and so it is with other CSRs and stale words.
use Rattle.rv_core.proofs.Words.{◌≡◌, ℕ, ◌+◌, ◌*◌, ◌<◌, List, ◌∷◌, length, Option, ap, ◌∙◌, arith, length-set}
use Rattle.rv_core.proofs.Words.{Store as QueuedStore, ReorderBuffer, head_retired, Entry, Hardware, AreBelow-weaken}
use Rattle.rv_core.proofs.Words.{registers_with, IsSoundHardware}
use Rattle.rv_core.proofs.Retired.Head.{buffer_after}
use Rattle.rv_core.proofs.Retired.Sound.{entries_after_head}

pub written_count : (written : Option (ℕ × ℕ)) (registers : List ℕ) →
    length (registers_with written registers) ≡ length registers
written_count written registers = grind (arith, length-set)

-- the hardware of which a serialising head has left is sound
pub sound_after_serial : (h : Hardware) (e : Entry) (es : List Entry) (pc : ℕ) (written : Option (ℕ × ℕ)) →
    IsSoundHardware h →
    h.rob.entries ≡ e ∷ es → h.rob.retired < 8 * h.cycle + 8 →
    IsSoundHardware (record h { pc = pc; registers = registers_with written h.registers; rob = head_retired h.rob })
sound_after_serial h e es pc written sound entries room = record {
  legal = sound.legal;
  cycles = sound.cycles;
  port = sound.port;
  registers = written_count written h.registers ∙ sound.registers;
  cache = sound.cache;
  entries = entries_after_head h.values h.cycle h.rob e es sound.entries entries room;
  stores = record {
    each = sound.stores.each;
    older =
        AreBelow-weaken (λ (s : QueuedStore). s.seq) h.rob.retired (head_retired h.rob).retired h.committed
        (omega (arith, ap (λ (r : ReorderBuffer). r.retired) (buffer_after h.rob e es entries))) sound.stores.older;
  };
  fetched = sound.fetched;
}
