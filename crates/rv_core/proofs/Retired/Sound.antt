-- The head retires: what holds of the hardware goes on to hold.
use Rattle.rv_core.proofs.Words.{◌≡◌, ℕ, suc, ◌+◌, ◌*◌, ◌<◌, Bool, false, List, ◌∷◌, ◌++◌, length, Some, None, All}
use Rattle.rv_core.proofs.Words.{Option, AllPairs, sym, ap, ◌∙◌, subst, append-nil, arith, All-tail, is_serialising}
use Rattle.rv_core.proofs.Words.{is_store, target_of_word, Message, StoreAccess, Values, Store as QueuedStore}
use Rattle.rv_core.proofs.Words.{Committed, Filled, ReorderBuffer, head_retired, Entry, Hardware, committed_store}
use Rattle.rv_core.proofs.Words.{with_result, All-push, AreBelow-push, AreBelow-weaken, AreSoundEntries, AreSoundStores}
use Rattle.rv_core.proofs.Words.{IsLegalWrite, IsRetiredStore, IsSoundEntry, IsSoundHardware}
use Rattle.rv_hardware.proofs.Headline.Known.{length-with_value}
use Rattle.rv_core.proofs.Retired.Head.{buffer_after}
use Rattle.rv_core.proofs.Retired.Stores.{AreRetired}

-- the retired stores, with what the head writes
retired_with : (values : Values) (ss : List QueuedStore) (seq : ℕ) (is_store : Bool) (written : Option StoreAccess) →
    AreRetired values ss → IsLegalWrite values is_store None written →
    AreRetired values (ss ++ committed_store seq written)
retired_with values ss seq is_store None are legal = rw (append-nil ss) are
retired_with values ss seq is_store (Some access) are legal =
    All-push (λ (t : QueuedStore). IsRetiredStore values t.state) ss
    (record { seq = seq; state = Filled access Committed }) are (grind arith)

older_with : (ss : List QueuedStore) (seq : ℕ) (written : Option StoreAccess) →
    All (λ (s : QueuedStore). s.seq < seq) ss →
    All (λ (s : QueuedStore). s.seq < seq + 1) (ss ++ committed_store seq written)
older_with ss seq None are =
    rw (append-nil ss) (AreBelow-weaken (λ (s : QueuedStore). s.seq) seq (seq + 1) ss (omega arith) are)
older_with ss seq (Some access) are =
    AreBelow-push (λ (s : QueuedStore). s.seq) (seq + 1) ss (record { seq = seq; state = Filled access Committed })
    (AreBelow-weaken (λ (s : QueuedStore). s.seq) seq (seq + 1) ss (omega arith) are) (omega arith)

-- the instructions after the head
pub entries_after_head : (values : Values) (cycle : ℕ) (rob : ReorderBuffer) (e : Entry) (es : List Entry) →
    AreSoundEntries values cycle rob → rob.entries ≡ e ∷ es →
    rob.retired < 8 * cycle + 8 → AreSoundEntries values cycle (head_retired rob)
entries_after_head values cycle rob e es sound entries room =
    subst (AreSoundEntries values cycle) (sym (buffer_after rob e es entries)) (record {
      capacity = sound.capacity;
      within = omega (arith, ap length entries, sound.within);
      numbers = omega (arith, room);
      each = All-tail (IsSoundEntry values) e es (subst (All (IsSoundEntry values)) entries sound.each);
      serial =
          let all : AllPairs (λ (older younger : Entry). is_serialising older.instruction ≡ false) (e ∷ es) =
          subst (λ l. AllPairs (λ (older younger : Entry). is_serialising older.instruction ≡ false) l)
          entries sound.serial in
          λ i j d lt within. all (suc i) (suc j) d (omega (arith, lt)) (omega (arith, within));
    })

-- the hardware of which the head has retired is sound
pub sound_after_head : (h : Hardware) (e : Entry) (es : List Entry) (m : Message) → IsSoundHardware h →
    h.rob.entries ≡ e ∷ es →
    h.rob.retired < 8 * h.cycle + 8 → IsLegalWrite h.values (is_store e.instruction) None m.store →
    IsSoundHardware (with_result e m h)
sound_after_head h e es m sound entries room legal = record {
  legal = sound.legal;
  cycles = sound.cycles;
  port = sound.port;
  registers = length-with_value h.registers (target_of_word e.instruction) (Some m) ∙ sound.registers;
  cache = sound.cache;
  entries = entries_after_head h.values h.cycle h.rob e es sound.entries entries room;
  stores =
      subst (λ (rob : ReorderBuffer). AreSoundStores h.values rob.retired (h.committed
      ++ committed_store h.rob.retired m.store))
      (sym (buffer_after h.rob e es entries)) (record {
        each = retired_with h.values h.committed h.rob.retired (is_store e.instruction) m.store sound.stores.each legal;
        older = older_with h.committed h.rob.retired m.store sound.stores.older;
      });
  fetched = sound.fetched;
}
