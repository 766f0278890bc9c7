-- The head retires: rename map, stations, bus and queue are those of the instructions after it.
use Rattle.rv_core.proofs.Words.{◌≡◌, ℕ, ◌+◌, ◌<◌, Bool, true, false, not, ◌≢◌, List, [], ◌∷◌, ◌++◌, map, length}
use Rattle.rv_core.proofs.Words.{IfSome, if◌then◌else◌, ◌==◌, Some, None, filter, Option, sym, refl, ap, ◌∙◌, arith}
use Rattle.rv_core.proofs.Words.{get_or-set_other, get_or-set_same, eq-eqb, ne_eqb, is_store, is_target, target_of_word}
use Rattle.rv_core.proofs.Words.{Message, Kind, PerKind, Values, with_register, ReorderBuffer, after_head, head_retired}
use Rattle.rv_core.proofs.Words.{Entry, Stage, Hardware, broadcast_of, is_waiting, stores_of, with_value}
use Rattle.rv_core.proofs.Words.{committed_store, with_result, by_kind-same, Queue, Pool, Pending, Checkpoint, Renaming}
use Rattle.rv_core.proofs.Words.{checkpoint_without_oldest, retired, without_checkpoint, without_oldest, Producer}
use Rattle.rv_core.proofs.Words.{with_commit, without_target, IsLegalWrite, AreTied, bus_of, checkpoints_of, operand_by}
use Rattle.rv_core.proofs.Words.{pending_of, producer_of, producers_of, producers_with, renaming_of, stations_of}
use Rattle.rv_core.proofs.Words.{status_with, values_in, waiting_from}
use Rattle.rv_core.proofs.Ties.Stations.{busy-at}
use Rattle.rv_core.proofs.Retired.Stores.{AreRetired, queued_after_head}

-- the registers

-- the register that an instruction writes is one of them
abbrev pub IsTarget : List ℕ → Option ℕ → Type 0
IsTarget registers target = IfSome target (λ register. (register ≢ 0) × (register < length registers))

written_status : (registers : List ℕ) (seq r : ℕ) (m : Message) → r ≢ 0 → r < length registers → (register : ℕ) →
    (if r == register then operand_by seq (Some m) else values_in registers register)
    ≡ values_in (with_register registers r m.value) register
written_status registers seq r m positive within register =
    grind (arith, ne_eqb, eq-eqb, get_or-set_same, get_or-set_other)

head_status : (registers : List ℕ) (seq : ℕ) (target : Option ℕ) (m : Message) → IsTarget registers target →
    (register : ℕ) →
    (if is_target register target then operand_by seq (Some m) else values_in registers register)
    ≡ values_in (with_value registers target (Some m)) register
head_status registers seq None m ok register = refl
head_status registers seq (Some r) m ok register = written_status registers seq r m ok.0 ok.1 register

-- after the head all values are those that it leaves
status_after_head : (registers : List ℕ) (seq : ℕ) (e : Entry) (m : Message) → broadcast_of e.stage ≡ Some m →
    IsTarget registers (target_of_word e.instruction) →
    status_with (values_in registers) seq e ≡ values_in (with_value registers (target_of_word e.instruction) (Some m))
status_after_head registers seq e m known ok =
    λ i register. (ap (λ o. if is_target register
    (target_of_word e.instruction) then operand_by seq o else values_in registers register) known
    ∙ head_status registers seq (target_of_word e.instruction) m ok register) i

-- the stations

not_waiting : (stage : Stage) (m : Message) → broadcast_of stage ≡ Some m → is_waiting stage ≡ false
not_waiting stage m known = grind arith

stations_after_head : (kind : Kind) (registers : List ℕ) (seq : ℕ) (e : Entry) (es : List Entry) (m : Message) →
    broadcast_of e.stage ≡ Some m → IsTarget registers (target_of_word e.instruction) →
    waiting_from kind (values_in registers) seq (e ∷ es)
    ≡ waiting_from kind (values_in (with_value registers (target_of_word e.instruction) (Some m))) (seq + 1) es
stations_after_head kind registers seq e es m known ok =
    ap (λ ws. ws ++ waiting_from kind (status_with (values_in registers) seq e) (seq + 1) es)
    (busy-at kind (values_in registers) seq e e.instruction (not_waiting e.stage m known))
    ∙ ap (λ status. waiting_from kind status (seq + 1) es) (status_after_head registers seq e m known ok)

-- the bus

head_not_pending : (seq : ℕ) (stage : Stage) (m : Message) → broadcast_of stage ≡ Some m → pending_of seq stage ≡ []
head_not_pending seq stage m known = grind arith

-- the checkpoints

oldest_goes : (r seq : ℕ) (ps : List Producer) → without_oldest r seq (record { register = r; seq = seq } ∷ ps) ≡ ps
oldest_goes r seq ps = rw (eq-eqb seq seq refl, eq-eqb r r refl) refl

-- where a list of checkpoints begins with one for a jump
abbrev noted : Bool → ℕ → List Producer → List Checkpoint → List Checkpoint
noted is_jump n ps cs = if is_jump then record { seq = n; producers = ps } ∷ cs else cs

noted_without : (r seq n : ℕ) (ps : List Producer) (cs kept : List Checkpoint) →
    map (checkpoint_without_oldest r seq) cs ≡ kept →
    (is_jump : Bool) →
    map (checkpoint_without_oldest r seq) (noted is_jump n (record { register = r; seq = seq } ∷ ps) cs)
    ≡ noted is_jump n ps kept
noted_without r seq n ps cs kept e is_jump = grind (arith, oldest_goes)

-- the checkpoints after a producer that retires no longer hold it
without_retired : (r seq : ℕ) (older : List Producer) (n : ℕ) (es : List Entry) →
    map (checkpoint_without_oldest r seq) (checkpoints_of (record { register = r; seq = seq } ∷ older) n es)
    ≡ checkpoints_of older n es
without_retired r seq older n [] = refl
without_retired r seq older n (e ∷ es) =
    grind (arith, oldest_goes, without_retired r seq (producers_with older n e) (n + 1) es)

-- the checkpoints of younger instructions stay
younger_stay : (seq : ℕ) (older : List Producer) (n : ℕ) (es : List Entry) → seq < n →
    filter (λ c. not (seq == c.seq)) (checkpoints_of older n es) ≡ checkpoints_of older n es
younger_stay seq older n [] lt = refl
younger_stay seq older n (e ∷ es) lt = grind (arith, ne_eqb, younger_stay seq (producers_with older n e) (n + 1) es)

noted_goes : (seq : ℕ) (ps : List Producer) (cs : List Checkpoint) → filter (λ c. not (seq == c.seq)) cs ≡ cs →
    (is_jump : Bool) →
    filter (λ c. not (seq == c.seq)) (noted is_jump seq ps cs) ≡ cs
noted_goes seq ps cs e is_jump = grind (arith, eq-eqb)

-- the rename map

-- no checkpoint of the head is left, nor the head in a younger one's
without_head : (r seq : ℕ) (es : List Entry) (is_jump : Bool) →
    filter (λ c. not (seq == c.seq)) (map (checkpoint_without_oldest r seq)
    (noted is_jump seq (record { register = r; seq = seq } ∷ [])
    (checkpoints_of (record { register = r; seq = seq } ∷ []) (seq + 1) es)))
    ≡ checkpoints_of [] (seq + 1) es
without_head r seq es is_jump = grind (arith, noted_without, without_retired, noted_goes, younger_stay)

renamed_from : (capacity seq : ℕ) (target : Option ℕ) (is_jump : Bool) (es : List Entry) (is_early : Bool) →
    without_checkpoint seq (without_target seq target (record {
      capacity = capacity;
      producers = producer_of seq target ++ producers_of (seq + 1) es;
      checkpoints = if is_early then noted is_jump seq (producer_of seq target)
          (checkpoints_of (producer_of seq target) (seq + 1) es) else [];
    }))
    ≡ record {
      capacity = capacity;
      producers = producers_of (seq + 1) es;
      checkpoints = if is_early then checkpoints_of [] (seq + 1) es else [];
    }
renamed_from capacity seq None is_jump es false = refl
renamed_from capacity seq None is_jump es true = grind (arith, younger_stay)
renamed_from capacity seq (Some r) is_jump es false = grind arith
renamed_from capacity seq (Some r) is_jump es true = grind (arith, without_head)

pub renamed_after_head : (values : Values) (capacity seq : ℕ) (e : Entry) (es : List Entry) →
    without_checkpoint seq (without_target seq (target_of_word e.instruction)
    (renaming_of values (record { capacity = capacity; retired = seq; entries = e ∷ es })))
    ≡ renaming_of values (record { capacity = capacity; retired = seq + 1; entries = es })
renamed_after_head values capacity seq e es = grind (arith, renamed_from)

pub stationed_after_head : (values : Values) (registers : List ℕ) (capacity seq : ℕ) (e : Entry) (es : List Entry)
    (m : Message) →
    broadcast_of e.stage ≡ Some m → IsTarget registers (target_of_word e.instruction) →
    stations_of values registers (record { capacity = capacity; retired = seq; entries = e ∷ es })
    ≡ stations_of values (with_value registers (target_of_word e.instruction) (Some m))
    (record { capacity = capacity; retired = seq + 1; entries = es })
stationed_after_head values registers capacity seq e es m known ok =
    grind (arith, by_kind-same, retired, stations_after_head)

pub pending_after_head : (values : Values) (capacity seq : ℕ) (e : Entry) (es : List Entry) (m : Message) →
    broadcast_of e.stage ≡ Some m →
    bus_of values (record { capacity = capacity; retired = seq; entries = e ∷ es })
    ≡ bus_of values (record { capacity = capacity; retired = seq + 1; entries = es })
pending_after_head values capacity seq e es m known = rw (head_not_pending seq e.stage m known) refl

-- the hardware

-- the buffer with its list of entries
pub buffer_of : (rob : ReorderBuffer) (es : List Entry) → rob.entries ≡ es →
    rob ≡ record { capacity = rob.capacity; retired = rob.retired; entries = es }
buffer_of rob es is = ap (λ l. record { capacity = rob.capacity; retired = rob.retired; entries = l }) is

-- the reorder buffer after its head
pub buffer_after : (rob : ReorderBuffer) (e : Entry) (es : List Entry) → rob.entries ≡ e ∷ es →
    head_retired rob ≡ record { capacity = rob.capacity; retired = rob.retired + 1; entries = es }
buffer_after rob e es is = ap (after_head rob) is

-- a head with its result retires
pub tied_after_head : (h : Hardware) (e : Entry) (es : List Entry) (m : Message) (rename : Renaming)
    (stations : PerKind Pool)
    (bus : Pending) (queue : Queue) →
    AreTied h rename stations bus queue → AreRetired h.values h.committed → h.rob.entries ≡ e ∷ es →
    broadcast_of e.stage ≡ Some m →
    IsTarget h.registers (target_of_word e.instruction) → IsLegalWrite h.values (is_store e.instruction) None m.store →
    AreTied (with_result e m h)
    (without_checkpoint h.rob.retired (without_target h.rob.retired (target_of_word e.instruction) rename)) stations bus
    (with_commit m.store queue)
tied_after_head h e es m rename stations bus queue tied retired entries known target legal =
    let before = buffer_of h.rob (e ∷ es) entries in
    let after = sym (buffer_after h.rob e es entries) in
    record {
      renamed =
          ap (λ r. without_checkpoint h.rob.retired (without_target h.rob.retired (target_of_word e.instruction) r))
          (tied.renamed ∙ ap (renaming_of h.values) before)
          ∙ renamed_after_head h.values h.rob.capacity h.rob.retired e es
          ∙ ap (renaming_of h.values) after;
      stationed =
          tied.stationed
          ∙ ap (stations_of h.values h.registers) before
          ∙ stationed_after_head h.values h.registers h.rob.capacity h.rob.retired e es m known target
          ∙ ap (stations_of h.values (with_value h.registers (target_of_word e.instruction) (Some m))) after;
      pending =
          tied.pending
          ∙ ap (bus_of h.values) before
          ∙ pending_after_head h.values h.rob.capacity h.rob.retired e es m known
          ∙ ap (bus_of h.values) after;
      queued =
          ap (with_commit m.store)
          (tied.queued ∙ ap (λ l. record {
            stores = h.committed ++ stores_of h.rob.retired l;
            capacity = h.values.store_queue;
          }) entries)
          ∙ queued_after_head h.values h.committed h.rob.retired e es m retired known legal
          ∙ ap (λ rob. record {
            stores =
                (h.committed ++ committed_store h.rob.retired m.store) ++ stores_of rob.retired rob.entries;
            capacity =
                h.values.store_queue;
          }) after;
    }
