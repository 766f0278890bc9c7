-- A turn of commit finds no head, leaves it waiting, retires it, executes it, traps, or stops at a stale word.
use Rattle.rv_hardware.proofs.Words.{◌≡◌, ℕ, Bool, true, false, cond, List, [], ◌∷◌, ◌++◌, ◌==◌, Some, None, Option}
use Rattle.rv_hardware.proofs.Words.{nat_cmp, unwrap_or, refl, ap, is_fence_i, is_serialising, pc_plus_4, Message}
use Rattle.rv_hardware.proofs.Words.{Cause, Fault, Instr, Csr, FenceI, Mret, Issue, word_of, Effect, Faults, Retires}
use Rattle.rv_hardware.proofs.Words.{effect, State, Hardware, Store, ReorderBuffer, after_head, head_retired, Entry}
use Rattle.rv_hardware.proofs.Words.{Stage, Finished, Committing, commit_turn, commit_turn_of, execute_head}
use Rattle.rv_hardware.proofs.Words.{finish_broadcast, finish_head, head_turn, is_drained, take_effect, with_fault}
use Rattle.rv_hardware.proofs.Words.{with_write_back, write_back_time, broadcast_of, Ends, GoesOn, Turn, row_of}
use Rattle.rv_hardware.proofs.Words.{with_result, written_of, layout_of, seen, with_state, flushed, arith}
use Rattle.std.specs.FinSet as set
use Rattle.rv_arch.specs.declared.outcome.Stop.TheVariants as stop

-- the head has its turn: its word is not stale
pub record Head (is_stale : set.FinSet nat_cmp → ℕ → Bool) (c : Committing) (e : Entry) (es : List Entry) : Type 0 where
  pub place : c.hardware.rob.entries ≡ e ∷ es
  pub fresh : is_stale c.hardware.stale (word_of e.pc) ≡ false

-- the phase once the cache has been written back
abbrev pub written_back : Committing → Committing
written_back c = record c { hardware = with_write_back c.hardware }

-- a serialising head has taken its effect
abbrev pub executed : Entry → Option (ℕ × ℕ) → State → Committing → Committing
executed e written next c = record c {
  hardware = flushed (with_state next (record c.hardware { rob = head_retired c.hardware.rob }));
  steps = c.steps ++ row_of e written c.hardware.cycle ∷ [];
}

-- a result has retired
abbrev pub retired_with : Entry → Message → Committing → Committing
retired_with e message c = record c {
  hardware = with_result e message c.hardware;
  steps = c.steps ++ row_of e (written_of e message) c.hardware.cycle ∷ [];
}

-- a result has retired, and everything younger is squashed
abbrev pub retired_and_flushed : Entry → Message → Committing → Committing
retired_and_flushed e message c = record c {
  hardware = flushed (with_result e message c.hardware);
  steps = c.steps ++ row_of e (written_of e message) c.hardware.cycle ∷ [];
}

entries_after : (r : ReorderBuffer) (e : Entry) (es fs : List Entry) → fs ≡ e ∷ es → (after_head r fs).entries ≡ es
entries_after r e es fs given = grind arith

-- after a retirement the entries are those after the head
pub head_retired_entries : (r : ReorderBuffer) (e : Entry) (es : List Entry) → r.entries ≡ e ∷ es →
    (head_retired r).entries ≡ es
head_retired_entries r e es at = entries_after r e es r.entries at

stores_drained : (h : Hardware) {stores : List Store} → h.committed ≡ stores →
    is_drained (record h { committed = stores }) ≡ true → h.committed ≡ []
stores_drained h are drained = grind arith

-- where a FENCE.I waits no longer, no retired store waits for the cache
pub drained_none : (h : Hardware) → is_drained h ≡ true → h.committed ≡ []
drained_none h drained = stores_drained h refl drained

module _ (is_stale : set.FinSet nat_cmp → ℕ → Bool) where
  -- nothing is in flight; the head is stale, unfinished or a FENCE.I that waits; it retires, executes or traps
  pub data CommitTurn (c : Committing) : Turn Committing → Type 0 where
    no_head : c.hardware.rob.entries ≡ [] → CommitTurn c (Ends c)
    stale_head : (e : Entry) (es : List Entry) → c.hardware.rob.entries ≡ e ∷ es →
        is_stale c.hardware.stale (word_of e.pc) ≡ true →
        CommitTurn c (Ends (record c { stop = Some (stop.Stale e.pc) }))
    unfinished : (e : Entry) (es : List Entry) → Head is_stale c e es → is_serialising e.instruction ≡ false →
        broadcast_of e.stage ≡ None → CommitTurn c (Ends c)
    fence_waits : (e : Entry) (es : List Entry) → Head is_stale c e es → e.instruction ≡ Some FenceI →
        is_drained c.hardware ≡ false → CommitTurn c (Ends c)
    fence_writes : (e : Entry) (es : List Entry) → Head is_stale c e es → e.instruction ≡ Some FenceI →
        is_drained c.hardware ≡ true → (write_back_time c.hardware == 0) ≡ false → CommitTurn c (Ends (written_back c))
    fence_retires : (e : Entry) (es : List Entry) (written : Option (ℕ × ℕ)) (next : State) → Head is_stale c e es →
        e.instruction ≡ Some FenceI → is_drained c.hardware ≡ true →
        CommitTurn c (Ends (executed e written next (written_back c)))
    executes : (e : Entry) (es : List Entry) (written : Option (ℕ × ℕ)) (next : State) → Head is_stale c e es →
        is_serialising e.instruction ≡ true → is_fence_i e.instruction ≡ false →
        CommitTurn c (Ends (executed e written next c))
    serial_faults : (e : Entry) (es : List Entry) (cause : Cause) (value : ℕ) → Head is_stale c e es →
        is_serialising e.instruction ≡ true → is_fence_i e.instruction ≡ false →
        CommitTurn c (Ends (with_fault e cause value c))
    traps : (e : Entry) (es : List Entry) (issue : Option Issue) (cycle : ℕ) (message : Message) (fault : Fault) →
        Head is_stale c e es → is_serialising e.instruction ≡ false → e.stage ≡ Finished issue cycle message →
        message.fault ≡ Some fault → CommitTurn c (Ends (with_fault e fault.cause fault.value c))
    retires : (e : Entry) (es : List Entry) (issue : Option Issue) (cycle : ℕ) (message : Message) →
        Head is_stale c e es → is_serialising e.instruction ≡ false → e.stage ≡ Finished issue cycle message →
        message.fault ≡ None → CommitTurn c (GoesOn (retired_with e message c))
    retires_last : (e : Entry) (es : List Entry) (issue : Option Issue) (cycle : ℕ) (message : Message) →
        Head is_stale c e es → is_serialising e.instruction ≡ false → e.stage ≡ Finished issue cycle message →
        message.fault ≡ None → CommitTurn c (Ends (retired_and_flushed e message c))

  module _ {c : Committing} {e : Entry} {es : List Entry} (head : Head is_stale c e es) where
    by_effect : is_serialising e.instruction ≡ true → is_fence_i e.instruction ≡ false → (result : Effect) →
        CommitTurn c (Ends (take_effect e result c))
    by_effect serial other (Retires written next) = executes e es written next head serial other
    by_effect serial other (Faults cause value) = serial_faults e es cause value head serial other

    by_write_back : e.instruction ≡ Some FenceI → is_drained c.hardware ≡ true → (b : Bool) →
        (write_back_time c.hardware == 0) ≡ b →
        CommitTurn c (Ends (cond b (execute_head e FenceI (written_back c)) (written_back c)))
    by_write_back is drained true clean =
        let s : State = seen (with_write_back c.hardware) in
        fence_retires e es None (record s { pc = pc_plus_4 s.pc; stale = set.empty }) head is drained
    by_write_back is drained false dirty = fence_writes e es head is drained dirty

    by_drained : e.instruction ≡ Some FenceI → (b : Bool) → is_drained c.hardware ≡ b →
        CommitTurn c
        (Ends (cond b
        (cond (write_back_time c.hardware == 0) (execute_head e FenceI (written_back c)) (written_back c)) c))
    by_drained is true drained = by_write_back is drained (write_back_time c.hardware == 0) refl
    by_drained is false busy = fence_waits e es head is busy

    by_prediction : {issue : Option Issue} {cycle : ℕ} {message : Message} → is_serialising e.instruction ≡ false →
        e.stage ≡ Finished issue cycle message → message.fault ≡ None → (b : Bool) →
        CommitTurn c (cond b (GoesOn (retired_with e message c)) (Ends (retired_and_flushed e message c)))
    by_prediction {issue} {cycle} {message} plain at none true = retires e es issue cycle message head plain at none
    by_prediction {issue} {cycle} {message} plain at none false =
        retires_last e es issue cycle message head plain at none

    by_fault : {issue : Option Issue} {cycle : ℕ} {message : Message} → is_serialising e.instruction ≡ false →
        e.stage ≡ Finished issue cycle message → (fault : Option Fault) → message.fault ≡ fault →
        CommitTurn c (finish_head e message fault c)
    by_fault {issue} {cycle} {message} plain at None is =
        by_prediction plain at is (message.next_pc == e.predicted_next)
    by_fault {issue} {cycle} {message} plain at (Some fault) is = traps e es issue cycle message fault head plain at is

    by_stage : is_serialising e.instruction ≡ false → (st : Stage) → e.stage ≡ st →
        CommitTurn c (finish_broadcast e (broadcast_of st) c)
    by_stage plain (Finished issue cycle message) at = by_fault plain at message.fault refl
    by_stage plain st at = unfinished e es head plain (ap broadcast_of at)

    by_instruction : (i : Option Instr) → e.instruction ≡ i → CommitTurn c (head_turn e i c)
    by_instruction (Some FenceI) is = by_drained is (is_drained c.hardware) refl
    by_instruction (Some (Csr op rd csr source)) is = grind (arith, by_effect)
    by_instruction (Some Mret) is =
        by_effect (ap is_serialising is) (ap is_fence_i is)
        (effect (layout_of c.hardware.values) (seen c.hardware) c.hardware.lines (unwrap_or e.word 0) Mret)
    by_instruction i is = by_stage (ap is_serialising is) e.stage refl

  by_stale : (c : Committing) (e : Entry) (es : List Entry) (b : Bool) → c.hardware.rob.entries ≡ e ∷ es →
      is_stale c.hardware.stale (word_of e.pc) ≡ b →
      CommitTurn c (cond b (Ends (record c { stop = Some (stop.Stale e.pc) })) (head_turn e e.instruction c))
  by_stale c e es true at is = stale_head e es at is
  by_stale c e es false at is = by_instruction (record { place = at; fresh = is }) e.instruction refl

  turn_of : (c : Committing) (es : List Entry) → c.hardware.rob.entries ≡ es →
      CommitTurn c (commit_turn_of is_stale es c)
  turn_of c [] at = no_head at
  turn_of c (e ∷ es) at = by_stale c e es (is_stale c.hardware.stale (word_of e.pc)) at refl

  -- what the definition's turn of the commit phase leaves is one of these outcomes
  pub commit_turn_is : (c : Committing) → CommitTurn c (commit_turn is_stale c)
  commit_turn_is c = turn_of c c.hardware.rob.entries refl
