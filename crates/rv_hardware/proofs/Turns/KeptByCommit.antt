-- The commit phase keeps what a retirement, FENCE.I's write-back and a squash of everything in flight keep.
use Rattle.rv_hardware.proofs.Words.{◌≡◌, ℕ, Bool, true, List, [], ◌∷◌, ◌++◌, Some, None, Option, nat_cmp, sym, ap}
use Rattle.rv_hardware.proofs.Words.{subst, code_of, target_of_word, Message, Cause, due, State, trap_taken}
use Rattle.rv_hardware.proofs.Words.{interrupt_cause, after_head, Entry, Committing, commit, commit_turn, commit_unless}
use Rattle.rv_hardware.proofs.Words.{is_drained, with_fault, with_write_back, Hardware, broadcast_of, with_value, Turn}
use Rattle.rv_hardware.proofs.Words.{committed_store, stale_after, with_result, seen, with_state, flushed, Leaves}
use Rattle.rv_hardware.proofs.Words.{kept_by_turns, arith}
use Rattle.std.specs.FinSet as set
use Rattle.rv_hardware.proofs.Turns.Commit.{CommitTurn, fence_writes, fence_retires, executes, serial_faults, traps}
use Rattle.rv_hardware.proofs.Turns.Commit.{retires as retired, retires_last, executed, written_back, commit_turn_is}
use Rattle.rv_hardware.proofs.Turns.Forms.{emptied, without_head}

module _ (P : Hardware → Type 0) where
  -- a squash of everything, a retirement and FENCE.I's write-back keep the property
  pub record IsKeptByCommit : Type 0 where
    pub empties : (h : Hardware) (s : State) (retired : ℕ) → P h → P (emptied s retired h)
    pub retires : (h : Hardware) (e : Entry) (es : List Entry) (s : State) (message : Message) → P h →
        h.rob.entries ≡ e ∷ es → broadcast_of e.stage ≡ Some message → message.fault ≡ None →
        P (without_head s message.store es h)
    pub writes_back : (h : Hardware) → P h → is_drained h ≡ true → P (with_write_back h)

module _ {P : Hardware → Type 0} (kept : IsKeptByCommit P) where
  abbrev Holds : Committing → Type 0
  Holds c = P c.hardware

  left : (h : Hardware) (es : List Entry) (next : State) → P h →
      P (flushed (with_state next (record h { rob = after_head h.rob es })))
  left h es next holds = grind arith

  took_effect : (e : Entry) (written : Option (ℕ × ℕ)) (next : State) (c : Committing) → Holds c →
      Holds (executed e written next c)
  took_effect e written next c holds = left c.hardware c.hardware.rob.entries next holds

  faulted : (e : Entry) (cause : Cause) (value : ℕ) (c : Committing) → Holds c → Holds (with_fault e cause value c)
  faulted e cause value c holds =
      kept.empties c.hardware (trap_taken (seen c.hardware) (code_of cause) value) c.hardware.rob.retired holds

  result_retired : (h : Hardware) (e : Entry) (es : List Entry) {message : Message} → P h → h.rob.entries ≡ e ∷ es →
      broadcast_of e.stage ≡ Some message → message.fault ≡ None → P (with_result e message h)
  result_retired h e es {message} holds split known faultless =
      let s : State = record {
        pc = message.next_pc;
        registers = with_value h.registers (target_of_word e.instruction) (Some message);
        csrs = h.csrs;
        ram = [];
        stale = stale_after message.store h.stale;
      } in
      subst (λ l. P (record h {
        pc = s.pc;
        registers = s.registers;
        committed = h.committed ++ committed_store h.rob.retired message.store;
        stale = s.stale;
        rob = after_head h.rob l;
      })) (sym split) (kept.retires h e es s message holds split known faultless)

  module _ (is_stale : set.FinSet nat_cmp → ℕ → Bool) where
    -- each outcome of a turn keeps it
    pub commit_outcome-keeps : {c : Committing} {t : Turn Committing} → CommitTurn is_stale c t →
        Holds c → Leaves Holds t
    commit_outcome-keeps {c} (fence_writes e es head is drained dirty) holds = kept.writes_back c.hardware holds drained
    commit_outcome-keeps {c} (fence_retires e es written next head is drained) holds =
        took_effect e written next (written_back c) (kept.writes_back c.hardware holds drained)
    commit_outcome-keeps {c} (executes e es written next head serial other) holds = took_effect e written next c holds
    commit_outcome-keeps {c} (serial_faults e es cause value head serial other) holds = faulted e cause value c holds
    commit_outcome-keeps {c} (traps e es issue cycle message fault head plain at is) holds =
        faulted e fault.cause fault.value c holds
    commit_outcome-keeps {c} (retired e es issue cycle message head plain at none) holds =
        result_retired c.hardware e es holds head.place (ap broadcast_of at) none
    commit_outcome-keeps {c} (retires_last e es issue cycle message head plain at none) holds =
        let h : Hardware = with_result e message c.hardware in
        kept.empties h (seen h) h.rob.retired
        (result_retired c.hardware e es holds head.place (ap broadcast_of at) none)
    commit_outcome-keeps _ holds = holds

    -- a turn of the commit phase keeps it
    pub commit_turn-keeps : (c : Committing) → Holds c → Leaves Holds (commit_turn is_stale c)
    commit_turn-keeps c holds = commit_outcome-keeps (commit_turn_is is_stale c) holds

    -- an interrupt or the turns keep it
    pub unless-keeps : (code : Option ℕ) (h : Hardware) → P h → P (commit_unless is_stale code h).hardware
    unless-keeps None h holds =
        kept_by_turns Holds (commit_turn is_stale) commit_turn-keeps h.values.commit_width _ holds
    unless-keeps (Some code) h holds = kept.empties h (trap_taken (seen h) (interrupt_cause code) 0) h.rob.retired holds

    -- so the commit phase keeps it
    pub commit-keeps : (h : Hardware) → P h → P (commit is_stale h).hardware
    commit-keeps h holds = unless-keeps (due h.csrs h.lines) h holds
