-- The commit phase takes the steps of the one-at-a-time machine.
use Rattle.rv_hardware.proofs.Words.{◌≡◌, ℕ, ◌*◌, Bool, true, false, ◌↔◌, List, [], ◌∷◌, ◌++◌, IfSome, if◌then◌else◌}
use Rattle.rv_hardware.proofs.Words.{nat_eq, ◌==◌, Some, None, Option, unwrap_or, sym, refl, ap, ◌∙◌, subst, arith}
use Rattle.rv_hardware.proofs.Words.{eqb-true, false≢true, code_of, is_serialising, Message, Cause, Fault, Instr, Csr}
use Rattle.rv_hardware.proofs.Words.{FenceI, Mret, Lines, Layout, is_in_ram, word_of, faulted_at, retired_at, due}
use Rattle.rv_hardware.proofs.Words.{Effect, Faults, Retires, effect, State, interrupted, stale, trap_taken}
use Rattle.rv_hardware.proofs.Words.{interrupt_cause, head_retired, Entry, Committing, commit, commit_turn}
use Rattle.rv_hardware.proofs.Words.{commit_turn_of, commit_unless, execute_head, finish_broadcast, finish_head}
use Rattle.rv_hardware.proofs.Words.{head_turn, is_drained, take_effect, with_fault, with_write_back, write_back_time}
use Rattle.rv_hardware.proofs.Words.{Hardware, IsTrueCycle, Lead, nowhere, reference_step, broadcast_of, Ends, GoesOn}
use Rattle.rv_hardware.proofs.Words.{row_of, with_result, written_of, layout_of, seen, with_state, flushed}
use Rattle.rv_hardware.proofs.Words.{is_breakpoint_cause, Step, Leads, left_by_turns, Values}
use Rattle.std.specs.FinSet as set
use Rattle.rv_arch.specs.Step.{Step as MachineStep}
use Rattle.rv_arch.specs.declared.outcome.RefStep.TheVariants as machine
use Rattle.rv_arch.specs.declared.outcome.Stop.TheVariants as stop
use Rattle.rv_hardware.specs.declared.step.Step.TheVariants as step
use Rattle.rv_hardware.proofs.Headline.Fold.{result_at, AreInFlight}
use Rattle.rv_hardware.proofs.Headline.Head.{IsReadyHead, some_word, fetched, word_here, decoded, Retires_as, IsStepOf}
use Rattle.rv_hardware.proofs.Headline.Head.{step_of}
use Rattle.rv_hardware.proofs.Headline.Invariant.{IsSound}
use Rattle.rv_hardware.proofs.Headline.Known.{broadcast_is}
use Rattle.rv_hardware.proofs.Headline.Retired.{flushed_sound, trap_sound, seen_result, result_sound, memory_stored}
use Rattle.rv_hardware.proofs.Headline.Serial.{IsSerialEffect, csr_serial, mret_serial, fence_serial}
use Rattle.rv_hardware.proofs.Headline.Serial.{written_back_sound}
use Rattle.rv_hardware.proofs.Headline.Steps.{AreRetirements, retirements_push, true_cycle_leads, true_retirements}
use Rattle.rv_hardware.proofs.Headline.Steps.{true_push}

-- the description, the cycle's number and the lines' levels are as they were
pub record AsBefore (lines : Lines) (old : Hardware) (values : Values) (cycle : ℕ) (levels : Lines) : Type 0 where
  pub values_are : values ≡ old.values
  pub cycle_is : cycle ≡ old.cycle
  pub lines_are : levels ≡ lines

-- the phase while it goes on: so far instructions retired
pub record IsGoing (lines : Lines) (before : State) (old : Hardware) (c : Committing) : Type 0 where
  pub stays : AsBefore lines old c.hardware.values c.hardware.cycle c.hardware.lines
  pub calm : due c.hardware.csrs c.hardware.lines ≡ None
  pub sound : IsSound c.hardware
  pub leads : Lead (layout_of c.hardware.values) c.hardware.lines before c.steps (seen c.hardware)
  pub retirements : AreRetirements c.hardware.cycle c.steps
  pub no_stop : c.stop ≡ None

-- the phase at its end
pub record IsDone (lines : Lines) (before : State) (old : Hardware) (c : Committing) : Type 0 where
  pub stays : AsBefore lines old c.hardware.values c.hardware.cycle c.hardware.lines
  pub sound : IsSound c.hardware
  pub true_cycle : IsTrueCycle (layout_of c.hardware.values) c.hardware.lines c.hardware.cycle before c.steps c.stop
      (seen c.hardware)

-- only a breakpoint's trap stops a run
stop_by : (b : Bool) → ((if b then Some stop.Breakpoint else None) ≡ Some stop.Breakpoint) ↔ (b ≡ true)
stop_by b = grind (arith, false≢true)

no_stale_by : (b : Bool) (pc : ℕ) → (if b then Some stop.Breakpoint else None) ≡ Some (stop.Stale pc) → ⊥
no_stale_by b pc is = grind arith

module _ (lines : Lines) (before : State) (old : Hardware) where
  done : (c : Committing) → IsGoing lines before old c → IsDone lines before old c
  done c going = record {
    stays = going.stays;
    sound = going.sound;
    true_cycle = true_retirements c.hardware.cycle going.leads going.retirements
        (λ is. let none = going.no_stop in cc) (λ pc is. absurd (let none = going.no_stop in cc));
  }

  module _ (c : Committing) (going : IsGoing lines before old c) where
    abbrev h : Hardware
    h = c.hardware

    abbrev layout : Layout
    layout = layout_of h.values

    abbrev s : State
    s = seen h

    -- ---- a trap ends the phase
    trap_done : (e : Entry) (cause : Cause) (value : ℕ) → e.pc ≡ s.pc →
        MachineStep layout s h.lines (machine.Trap s.pc cause value) (trap_taken s (code_of cause) value) →
        IsDone lines before old (with_fault e cause value c)
    trap_done e cause value here takes =
        let now : MachineStep layout s h.lines (machine.Trap e.pc cause value) (trap_taken s (code_of cause) value) =
        subst (λ pc. MachineStep layout s h.lines (machine.Trap pc cause value) (trap_taken s (code_of cause) value))
        (sym here) takes in
        record {
          stays = going.stays;
          sound = trap_sound h (code_of cause) value going.sound.memory;
          true_cycle = true_push h.cycle going.leads going.retirements (step.Trap e.pc cause value h.cycle)
              (trap_taken s (code_of cause) value) now refl
              (stop_by (is_breakpoint_cause cause)) (no_stale_by (is_breakpoint_cause cause));
        }

    module _ (e : Entry) (es : List Entry) (entries : h.rob.entries ≡ e ∷ es)
        (not_stale : set.contains h.stale (word_of e.pc) ≡ false) where
      all : AreInFlight layout s s (e ∷ es)
      all = subst (AreInFlight layout s s) entries going.sound.program.in_flight

      here : e.pc ≡ s.pc
      here = all.0.pc

      ready : IsReadyHead layout s h.lines e.word e.instruction
      ready = grind (arith, here)

      -- ---- a result retires
      module _ (message : Message) (result : message ≡ result_at layout s e)
          (takes : Retires_as layout s h.lines e.word e.instruction message) where
        abbrev row : Step
        row = row_of e (written_of e message) h.cycle

        abbrev after : Hardware
        after = with_result e message h

        retired_now : MachineStep layout s h.lines (reference_step row) (seen after)
        retired_now = grind (arith, seen_result, here)

        retire_done : (straight : Bool) → nat_eq message.next_pc e.predicted_next ≡ straight →
            Leads (IsGoing lines before old) (IsDone lines before old)
            (if straight then GoesOn (record c { hardware = after; steps = c.steps ++ row ∷ [] })
            else Ends (record c { hardware = flushed after; steps = c.steps ++ row ∷ [] }))
        retire_done true is = record {
          stays = going.stays;
          calm = going.calm;
          sound = result_sound h e message going.sound es entries result takes.recorded.store
              (eqb-true message.next_pc e.predicted_next is) takes.recorded.aligned;
          leads = true_cycle_leads going.leads row retired_now;
          retirements = retirements_push c.steps row going.retirements refl refl;
          no_stop = going.no_stop;
        }
        retire_done false is = record {
          stays = going.stays;
          sound = flushed_sound after takes.recorded.aligned going.sound.mepc_aligned
              (memory_stored h.values h.stale h.cache h.committed going.sound.memory h.rob.retired message.store
              takes.recorded.store);
          true_cycle = true_push h.cycle going.leads going.retirements row (seen after) retired_now refl
              ((λ is. let none = going.no_stop in absurd (cc)), (λ is. absurd (false≢true is)))
              (λ pc is. let none = going.no_stop in cc);
        }

      step_done : {message : Message} → message ≡ result_at layout s e → {fault : Option Fault} →
          message.fault ≡ fault → IsStepOf layout s h.lines e.word e.instruction message fault →
          Leads (IsGoing lines before old) (IsDone lines before old) (finish_head e message fault c)
      step_done result is takes = grind (arith, retire_done, trap_done, here)

      broadcast_done : is_serialising e.instruction ≡ false → (o : Option Message) →
          IfSome o (λ b. b ≡ result_at layout s e) →
          Leads (IsGoing lines before old) (IsDone lines before old) (finish_broadcast e o c)
      broadcast_done plain None result = done c going
      broadcast_done plain (Some message) result =
          step_done result refl (step_of layout s h.lines going.sound.pc_aligned plain ready result)

      plain_done : is_serialising e.instruction ≡ false →
          Leads (IsGoing lines before old) (IsDone lines before old) (finish_broadcast e (broadcast_of e.stage) c)
      plain_done plain =
          broadcast_done plain (broadcast_of e.stage) (broadcast_is e.stage (result_at layout s e) all.0.result)

      -- ---- a serialising instruction executes
      effect_done : {i : Instr} → e.instruction ≡ Some i → {eff : Effect} →
          effect layout s h.lines (unwrap_or e.word 0) i ≡ eff → IsSerialEffect h eff →
          IsDone lines before old (take_effect e eff c)
      effect_done {i} is {eff} gives serial =
          let known : IsReadyHead layout s h.lines e.word (Some i) =
          subst (IsReadyHead layout s h.lines e.word) is ready in
          let word = some_word layout s h.lines e.word i known in
          by_effect eff gives serial
          (subst (λ (w : Option ℕ). IsReadyHead layout s h.lines w (Some i)) word known) where
            by_effect : (eff : Effect) → effect layout s h.lines (unwrap_or e.word 0) i ≡ eff → IsSerialEffect h eff →
                IsReadyHead layout s h.lines (Some (unwrap_or e.word 0)) (Some i) →
                IsDone lines before old (take_effect e eff c)
            by_effect (Faults cause value) gives serial known =
                let word = unwrap_or e.word 0 in
                trap_done e cause value here
                (faulted_at layout s h.lines (fetched layout s h.lines known) word (word_here layout s h.lines known) i
                (decoded layout s h.lines known) cause value gives)
            by_effect (Retires register next) gives serial known =
                let word = unwrap_or e.word 0 in
                let row : Step = row_of e register h.cycle in
                let after : Hardware = with_state next (record h { rob = head_retired h.rob }) in
                let same : next ≡ seen (flushed after) =
                ap (λ (ram : List ℕ). record next { ram = ram }) serial.ram_is in
                let now : MachineStep layout s h.lines (reference_step row) (seen (flushed after)) =
                subst (λ (t : State). MachineStep layout s h.lines (reference_step row) t) same
                (retired_at layout s h.lines (fetched layout s h.lines known) e.pc here word
                (word_here layout s h.lines known) i (decoded layout s h.lines known) register next gives) in
                record {
                  stays = going.stays;
                  sound = flushed_sound after serial.pc_aligned serial.mepc_aligned serial.memory;
                  true_cycle = true_push h.cycle going.leads going.retirements row (seen (flushed after)) now refl
                      ((λ is. let none = going.no_stop in absurd (cc)), (λ is. absurd (false≢true is)))
                      (λ pc is. let none = going.no_stop in cc);
                }

  -- ---- FENCE.I may wait
  module _ {c : Committing} (going : IsGoing lines before old c) where
    abbrev written_back : Committing
    written_back = record c { hardware = with_write_back c.hardware }

    going_on : IsGoing lines before old written_back
    going_on = grind (arith, written_back_sound)

    module _ (e : Entry) (es : List Entry) (entries : c.hardware.rob.entries ≡ e ∷ es)
        (not_stale : set.contains c.hardware.stale (word_of e.pc) ≡ false) where
      fence_by : (drained clean : Bool) → is_drained c.hardware ≡ drained → e.instruction ≡ Some FenceI →
          IsDone lines before old
          (if drained then (if clean then execute_head e FenceI written_back else written_back) else c)
      fence_by false clean drained is = done c going
      fence_by true false drained is = done written_back going_on
      fence_by true true drained is =
          effect_done written_back going_on e es entries not_stale is refl
          (fence_serial going.sound drained c.hardware.lines (unwrap_or e.word 0))

      head_done : (i : Option Instr) → e.instruction ≡ i →
          Leads (IsGoing lines before old) (IsDone lines before old) (head_turn e i c)
      head_done (Some FenceI) is = fence_by (is_drained c.hardware) (write_back_time c.hardware == 0) refl is
      head_done (Some (Csr op rd address source)) is =
          effect_done c going e es entries not_stale is refl
          (csr_serial going.sound c.hardware.lines (unwrap_or e.word 0) op rd address source)
      head_done (Some Mret) is =
          effect_done c going e es entries not_stale is refl
          (mret_serial going.sound c.hardware.lines (unwrap_or e.word 0))
      head_done i is = plain_done c going e es entries not_stale (ap is_serialising is)

    -- ---- a turn
    -- the machine finds a stale word too, since that lies in RAM
    true_cycle_stale : (pc : ℕ) → pc ≡ c.hardware.pc → set.contains c.hardware.stale (word_of pc) ≡ true →
        MachineStep (layout_of c.hardware.values) (seen c.hardware) c.hardware.lines (machine.Stale pc)
        (seen c.hardware)
    true_cycle_stale pc here marked =
        let at : set.contains c.hardware.stale (word_of c.hardware.pc) ≡ true =
        ap (λ n. set.contains c.hardware.stale (word_of n)) (sym here) ∙ marked in
        let whole : 4 * word_of c.hardware.pc ≡ c.hardware.pc = omega (arith, going.sound.pc_aligned) in
        let inside = subst (λ n. is_in_ram (layout_of c.hardware.values) n 4 ≡ true) whole
        (going.sound.memory.inside (word_of c.hardware.pc) at) in
        subst (λ n.
        MachineStep (layout_of c.hardware.values) (seen c.hardware) c.hardware.lines (machine.Stale n)
        (seen c.hardware))
        (sym here) (stale going.calm inside at)

    turn_by : (e : Entry) (es : List Entry) → c.hardware.rob.entries ≡ e ∷ es → (b : Bool) →
        set.contains c.hardware.stale (word_of e.pc) ≡ b →
        Leads (IsGoing lines before old) (IsDone lines before old)
        (if b then Ends (record c { stop = Some (stop.Stale e.pc) }) else head_turn e e.instruction c)
    turn_by e es entries false marked = head_done e es entries marked e.instruction refl
    turn_by e es entries true marked =
        let all = subst
        (AreInFlight (layout_of c.hardware.values) (seen c.hardware) (seen c.hardware)) entries
        going.sound.program.in_flight in
        let found = true_cycle_stale e.pc all.0.pc marked in
        record {
          stays = going.stays;
          sound = going.sound;
          true_cycle = true_retirements c.hardware.cycle going.leads going.retirements (λ is. cc)
              (λ pc is. subst
              (λ n. MachineStep (layout_of c.hardware.values) (seen c.hardware) c.hardware.lines (machine.Stale n)
              (seen c.hardware))
              (cc) found);
        }

  -- a turn of the commit phase either goes on soundly or ends in a true cycle
  pub turn_done : (c : Committing) (entries : List Entry) → c.hardware.rob.entries ≡ entries →
      IsGoing lines before old c →
      Leads (IsGoing lines before old) (IsDone lines before old) (commit_turn_of set.contains entries c)
  turn_done c [] are going = done c going
  turn_done c (e ∷ es) are going = turn_by going e es are (set.contains c.hardware.stale (word_of e.pc)) refl

-- ---- the whole phase
module _ (h : Hardware) (is : IsSound h) where
  unchanged : AsBefore h.lines h h.values h.cycle h.lines
  unchanged = record { values_are = refl; cycle_is = refl; lines_are = refl }

  -- where no interrupt is due, the phase begins with no step taken
  pub begins_going : due h.csrs h.lines ≡ None →
      IsGoing h.lines (seen h) h (record { hardware = h; steps = []; stop = None })
  begins_going now =
      record { stays = unchanged; calm = now; sound = is; leads = nowhere; retirements = tt; no_stop = refl }

  commit_by : (o : Option ℕ) → due h.csrs h.lines ≡ o → IsDone h.lines (seen h) h (commit_unless set.contains o h)
  commit_by (Some code) now = record {
    stays = unchanged;
    sound = trap_sound h (interrupt_cause code) 0 is.memory;
    true_cycle = true_push h.cycle nowhere tt (step.Interrupt h.pc (interrupt_cause code) h.cycle)
        (trap_taken (seen h) (interrupt_cause code) 0)
        (interrupted code now) refl ((λ same. absurd (cc)), (λ same. absurd (false≢true same))) (λ pc same. cc);
  }
  commit_by None now =
      left_by_turns (commit_turn set.contains)
      (λ c going. turn_done h.lines (seen h) h c c.hardware.rob.entries refl going) (done h.lines (seen h) h)
      h.values.commit_width (record { hardware = h; steps = []; stop = None }) (begins_going now)

  -- the whole commit phase reports a true cycle, and leaves sound hardware
  pub commit_done : IsDone h.lines (seen h) h (commit set.contains h)
  commit_done = commit_by (due h.csrs h.lines) refl
