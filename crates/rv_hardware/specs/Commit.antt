-- The commit phase: instructions retire in program order, and traps and interrupts are taken, each before anything younger.
use Rattle.std.specs.Prelude.{ℕ, ◌+◌, ◌*◌, ◌==◌, ◌&&◌, nat_le, Bool, true, false}
use Rattle.std.specs.Prelude.{if◌then◌else◌, List, [], ◌∷◌, ◌++◌, map, Option, Some, None}
use Rattle.std.specs.{Option.unwrap_or, Ordering.nat_cmp}
use Rattle.std.specs.FinSet as set
use Rattle.rv_isa.specs.Cause.{code_of}
use Rattle.rv_isa.specs.declared.{broadcast.Message.Message, causes.Cause.Cause}
use Rattle.rv_isa.specs.declared.{causes.Fault.Fault, instructions.Instr.Instr}
use Rattle.rv_isa.specs.declared.instructions.Instr.TheVariants.{FenceI, Csr, Mret}
use Rattle.rv_arch.specs.Due.{due}
use Rattle.rv_arch.specs.Effect.{Effect, Retires, Faults, effect}
use Rattle.rv_arch.specs.Trap.{interrupt_cause}
use Rattle.rv_arch.specs.declared.outcome.Stop.{Stop}
use Rattle.rv_arch.specs.declared.outcome.Stop.TheVariants as stop
use Rattle.rv_memory.specs.Memory.{Memory, word_of}
use Rattle.rv_cache.specs.Cache.{Contents, memory_written_back}
use Rattle.rv_cache.specs.Line.{cleaned, dirty_total}
use Rattle.rv_rob.specs.ReorderBuffer.{head_retired}
use Rattle.rv_rob.specs.declared.entry.Entry.{Entry}
use Rattle.rv_stores.specs.declared.store.Store.{Store as QueuedStore}
use Rattle.rv_hardware.specs.Hardware.{Hardware}
use Rattle.rv_hardware.specs.InFlight.{broadcast_of}
use Rattle.rv_hardware.specs.Repeated.{Turn, GoesOn, Ends, repeated}
use Rattle.rv_hardware.specs.Retirement.{row_of, with_result, written_of}
use Rattle.rv_hardware.specs.Seen.{layout_of, seen, with_state}
use Rattle.rv_hardware.specs.Squash.{flushed, with_trap}
use Rattle.rv_hardware.specs.Step.{is_breakpoint_cause}
use Rattle.rv_hardware.specs.declared.step.Step.{Step}
use Rattle.rv_hardware.specs.declared.step.Step.TheVariants as step

-- the phase so far: the hardware, the steps that it reports, and why the run stops, if it does
pub record Committing : Type 0 where
  pub hardware : Hardware
  pub steps : List Step
  pub stop : Option Stop

-- why a trap stops the run, if it does
abbrev pub stop_of : Cause → Option Stop
stop_of cause = if is_breakpoint_cause cause then Some stop.Breakpoint else None

-- the head faults, which ends the phase
abbrev pub with_fault : Entry → Cause → ℕ → Committing → Committing
with_fault e cause value c = record {
  hardware = with_trap (code_of cause) value c.hardware;
  steps = c.steps ++ step.Trap e.pc cause value c.hardware.cycle ∷ [];
  stop = stop_of cause;
}

-- a result retires; where the program goes on elsewhere than predicted, all that is younger is flushed and the phase ends
abbrev pub retire : Entry → Message → Committing → Turn Committing
retire e message c =
    let h = with_result e message c.hardware in
    let steps = c.steps ++ row_of e (written_of e message) c.hardware.cycle ∷ [] in
    if message.next_pc == e.predicted_next
    then GoesOn (record c { hardware = h; steps = steps })
    else Ends (record c { hardware = flushed h; steps = steps })

-- a head whose result is known: a noted fault is a trap, anything else retires
abbrev pub finish_head : Entry → Message → Option Fault → Committing → Turn Committing
finish_head e message None c = retire e message c
finish_head e message (Some fault) c = Ends (with_fault e fault.cause fault.value c)

-- the commit of a head, once its result was broadcast
abbrev pub finish_broadcast : Entry → Option Message → Committing → Turn Committing
finish_broadcast e None c = Ends c
finish_broadcast e (Some message) c = finish_head e message message.fault c

-- a serialising head takes its effect in the state that programs see, and flushes
abbrev pub take_effect : Entry → Effect → Committing → Committing
take_effect e (Retires written next) c = record c {
  hardware = flushed (with_state next (record c.hardware { rob = head_retired c.hardware.rob }));
  steps = c.steps ++ row_of e written c.hardware.cycle ∷ [];
}
take_effect e (Faults cause value) c = with_fault e cause value c

-- a head that is executed at commit takes its effect on the state that programs see
abbrev pub execute_head : Entry → Instr → Committing → Committing
execute_head e instruction c =
    take_effect e
    (effect (layout_of c.hardware.values) (seen c.hardware) c.hardware.lines (unwrap_or e.word 0) instruction) c

-- every dirty line of the cache is written to RAM, and stays, clean
abbrev pub all_written_back : Contents Memory → Contents Memory
all_written_back cache = record cache {
  sets = map (map cleaned) cache.sets;
  backing = record cache.backing { bytes = memory_written_back cache cache.backing.bytes };
}

-- how long FENCE.I's write-back keeps the port busy
abbrev pub write_back_time : Hardware → ℕ
write_back_time h = dirty_total h.cache.sets * h.values.cache.write_back

-- the cache is written back, which keeps its port busy
abbrev pub with_write_back : Hardware → Hardware
with_write_back h = record h { cache = all_written_back h.cache; port_free = h.cycle + write_back_time h }

-- no retired store waits for the cache, and its port is idle
abbrev pub is_drained : Hardware → Bool
is_drained h = has_none h.committed && nat_le h.port_free h.cycle where
  has_none : List QueuedStore → Bool
  has_none [] = true
  has_none (s ∷ ss) = false

-- FENCE.I waits for the retired stores and the port, and retires in the cycle in which nothing is left to write back
abbrev pub fence_instructions : Entry → Committing → Committing
fence_instructions e c =
    if is_drained c.hardware
    then (
    let written_back = record c { hardware = with_write_back c.hardware } in
    if write_back_time c.hardware == 0 then execute_head e FenceI written_back else written_back)
    else c

-- the head by its instruction: serialising ones execute now, all others wait for their result
abbrev pub head_turn : Entry → Option Instr → Committing → Turn Committing
head_turn e (Some FenceI) c = Ends (fence_instructions e c)
head_turn e (Some (Csr op rd csr source)) c = Ends (execute_head e (Csr op rd csr source) c)
head_turn e (Some Mret) c = Ends (execute_head e Mret c)
head_turn e _ c = finish_broadcast e (broadcast_of e.stage) c

-- where `is_stale` says whether a set of words holds one
module _ (is_stale : set.FinSet nat_cmp → ℕ → Bool) where
  -- one turn of the phase: a stale head stops the run
  abbrev pub commit_turn_of : List Entry → Committing → Turn Committing
  commit_turn_of [] c = Ends c
  commit_turn_of (e ∷ es) c =
      if is_stale c.hardware.stale (word_of e.pc)
      then Ends (record c { stop = Some (stop.Stale e.pc) })
      else head_turn e e.instruction c

  abbrev pub commit_turn : Committing → Turn Committing
  commit_turn c = commit_turn_of c.hardware.rob.entries c

  -- a due interrupt is taken for the committed pc; else up to `commit_width` heads have their turn
  abbrev pub commit_unless : Option ℕ → Hardware → Committing
  commit_unless (Some code) h = record {
    hardware = with_trap (interrupt_cause code) 0 h;
    steps = step.Interrupt h.pc (interrupt_cause code) h.cycle ∷ [];
    stop = None;
  }
  commit_unless None h = repeated commit_turn h.values.commit_width (record { hardware = h; steps = []; stop = None })

  abbrev pub commit : Hardware → Committing
  commit h = commit_unless (due h.csrs h.lines) h
