use Rattle.std.specs.Prelude.{◌≡◌, ℕ, Bool, true, false, Option, Some, None}
use Rattle.std.specs.FinSet as set
use Rattle.rv_isa.specs.Cause.{code_of}
use Rattle.rv_isa.specs.declared.{causes.Cause.Cause, instructions.Instr.Instr, lines.Lines.Lines}
use Rattle.rv_isa.specs.declared.causes.Cause.TheVariants.{InstructionAccessFault, IllegalInstruction}
use Rattle.rv_decode.specs.Decodes.{Decodes, IsIllegal}
use Rattle.rv_arch.specs.declared.outcome.RefStep.{RefStep}
use Rattle.rv_arch.specs.declared.outcome.RefStep.TheVariants.{Retired, Trap, Interrupt, Stale}
use Rattle.rv_arch.specs.Due.{due}
use Rattle.rv_arch.specs.Trap.{interrupt_cause, handler_of, trapped}
use Rattle.rv_memory.specs.Memory.{Layout, is_in_ram, number_at, word_of}
use Rattle.rv_arch.specs.State.{State}
use Rattle.rv_arch.specs.Effect.{effect, Retires, Faults}

-- Privileged Architecture 20211203, 3.1.6 and 3.1.7: the state once a trap is taken, by its cause and the word for mtval
abbrev pub trap_taken : State → ℕ → ℕ → State
trap_taken s cause value = record s { pc = handler_of s.csrs cause; csrs = trapped s.csrs s.pc cause value }

-- the word at pc
abbrev pub word_at_pc : Layout → State → ℕ
word_at_pc layout s = number_at layout s.ram s.pc 4

-- whether a store has touched the word at pc since the last FENCE.I
abbrev pub is_stale_at_pc : State → Bool
is_stale_at_pc s = set.contains s.stale (word_of s.pc)

-- no interrupt is due, pc lies in RAM, and the word there is fresh
pub record IsFetched (layout : Layout) (s : State) (lines : Lines) : Type 0 where
  pub undisturbed : due s.csrs lines ≡ None
  pub in_ram : is_in_ram layout s.pc 4 ≡ true
  pub fresh : is_stale_at_pc s ≡ false

-- One step, with the levels of the lines. Of these rules exactly one applies:
pub data Step (layout : Layout) (s : State) (lines : Lines) : RefStep → State → Type 0 where
  -- an interrupt that is due is taken (Privileged Architecture 20211203, 3.1.9)
  interrupted : (code : ℕ) → due s.csrs lines ≡ Some code →
      Step layout s lines (Interrupt s.pc (interrupt_cause code)) (trap_taken s (interrupt_cause code) 0)
  -- else a pc outside RAM traps
  unfetched : due s.csrs lines ≡ None → is_in_ram layout s.pc 4 ≡ false →
      Step layout s lines (Trap s.pc InstructionAccessFault s.pc) (trap_taken s (code_of InstructionAccessFault) s.pc)
  -- else a stale word isn't executed
  stale : due s.csrs lines ≡ None → is_in_ram layout s.pc 4 ≡ true → is_stale_at_pc s ≡ true →
      Step layout s lines (Stale s.pc) s
  -- else a word that is no instruction traps
  illegal : IsFetched layout s lines → IsIllegal (word_at_pc layout s) →
      Step layout s lines (Trap s.pc IllegalInstruction (word_at_pc layout s))
      (trap_taken s (code_of IllegalInstruction) (word_at_pc layout s))
  -- else the instruction faults
  faulted : IsFetched layout s lines → (instruction : Instr) → Decodes (word_at_pc layout s) instruction →
      (cause : Cause) (value : ℕ) → effect layout s lines (word_at_pc layout s) instruction ≡ Faults cause value →
      Step layout s lines (Trap s.pc cause value) (trap_taken s (code_of cause) value)
  -- or retires
  retired : IsFetched layout s lines → (instruction : Instr) → Decodes (word_at_pc layout s) instruction →
      (written : Option (ℕ × ℕ)) (next : State) →
      effect layout s lines (word_at_pc layout s) instruction ≡ Retires written next →
      Step layout s lines (Retired s.pc (word_at_pc layout s) written) next

-- every step from this state with these lines has this outcome, and goes to this state
abbrev pub IsOnlyStep : Layout → State → Lines → RefStep → State → Type 0
IsOnlyStep layout s lines outcome next =
    (other : RefStep) (t : State) → Step layout s lines other t → (other ≡ outcome) × (t ≡ next)
