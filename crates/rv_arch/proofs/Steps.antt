-- The rules of a step, for an outcome and a state that are known by equations.
use Rattle.std.proofs.Common.{◌≡◌, ℕ, true, false, refl, sym, subst}
use Rattle.std.specs.Prelude.{Option}
use Rattle.rv_decode.specs.Decodes.{Decodes, IsIllegal}
use Rattle.rv_isa.specs.Cause.{code_of}
use Rattle.rv_isa.specs.declared.causes.Cause.{Cause}
use Rattle.rv_isa.specs.declared.causes.Cause.TheVariants.{IllegalInstruction}
use Rattle.rv_isa.specs.declared.instructions.Instr.{Instr}
use Rattle.rv_isa.specs.declared.lines.Lines.{Lines}
use Rattle.rv_arch.specs.declared.outcome.RefStep.{RefStep}
use Rattle.rv_arch.specs.declared.outcome.RefStep.TheVariants.{Retired, Trap, Stale}
use Rattle.rv_arch.specs.Effect.{effect, Retires, Faults}
use Rattle.rv_memory.specs.Memory.{Layout}
use Rattle.rv_arch.specs.Run.{is_stale}
use Rattle.rv_arch.specs.State.{State}
use Rattle.rv_arch.specs.Step.{Step, IsFetched, trap_taken, word_at_pc, stale, illegal, faulted, retired}

module _ (layout : Layout) (s : State) (lines : Lines) where
  -- a step is one to whatever outcome and state are equal to its own
  pub same_step : {o o' : RefStep} {t t' : State} → o' ≡ o → t' ≡ t → Step layout s lines o t →
      Step layout s lines o' t'
  same_step p q step = rw p (rw q step)

  -- a fetched word that is no instruction traps, with the word as the value of the trap
  pub illegal_at : IsFetched layout s lines → (word : ℕ) → word ≡ word_at_pc layout s → IsIllegal word →
      Step layout s lines (Trap s.pc IllegalInstruction word) (trap_taken s (code_of IllegalInstruction) word)
  illegal_at fetched word at none = rw at (illegal fetched (rw at at none))

  -- a fetched instruction whose effect is a fault traps with the cause and the value of that fault
  pub faulted_at : IsFetched layout s lines → (word : ℕ) → word ≡ word_at_pc layout s → (instruction : Instr) →
      Decodes word instruction →
      (cause : Cause) (value : ℕ) → effect layout s lines word instruction ≡ Faults cause value →
      Step layout s lines (Trap s.pc cause value) (trap_taken s (code_of cause) value)
  faulted_at fetched word at instruction decoded cause value faults =
      faulted fetched instruction (rw at at decoded) cause value (rw at at faults)

  -- a fetched instruction whose effect is a retirement retires, and leads to the state of that effect
  pub retired_at : IsFetched layout s lines → (pc : ℕ) → pc ≡ s.pc → (word : ℕ) → word ≡ word_at_pc layout s →
      (instruction : Instr) → Decodes word instruction →
      (written : Option (ℕ × ℕ)) (next : State) → effect layout s lines word instruction ≡ Retires written next →
      Step layout s lines (Retired pc word written) next
  retired_at fetched pc here word at instruction decoded written next retires =
      rw (here, at) (retired fetched instruction (rw at at decoded) written next (rw at at retires))

-- a step that finds a stale word changes nothing, and finds it again
pub stale_keeps : {layout : Layout} {s t : State} {lines : Lines} {o : RefStep} → Step layout s lines o t →
    is_stale o ≡ true → t ≡ s
stale_keeps (stale due inside marked) found = refl
stale_keeps _ found = cc

-- the state that a stale outcome leaves has a step with that outcome, and stays
pub stale_once : {layout : Layout} {s t : State} {lines : Lines} {o : RefStep} → Step layout s lines o t →
    is_stale o ≡ true → Step layout t lines o t
stale_once {layout} {s} {t} {lines} {o} step found =
    subst (λ u. Step layout u lines o t) (sym (stale_keeps step found)) step

-- the state that a stale outcome leaves has a step that finds a stale word at its pc, and stays
pub stale_again : {layout : Layout} {s t : State} {lines : Lines} {o : RefStep} → Step layout s lines o t →
    is_stale o ≡ true → Step layout t lines (Stale t.pc) t
stale_again (stale due inside marked) found = stale due inside marked
stale_again _ found = cc

-- an outcome that is no stale word of any pc is not stale
pub not_stale : (o : RefStep) → ((pc : ℕ) → o ≡ Stale pc → ⊥) → is_stale o ≡ false
not_stale (Stale pc) other = absurd (other pc refl)
not_stale _ other = refl
