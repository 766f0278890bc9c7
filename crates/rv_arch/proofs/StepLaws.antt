-- Laws of a step, from its rules.
use Rattle.std.proofs.Common.{◌≡◌, ℕ, Bool, true, false, refl, sym, ap, ap₂, ◌∙◌, arith}
use Rattle.std.specs.Prelude.{Option, Some, None, IfSome, if◌then◌else◌, not}
use Rattle.std.proofs.lemmas.Bool.Decides.{nat_tests}
use Rattle.std.proofs.lemmas.Option.{none-some, same_Some}
use mathlib.Core.Bool.{true≢false}
use Rattle.rv_decode.specs.Decodes.{Decodes, IsIllegal}
use Rattle.rv_isa.specs.Cause.{code_of}
use Rattle.rv_isa.specs.Operation.{bytes_of, width_of}
use Rattle.rv_isa.specs.Word.{modulo_word, sum}
use Rattle.rv_isa.specs.declared.causes.Cause.{Cause}
use Rattle.rv_isa.specs.declared.instructions.Instr.{Instr}
use Rattle.rv_isa.specs.declared.instructions.Instr.TheVariants.{Load, Store}
use Rattle.rv_isa.specs.declared.lines.Lines.{Lines}
use Rattle.rv_arch.specs.declared.outcome.RefStep.{RefStep}
use Rattle.rv_arch.specs.declared.outcome.RefStep.TheVariants.{Retired, Trap, Interrupt}
use Rattle.rv_arch.specs.Access.{accessed, StaysInRam}
use Rattle.rv_arch.specs.Effect.{Effect, effect, Retires, Faults}
use Rattle.rv_memory.specs.Memory.{Layout, is_in_ram, is_writable, is_aligned}
use Rattle.rv_arch.specs.Run.{is_retired}
use Rattle.rv_arch.specs.State.{State, register_of}
use Rattle.rv_arch.specs.Step.{Step, IsFetched, word_at_pc, trap_taken, interrupted}
use Rattle.rv_arch.specs.Step.{unfetched, stale, illegal, faulted, retired}
use Rattle.rv_arch.specs.Trap.{interrupt_cause}

-- a load or a store that isn't refused for its alignment or its range lies in the range
chosen : (aligned inside : Bool) (a b : Cause) (address : ℕ) (e : Effect) (written : Option (ℕ × ℕ)) (next : State) →
    (if not aligned then Faults a address else (if not inside then Faults b address else e)) ≡ Retires written next →
    inside ≡ true
chosen true true a b address e written next retires = refl
chosen true false a b address e written next retires = absurd (cc)
chosen false inside a b address e written next retires = absurd (cc)

writable_in_ram : (layout : Layout) (address count : ℕ) → is_writable layout address count ≡ true →
    is_in_ram layout address count ≡ true
writable_in_ram layout address count writable = grind (arith, nat_tests)

effect_in_ram : (layout : Layout) (s : State) (lines : Lines) (word : ℕ) (i : Instr)
    (written : Option (ℕ × ℕ)) (next : State) →
    effect layout s lines word i ≡ Retires written next →
    IfSome (accessed s i) (λ access. is_in_ram layout access.0 access.1 ≡ true)
effect_in_ram layout s lines word (Load form rd rs1 offset) written next retires =
    chosen (is_aligned (sum (register_of s rs1) (modulo_word offset)) (bytes_of (width_of form))) _ _ _ _
    _ written next retires
effect_in_ram layout s lines word (Store width rs1 rs2 offset) written next retires =
    writable_in_ram layout _ _ (chosen (is_aligned (sum (register_of s rs1) (modulo_word offset)) (bytes_of width)) _ _
    _ _ _ written next retires)
effect_in_ram layout s lines word _ written next retires = tt

-- the word at pc is one instruction at most, or it is none
pub record IsOneAtMost (layout : Layout) (s : State) (lines : Lines) : Type 0 where
  pub one : (i j : Instr) → IsFetched layout s lines → Decodes (word_at_pc layout s) i →
      Decodes (word_at_pc layout s) j → i ≡ j
  pub none : (i : Instr) → IsFetched layout s lines → Decodes (word_at_pc layout s) i →
      IsIllegal (word_at_pc layout s) → ⊥

-- that is so where nothing is fetched, and where the word was decoded
module _ (layout : Layout) (s : State) (lines : Lines) where
  -- where nothing is fetched, there is no word to be two instructions, or one and none
  pub not_fetched : (IsFetched layout s lines → ⊥) → IsOneAtMost layout s lines
  not_fetched never = record { one = λ i j fetched _ _. absurd (never fetched); none = λ i fetched _ _. never fetched }

  -- a word that decodes to no instruction is one at most
  pub decoded_none : (word : ℕ) → word ≡ word_at_pc layout s → ((i : Instr) → Decodes word i → None ≡ Some i) →
      IsOneAtMost layout s lines
  decoded_none word at complete = record {
    one = λ i j _ first second. absurd (none-some i (complete i (rw at first)));
    none = λ i _ decodes _. none-some i (complete i (rw at decodes));
  }

  -- a word that decodes to one instruction and no other, and is not illegal, is one at most
  pub decoded_some : (word : ℕ) → word ≡ word_at_pc layout s → (instruction : Instr) →
      ((i : Instr) → Decodes word i → Some instruction ≡ Some i) →
      (IsIllegal word → true ≡ false) → IsOneAtMost layout s lines
  decoded_some word at instruction complete legal = record {
    one = λ i j _ first second. same_Some i j (sym (complete i (rw at first)) ∙ complete j (rw at second));
    none = λ i _ decodes illegal. true≢false (legal (rw at illegal));
  }

module _ {layout : Layout} {s : State} {lines : Lines} (once : IsOneAtMost layout s lines) where
  -- two steps from one state, with the same lines, are the same
  pub same_steps : {o o' : RefStep} {t t' : State} → Step layout s lines o t → Step layout s lines o' t' →
      (o' ≡ o) × (t' ≡ t)
  same_steps (interrupted code due) (interrupted code' due') =
      let same : code' ≡ code = cc in
      (ap (λ k. Interrupt s.pc (interrupt_cause k)) same, ap (λ k. trap_taken s (interrupt_cause k) 0) same)
  same_steps (interrupted code due) (unfetched due' out') = absurd (cc)
  same_steps (interrupted code due) (stale due' inside' marked') = absurd (cc)
  same_steps (interrupted code due) (illegal fetched' none') = absurd (cc)
  same_steps (interrupted code due) (faulted fetched' i' decoded' cause' value' faults') = absurd (cc)
  same_steps (interrupted code due) (retired fetched' i' decoded' written' next' retires') = absurd (cc)
  same_steps (unfetched due out) (interrupted code' due') = absurd (cc)
  same_steps (unfetched due out) (unfetched due' out') = (refl, refl)
  same_steps (unfetched due out) (stale due' inside' marked') = absurd (cc)
  same_steps (unfetched due out) (illegal fetched' none') = absurd (cc)
  same_steps (unfetched due out) (faulted fetched' i' decoded' cause' value' faults') = absurd (cc)
  same_steps (unfetched due out) (retired fetched' i' decoded' written' next' retires') = absurd (cc)
  same_steps (stale due inside marked) (interrupted code' due') = absurd (cc)
  same_steps (stale due inside marked) (unfetched due' out') = absurd (cc)
  same_steps (stale due inside marked) (stale due' inside' marked') = (refl, refl)
  same_steps (stale due inside marked) (illegal fetched' none') = absurd (cc)
  same_steps (stale due inside marked) (faulted fetched' i' decoded' cause' value' faults') = absurd (cc)
  same_steps (stale due inside marked) (retired fetched' i' decoded' written' next' retires') = absurd (cc)
  same_steps (illegal fetched none) (interrupted code' due') = absurd (cc)
  same_steps (illegal fetched none) (unfetched due' out') = absurd (cc)
  same_steps (illegal fetched none) (stale due' inside' marked') = absurd (cc)
  same_steps (illegal fetched none) (illegal fetched' none') = (refl, refl)
  same_steps (illegal fetched none) (faulted fetched' i' decoded' cause' value' faults') =
      absurd (once.none i' fetched' decoded' none)
  same_steps (illegal fetched none) (retired fetched' i' decoded' written' next' retires') =
      absurd (once.none i' fetched' decoded' none)
  same_steps (faulted fetched i decoded cause value faults) (interrupted code' due') = absurd (cc)
  same_steps (faulted fetched i decoded cause value faults) (unfetched due' out') = absurd (cc)
  same_steps (faulted fetched i decoded cause value faults) (stale due' inside' marked') = absurd (cc)
  same_steps (faulted fetched i decoded cause value faults) (illegal fetched' none') =
      absurd (once.none i fetched decoded none')
  same_steps (faulted fetched i decoded cause value faults) (faulted fetched' i' decoded' cause' value' faults') =
      let same = once.one i i' fetched decoded decoded' in
      let same_cause : cause' ≡ cause = cc in
      let same_value : value' ≡ value = cc in
      (ap₂ (λ a v. Trap s.pc a v) same_cause same_value, ap₂ (λ a v. trap_taken s (code_of a) v) same_cause same_value)
  same_steps (faulted fetched i decoded cause value faults) (retired fetched' i' decoded' written' next' retires') =
      let same = once.one i i' fetched decoded decoded' in
      absurd (cc)
  same_steps (retired fetched i decoded written next retires) (interrupted code' due') = absurd (cc)
  same_steps (retired fetched i decoded written next retires) (unfetched due' out') = absurd (cc)
  same_steps (retired fetched i decoded written next retires) (stale due' inside' marked') = absurd (cc)
  same_steps (retired fetched i decoded written next retires) (illegal fetched' none') =
      absurd (once.none i fetched decoded none')
  same_steps (retired fetched i decoded written next retires) (faulted fetched' i' decoded' cause' value' faults') =
      let same = once.one i i' fetched decoded decoded' in
      absurd (cc)
  same_steps (retired fetched i decoded written next retires) (retired fetched' i' decoded' written' next' retires') =
      let same = once.one i i' fetched decoded decoded' in
      let same_written : written' ≡ written = cc in
      let same_next : next' ≡ next = cc in
      (ap (λ w. Retired s.pc (word_at_pc layout s) w) same_written, same_next)

  -- what retires stays in RAM
  pub retired_stays : {o : RefStep} {t : State} → Step layout s lines o t → is_retired o ≡ true → StaysInRam layout s
  retired_stays (retired fetched i decoded written next retires) found = λ j decodes.
      let same = once.one j i fetched decodes decoded in
      rw same (effect_in_ram layout s lines (word_at_pc layout s) i written next retires)
  retired_stays _ found = absurd (cc)
