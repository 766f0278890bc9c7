-- Where the result of the oldest instruction is known, the one-at-a-time machine takes the step that it stands for.
use Rattle.rv_hardware.proofs.Words.{◌≡◌, ℕ, ◌%◌, Bool, true, false, cond, List, [], ◌∷◌, Some, None, Option}
use Rattle.rv_hardware.proofs.Words.{option_map, option_and_then, unwrap_or, sym, refl, ◌∙◌, subst, no_lines, code_of}
use Rattle.rv_hardware.proofs.Words.{is_serialising, sources_of_word, target_of_word, target_of, Message, Fault, Instr}
use Rattle.rv_hardware.proofs.Words.{Lines, Decodes, instruction_of, Layout, fetched_word, is_in_ram, number_at}
use Rattle.rv_hardware.proofs.Words.{word_of, faulted_at, illegal_at, retired_at, due, Effect, Faults, Retires, effect}
use Rattle.rv_hardware.proofs.Words.{State, IsFetched, trap_taken, unfetched, word_at_pc, access_of, effect_message}
use Rattle.rv_hardware.proofs.Words.{result_of_word, arith}
use Rattle.std.specs.FinSet as set
use Rattle.rv_arch.specs.Step.{Step}
use Rattle.rv_arch.specs.declared.outcome.RefStep.TheVariants.{Retired, Trap}
use Rattle.rv_decode.proofs.Relation.{Decodes-instruction_of, IsIllegal-instruction_of}
use Rattle.rv_hardware.proofs.Headline.Result.{ReadsSame, same_result}
use Rattle.rv_hardware.proofs.Headline.Retires.{IsRetirement, IsRecorded, effect_recorded}

-- the word that a fetch found, or where it found none
outside_by : (inside : Bool) (word : ℕ) → cond inside (Some word) None ≡ None → inside ≡ false
outside_by inside word given = grind arith

record IsWordInside (inside : Bool) (at word : ℕ) : Type 0 where
  pub within : inside ≡ true
  pub is : word ≡ at

inside_by : (inside : Bool) (at word : ℕ) → cond inside (Some at) None ≡ Some word → IsWordInside inside at word
inside_by inside at word some = grind arith

pub reads_itself : (s : State) (sources : List (Option ℕ)) → ReadsSame s s sources
reads_itself s [] = tt
reads_itself s (None ∷ sources) = reads_itself s sources
reads_itself s (Some register ∷ sources) = (refl, reads_itself s sources)

module _ (layout : Layout) (s : State) (lines : Lines) where
  -- no interrupt is due, and the word at pc is as it was fetched
  pub record IsReadyHead (word : Option ℕ) (instruction : Option Instr) : Type 0 where
    pub calm : due s.csrs lines ≡ None
    pub fresh : set.contains s.stale (word_of s.pc) ≡ false
    pub word_is : word ≡ fetched_word layout s.ram s.pc
    pub instruction_is : instruction ≡ option_and_then instruction_of word

  pub outside : {instruction : Option Instr} → IsReadyHead None instruction → is_in_ram layout s.pc 4 ≡ false
  outside ready = outside_by (is_in_ram layout s.pc 4) (number_at layout s.ram s.pc 4) (sym ready.word_is)

  found : {word : ℕ} {instruction : Option Instr} → IsReadyHead (Some word) instruction →
      IsWordInside (is_in_ram layout s.pc 4) (word_at_pc layout s) word
  found {word} ready = inside_by (is_in_ram layout s.pc 4) (number_at layout s.ram s.pc 4) word (sym ready.word_is)

  -- the word of a ready instruction can be fetched at the state's pc
  pub fetched : {word : ℕ} {instruction : Option Instr} → IsReadyHead (Some word) instruction → IsFetched layout s lines
  fetched {word} {instruction} ready =
      record { undisturbed = ready.calm; in_ram = (found ready).within; fresh = ready.fresh }

  -- the word of a ready instruction is the one that memory holds at the pc
  pub word_here : {word : ℕ} {instruction : Option Instr} → IsReadyHead (Some word) instruction →
      word ≡ word_at_pc layout s
  word_here {word} {instruction} ready = (found ready).is

  -- the instruction of a ready word is what the word decodes to
  pub decoded : {word : ℕ} {i : Instr} → IsReadyHead (Some word) (Some i) → Decodes word i
  decoded {word} {i} ready = Decodes-instruction_of word i (sym ready.instruction_is)

  -- an instruction that was fetched has a word
  pub some_word : (word : Option ℕ) (i : Instr) → IsReadyHead word (Some i) → word ≡ Some (unwrap_or word 0)
  some_word word i ready = grind arith

  -- the step that a message stands for: a retirement, or a trap
  pub record Retires_as (word : Option ℕ) (instruction : Option Instr) (message : Message) : Type 0 where
    pub next : State
    pub takes : Step layout s lines
        (Retired s.pc (unwrap_or word 0) (option_map (λ (r : ℕ). (r, message.value)) (target_of_word instruction))) next
    pub recorded : IsRetirement layout s next (target_of_word instruction) message
        (option_map (λ (r : ℕ). (r, message.value)) (target_of_word instruction))

  -- the machine's step that a message stands for: a retirement where it has no fault, else a trap
  abbrev pub IsStepOf : Option ℕ → Option Instr → Message → Option Fault → Type 0
  IsStepOf word instruction message None = Retires_as word instruction message
  IsStepOf word instruction message (Some fault) =
      Step layout s lines (Trap s.pc fault.cause fault.value) (trap_taken s (code_of fault.cause) fault.value)

  step_of_effect : (word : ℕ) (i : Instr) (e : Effect) → IsReadyHead (Some word) (Some i) →
      effect layout s lines word i ≡ e → IsRecorded layout s (target_of i) (access_of s i) e →
      IsStepOf (Some word) (Some i) (effect_message (access_of s i) e) (effect_message (access_of s i) e).fault
  step_of_effect word i (Retires register next) ready is recorded = record {
    next = next;
    takes = subst (λ (r : Option (ℕ × ℕ)). Step layout s lines (Retired s.pc word r) next) recorded.register_is
        (retired_at layout s lines (fetched ready) s.pc refl word (word_here ready) i (decoded ready) register next is);
    recorded = subst
        (λ (r : Option (ℕ × ℕ)).
        IsRetirement layout s next (target_of i) (effect_message (access_of s i) (Retires register next)) r)
        recorded.register_is recorded;
  }
  step_of_effect word i (Faults cause value) ready is recorded =
      faulted_at layout s lines (fetched ready) word (word_here ready) i (decoded ready) cause value is

  step_of_result : s.pc % 4 ≡ 0 → (word : Option ℕ) (instruction : Option Instr) → is_serialising instruction ≡ false →
      IsReadyHead word instruction →
      IsStepOf word instruction (result_of_word layout s lines word instruction)
      (result_of_word layout s lines word instruction).fault
  step_of_result here None instruction plain ready = unfetched ready.calm (outside ready)
  step_of_result here (Some word) None plain ready =
      grind (arith, illegal_at, fetched, word_here, IsIllegal-instruction_of)
  step_of_result here (Some word) (Some i) plain ready = grind (arith, step_of_effect, effect_recorded)

  -- where the message of the oldest instruction is its result, the machine takes that step
  pub step_of : s.pc % 4 ≡ 0 → {word : Option ℕ} {instruction : Option Instr} {message : Message} →
      is_serialising instruction ≡ false → IsReadyHead word instruction →
      message ≡ result_of_word layout s no_lines word instruction → IsStepOf word instruction message message.fault
  step_of here {word} {instruction} plain ready is =
      let same = is ∙
      same_result s s layout no_lines lines refl word instruction plain (reads_itself s (sources_of_word instruction))
      (λ loads. refl) in
      subst (λ (m : Message). IsStepOf word instruction m m.fault) (sym same)
      (step_of_result here word instruction plain ready)
