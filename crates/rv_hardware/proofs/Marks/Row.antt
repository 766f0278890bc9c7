-- A sound instruction in flight that retires leaves a row with stamps in order, and its mark goes on.
use Rattle.rv_hardware.proofs.Words.{◌≡◌, ℕ, ◌+◌, ◌<◌, true, false, ◌⊎◌, is_some, IfSome, None, Option, unwrap_or, ap}
use Rattle.rv_hardware.proofs.Words.{inr, arith, is_load, is_serialising, kind_of_word, Message, Instr, Issue, Values}
use Rattle.rv_hardware.proofs.Words.{instruction_of, Entry, Stage, Finished, HasCost, HasOrderedStamps, IsCost}
use Rattle.rv_hardware.proofs.Words.{execution_of, Row, not_both, IsBetween}
use Rattle.rv_hardware.proofs.Marks.Advance.{IsKnownMark, Retires}
use Rattle.rv_hardware.proofs.Marks.List.{Start, mark_of_row, mark_of_entry, start_of_execution, broadcast_of_execution}
use Rattle.rv_hardware.proofs.Marks.List.{start_of_stage, broadcast_of_stage}
use Rattle.rv_hardware.proofs.Marks.Sound.{SoundCost, SoundStage, SoundEntry, kind_is_plain, serial_has_no_kind}
use Rattle.rv_hardware.proofs.Marks.Sound.{row_decodes}

-- a row's stamps are in order, its execution took its cost, and it retired below a bound
pub record SoundRow (v : Values) (bound : ℕ) (row : Row) : Type 0 where
  pub stamps : HasOrderedStamps row
  pub cost : HasCost v row
  pub below : row.retired < bound

-- the row that an instruction leaves
abbrev pub row_at : Entry → Option (ℕ × ℕ) → ℕ → Row
row_at e written cycle = record {
  pc = e.pc;
  word = unwrap_or e.word 0;
  written = written;
  fetched = e.fetched;
  dispatched = e.dispatched;
  execution = execution_of e.stage;
  retired = cycle;
}

-- it serialises, or its result is known and is no fault
abbrev pub MayRetire : Option Instr → Stage → Type 0
MayRetire i (Finished issue cycle message) = (is_serialising i ≡ true) ⊎ (message.fault ≡ None)
MayRetire i _ = is_serialising i ≡ true

-- what the stage says of an execution that may retire
record SoundExecution (v : Values) (i : Option Instr) (D now : ℕ) (st : Stage) : Type 0 where
  by_unit : is_some (execution_of st) ≡ is_some (kind_of_word i)
  between : IfSome (execution_of st) (IsBetween D now)
  cost : IfSome (execution_of st) (λ x. IfSome (kind_of_word i) (λ k. IsCost v (is_load i) k x.cost))
  start : start_of_execution (execution_of st) ≡ start_of_stage st
  broadcast : broadcast_of_execution (execution_of st) ≡ broadcast_of_stage st
  is_one : i ≡ None → ⊥

no_instruction_serialises : (i : Option Instr) → is_serialising i ≡ true → i ≡ None → ⊥
no_instruction_serialises i h is = absurd (cc)

no_instruction_has_kind : (i : Option Instr) → is_some (kind_of_word i) ≡ true → i ≡ None → ⊥
no_instruction_has_kind i h is = absurd (cc)

no_fault : (message : Message) → message.fault ≡ None → is_some message.fault ≡ true → ⊥
no_fault message none some = absurd (cc)

no_fault_is : (message : Message) → message.fault ≡ None → is_some message.fault ≡ false
no_fault_is message none = ap is_some none

sound_cost : (v : Values) (i : Option Instr) (s : Start) → s.faults ≡ false → SoundCost v i s →
    IfSome (kind_of_word i) (λ k. IsCost v (is_load i) k s.cost)
sound_cost v i s given holds = grind (arith, not_both)

serial_execution : (v : Values) (i : Option Instr) (D now : ℕ) (st : Stage) → SoundStage v i D now now st →
    is_serialising i ≡ true → SoundExecution v i D now st
serial_execution v i D now st sound serial =
    grind (arith, serial_has_no_kind, no_instruction_serialises, not_both, kind_is_plain)

finished_execution : (v : Values) (i : Option Instr) (D now : ℕ) (issue : Option Issue) (cycle : ℕ)
    (message : Message) →
    SoundStage v i D now now (Finished issue cycle message) → message.fault ≡ None →
    SoundExecution v i D now (Finished issue cycle message)
finished_execution v i D now issue cycle message sound given =
    grind (arith, no_fault, sound_cost, no_fault_is, no_instruction_has_kind)

execution_is_sound : (v : Values) (i : Option Instr) (D now : ℕ) (st : Stage) → SoundStage v i D now now st →
    MayRetire i st → SoundExecution v i D now st
execution_is_sound v i D now st sound may = grind (arith, serial_execution, finished_execution)

-- a serialising instruction may retire at any stage
pub may_retire_serial : (i : Option Instr) (st : Stage) → is_serialising i ≡ true → MayRetire i st
may_retire_serial i st serial = grind arith

-- an instruction whose result is no fault may retire
pub may_retire_finished : (i : Option Instr) {st : Stage} {issue : Option Issue} {cycle : ℕ} {message : Message} →
    st ≡ Finished issue cycle message → message.fault ≡ None → MayRetire i st
may_retire_finished i at none = rw at (inr none)

-- what may retire is an instruction
pub retiring_is_one : (v : Values) (now : ℕ) (e : Entry) → SoundEntry v now now now e →
    MayRetire e.instruction e.stage → e.instruction ≡ None → ⊥
retiring_is_one v now e sound may = (execution_is_sound v e.instruction e.dispatched now e.stage sound.stage may).is_one

module _ {v : Values} {now : ℕ} {e : Entry} (written : Option (ℕ × ℕ)) (sound : SoundEntry v now now now e)
    (may : MayRetire e.instruction e.stage) where
  held : SoundExecution v e.instruction e.dispatched now e.stage
  held = execution_is_sound v e.instruction e.dispatched now e.stage sound.stage may

  decoded : instruction_of (unwrap_or e.word 0) ≡ e.instruction
  decoded = row_decodes e sound.decoded held.is_one

  -- the row that a sound instruction leaves is sound
  pub row_is_sound : SoundRow v (now + 1) (row_at e written now)
  row_is_sound = grind (arith, held, decoded)

  entry_known : IsKnownMark now (mark_of_entry e)
  entry_known some = grind (arith, not_both, kind_is_plain)

  -- the mark goes on
  pub row_advances : Retires now (mark_of_entry e) (mark_of_row (row_at e written now))
  row_advances = grind (arith, decoded, held, entry_known)
