-- An instruction in flight waits for a unit or to be the oldest, or its message holds just what it may.
use Rattle.rv_hardware.proofs.Words.{◌≡◌, ℕ, Bool, true, ◌||◌, ◌∷◌, ◌++◌, is_some, Some, None, Option, option_and_then}
use Rattle.rv_hardware.proofs.Words.{sym, subst, is_of_kind, is_serialising, is_store, kind_of_word, Message, Instr}
use Rattle.rv_hardware.proofs.Words.{Lines, Kind, instruction_of, Layout, Effect, State, Each, issue_of, Entry, Stage}
use Rattle.rv_hardware.proofs.Words.{Finished, Running, Waiting, Fetched, any_prediction, entry_of_fetched, stage_by}
use Rattle.rv_hardware.proofs.Words.{Hardware, broadcast_of, is_waiting, access_of, effect_message, result_of_word}
use Rattle.rv_hardware.proofs.Words.{Each-left, Each-right, Each-push, Each-change, arith, each_then, Each-append}
use Rattle.rv_hardware.proofs.Turns.Cited.{fetch_phase, IsKept, phases-kept, IsKeptByChanges, all_squashed}
use Rattle.rv_hardware.proofs.Turns.Cited.{head_retires, one_starts, one_sent, one_mended, one_enters, IsResultOfWord}
use Rattle.rv_hardware.proofs.Turns.Cited.{HasRun}
use Rattle.rv_hardware.proofs.Always.Faults.{HasWordOr, IsUnitFault, by_result}
use Rattle.rv_hardware.proofs.Marks.Sound.{some_kind}

-- a result that is no fault holds what is written where it is a store's, and nowhere else
abbrev pub HasItsStore : Option Instr → Message → Type 0
HasItsStore i message = message.fault ≡ None → is_some message.store ≡ is_store i

-- what a message holds of its instruction
pub record IsMessageFor (word : Option ℕ) (instruction : Option Instr) (message : Message) : Type 0 where
  pub fault : HasWordOr message.fault word
  pub store : HasItsStore instruction message

-- by its stage, an instruction waits for a unit or to be the oldest, or its message holds what it may
abbrev pub IsShaped : Option ℕ → Option Instr → Stage → Type 0
IsShaped word instruction Waiting =
    HasWordOr None word × ((is_some (kind_of_word instruction) || is_serialising instruction) ≡ true)
IsShaped word instruction (Running issue message) = IsMessageFor word instruction message × IsUnitFault message.fault
IsShaped word instruction (Finished None cycle message) = IsMessageFor word instruction message
IsShaped word instruction (Finished (Some issue) cycle message) =
    IsMessageFor word instruction message × IsUnitFault message.fault

-- an instruction in flight is so
abbrev pub Shaped : Entry → Type 0
Shaped e = IsShaped e.word e.instruction e.stage

-- where no word was fetched there is no instruction
abbrev HasWordFor : Option ℕ → Option Instr → Type 0
HasWordFor None (Some instruction) = ⊥
HasWordFor _ instruction = Unit {0}

abbrev pub FetchedShape : Fetched → Type 0
FetchedShape f = HasWordFor f.word f.instruction

-- each instruction in flight is so, and no fetched word that was not there has an instruction
abbrev pub AreShaped : Hardware → Type 0
AreShaped h = Each Shaped h.rob.entries × Each FetchedShape h.front.entries

-- what is known of the message of an instruction that has finished
pub message_at_end : (word : Option ℕ) (instruction : Option Instr) (stage : Stage) (message : Message) →
    broadcast_of stage ≡ Some message → IsShaped word instruction stage → IsMessageFor word instruction message
message_at_end word instruction stage message is shaped = grind arith

-- ---- what an instruction gives
access_has_its_store : (s : State) (i : Instr) → is_some (access_of s i) ≡ is_store (Some i)
access_has_its_store s i = grind arith

effect_has_its_store : (s : State) (i : Instr) (given : Effect) →
    HasItsStore (Some i) (effect_message (access_of s i) given)
effect_has_its_store s i given = grind (arith, access_has_its_store)

word_has_its_store : (layout : Layout) (s : State) (lines : Lines) (word : Option ℕ) (i : Option Instr) →
    HasItsStore i (result_of_word layout s lines word i)
word_has_its_store layout s lines word i = grind (arith, effect_has_its_store)

word_message : (layout : Layout) (s : State) (lines : Lines) (word : Option ℕ) (instruction : Option Instr) →
    HasWordOr (result_of_word layout s lines word instruction).fault word
word_message layout s lines word instruction = grind arith

result_recorded : (layout : Layout) (s : State) (lines : Lines) (word : Option ℕ) (instruction : Option Instr) →
    IsMessageFor word instruction (result_of_word layout s lines word instruction)
result_recorded layout s lines word instruction = grind (arith, word_message, word_has_its_store)

-- ---- an execution begins, and its result is broadcast
waits_with_word : (word : Option ℕ) (instruction : Option Instr) (stage : Stage) → is_waiting stage ≡ true →
    IsShaped word instruction stage → HasWordOr None word
waits_with_word word instruction stage given shaped = grind arith

begun_shape : (k : Kind) (e : Entry) (message : Message) → is_waiting e.stage ≡ true →
    is_of_kind k (kind_of_word e.instruction) ≡ true → IsResultOfWord e.word e.instruction message → Shaped e →
    IsMessageFor e.word e.instruction message × IsUnitFault message.fault
begun_shape k e message given of_kind result shaped =
    grind (arith, result_recorded, by_result, waits_with_word, some_kind)

known_shape : {cycle : ℕ} (word : Option ℕ) (instruction : Option Instr) {stage : Stage} {message : Message} →
    HasRun cycle stage message → IsShaped word instruction stage →
    IsShaped word instruction (Finished (issue_of stage) cycle message)
known_shape word instruction gives shaped = grind arith

-- ---- a dispatch
word_for : (word : Option ℕ) (instruction : Option Instr) → HasWordFor word instruction →
    (is_some (kind_of_word instruction) || is_serialising instruction) ≡ true → HasWordOr None word
word_for word instruction has given = grind arith

or_true : (b : Bool) → (b || true) ≡ true
or_true b = grind arith

shaped_by : (word : Option ℕ) (instruction : Option Instr) (kind : Option Kind) (serialising : Bool) (cycle : ℕ)
    (message : Message) →
    kind_of_word instruction ≡ kind → is_serialising instruction ≡ serialising → HasWordFor word instruction →
    IsMessageFor word instruction message →
    IsShaped word instruction (stage_by kind serialising (Finished None cycle message))
shaped_by word instruction kind serialising cycle message of_kind serial has is_message =
    grind (arith, word_for, or_true)

shaped_entry : (h : Hardware) (f : Fetched) → FetchedShape f → Shaped (entry_of_fetched h f)
shaped_entry h f has = grind (arith, shaped_by, result_recorded)

-- ---- a fetch
no_word : (word : Option ℕ) {instruction : Option Instr} → instruction ≡ option_and_then instruction_of word →
    HasWordFor word instruction
no_word word is = grind arith

-- each change keeps it
pub entries_changes : IsKeptByChanges AreShaped
entries_changes h _ (all_squashed s retired) shape = (tt, tt)
entries_changes h _ (head_retires e es s message split known faultless) shape = grind arith
entries_changes h _ (one_starts k older younger e cost message split waits of_kind result costs) shape = (
  Each-change _ older younger e _ (begun_shape k e message waits of_kind result) (subst (Each Shaped) split shape.0),
  shape.1,
)
entries_changes h _ (one_sent older younger e message split gives) shape = (
  Each-change _ older younger e _ (known_shape e.word e.instruction gives) (subst (Each Shaped) split shape.0),
  shape.1,
)
entries_changes h _ (one_mended older younger e next split) shape =
    let all : Each Shaped (older ++ e ∷ younger) = subst (Each Shaped) split shape.0 in
    (Each-push _ older _ (Each-right _ older _ all).0 (Each-left _ older _ all), tt)
entries_changes h _ (one_enters fetched rest first none) shape = grind (arith, Each-push, shaped_entry)
entries_changes h _ _ shape = shape

-- every cycle keeps it
pub entries-kept : IsKept AreShaped
entries-kept = record {
  phases = phases-kept entries_changes;
  fetch = λ ram cycle h front stop shape fetches.
      let phase = fetch_phase any_prediction ram cycle h.front front stop fetches in
      let added = each_then (λ f new. no_word f.word new.1) _ phase.are_new in
      (shape.0, subst (Each FetchedShape) (sym phase.entries) (Each-append _ _ _ shape.1 added));
}
