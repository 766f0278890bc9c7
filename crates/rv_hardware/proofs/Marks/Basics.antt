-- An instruction that starts, is broadcast or is dispatched stays sound, and its mark goes on.
use Rattle.rv_hardware.proofs.Words.{◌≡◌, ℕ, ◌+◌, ◌≤◌, Bool, true, List, is_some, Some, None, Option, option_and_then}
use Rattle.rv_hardware.proofs.Words.{arith, is_of_kind, is_serialising, kind_of_word, Message, Instr, Issue, Lines}
use Rattle.rv_hardware.proofs.Words.{Kind, Values, instruction_of, Layout, State, Each, finished, issue_of, predicting}
use Rattle.rv_hardware.proofs.Words.{started, Entry, Stage, Finished, Running, Waiting, Fetched, entry_of_fetched}
use Rattle.rv_hardware.proofs.Words.{stage_by, Hardware, is_waiting, result_of_word, rows_of, Step}
use Rattle.rv_hardware.proofs.Marks.List.{mark_of_entry, mark_of_fetched, start_of_issue, start_of_stage}
use Rattle.rv_hardware.proofs.Marks.List.{broadcast_of_stage}
use Rattle.rv_hardware.proofs.Marks.Row.{SoundRow}
use Rattle.rv_hardware.proofs.Always.Sound.{IsSoundFor}
use Rattle.rv_hardware.proofs.Marks.Sound.{SoundCost, SoundEntry, SoundStage, SoundFetched, some_kind}

-- in cycle `now`: dispatches, executions, fetches and retirements lie below bounds
pub record Basics (v : Values) (now dispatch_bound issue_bound stage_bound fetch_bound row_bound : ℕ)
    (steps : List Step) (h : Hardware) : Type 0 where
  pub cycle : h.cycle ≡ now
  pub always : IsSoundFor v h
  pub rows : Each (SoundRow v row_bound) (rows_of steps)
  pub entries : Each (SoundEntry v dispatch_bound issue_bound stage_bound) h.rob.entries
  pub fetched : Each (SoundFetched fetch_bound) h.front.entries

-- an instruction that waits is in the stage of waiting
pub is_waiting_is : (st : Stage) → is_waiting st ≡ true → st ≡ Waiting
is_waiting_is st h = grind arith

-- the entries of each phase are sound

-- an instruction that starts to execute stays sound
pub started_sound : {v : Values} {now b : ℕ} (k : Kind) {e : Entry} (cost : ℕ) (message : Message) →
    SoundEntry v now (now + 1) b e → is_of_kind k (kind_of_word e.instruction) ≡ true →
    SoundCost v e.instruction (start_of_issue (record { cycle = now; cost = cost }) message) →
    SoundEntry v now (now + 1) b (started (record { cycle = now; cost = cost }) message e)
started_sound k cost message sound kind costs = grind (arith, some_kind)

finished_stage : (v : Values) (i : Option Instr) (D now : ℕ) (st : Stage) (issue : Issue) (message : Message) →
    st ≡ Running issue message → issue.cycle + issue.cost ≤ now → SoundStage v i D (now + 1) (now + 1) st →
    SoundStage v i D (now + 1) (now + 1) (Finished (issue_of st) now message)
finished_stage v i D now st issue message given over sound = grind arith

-- an instruction whose result is broadcast stays sound
pub finished_sound : {v : Values} {now : ℕ} {e : Entry} {issue : Issue} {message : Message} →
    SoundEntry v now (now + 1) (now + 1) e → e.stage ≡ Running issue message → issue.cycle + issue.cost ≤ now →
    SoundEntry v now (now + 1) (now + 1) (finished message now e)
finished_sound sound given over = grind (arith, finished_stage)

-- another predicted pc leaves an instruction sound
pub predicting_sound : {v : Values} {d a b : ℕ} (next : ℕ) {e : Entry} → SoundEntry v d a b e →
    SoundEntry v d a b (predicting next e)
predicting_sound next sound =
    record { decoded = sound.decoded; after_fetch = sound.after_fetch; by_now = sound.by_now; stage = sound.stage }

-- the mark of an instruction whose result is broadcast is stamped with the cycle
pub finished_mark : (now : ℕ) (e : Entry) {issue : Issue} {message : Message} → e.stage ≡ Running issue message →
    mark_of_entry (finished message now e) ≡ record (mark_of_entry e) { broadcast = Some now }
finished_mark now e given = grind arith

-- an instruction that is dispatched

no_word_faults : (layout : Layout) (s : State) (lines : Lines) (word : Option ℕ) (i : Option Instr) →
    i ≡ option_and_then instruction_of word → i ≡ None → is_some (result_of_word layout s lines word i).fault ≡ true
no_word_faults layout s lines word i decoded given = grind arith

first_stage_sound : (v : Values) (D bound : ℕ) (i : Option Instr) (message : Message) (o : Option Kind)
    (serial : Bool) →
    kind_of_word i ≡ o → is_serialising i ≡ serial → (i ≡ None → is_some message.fault ≡ true) →
    SoundStage v i D bound bound (stage_by o serial (Finished None D message))
first_stage_sound v D bound i message o serial kind is faults = grind arith

-- an instruction that is dispatched is sound
pub dispatched_sound : (v : Values) (now : ℕ) (h : Hardware) (f : Fetched) → h.cycle ≡ now → SoundFetched now f →
    SoundEntry v (now + 1) (now + 1) (now + 1) (entry_of_fetched h f)
dispatched_sound v now h f given sound = grind (arith, first_stage_sound, no_word_faults)

first_start : (D : ℕ) (o : Option Kind) (serial : Bool) (message : Message) →
    start_of_stage (stage_by o serial (Finished None D message)) ≡ None
first_start D o serial message = grind arith

first_broadcast : (D : ℕ) (o : Option Kind) (serial : Bool) (message : Message) →
    broadcast_of_stage (stage_by o serial (Finished None D message)) ≡ None
first_broadcast D o serial message = grind arith

-- the mark of a word that is dispatched is stamped with the cycle
pub dispatched_mark : (h : Hardware) (f : Fetched) →
    mark_of_entry (entry_of_fetched h f) ≡ record (mark_of_fetched f) { dispatched = Some h.cycle }
dispatched_mark h f = grind (arith, first_start, first_broadcast)
