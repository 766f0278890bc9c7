-- The steps of a program by the definition, where what is predicted is a function of what a predictor was taught.
use Rattle.rv_hardware.proofs.Words.{ℕ, zero, suc, ◌+◌, ◌*◌, ◌/◌, nat_lt, Bool, false, if◌then◌else◌, List, [], ◌∷◌}
use Rattle.rv_hardware.proofs.Words.{◌++◌, length, Option, Some, None, is_none, option_and_then, bytes_of_number}
use Rattle.rv_hardware.proofs.Words.{pc_plus_4, Kind, Values, with_kind, Early, no_lines, Memory, fetched_word}
use Rattle.rv_hardware.proofs.Words.{FetchBuffer, Fetched, ◌==◌, ◌||◌, not, Committing, Dispatching, commit_with}
use Rattle.rv_hardware.proofs.Words.{execute, Hardware, nat_cmp}
use Rattle.std.specs.FinSet as set
use Rattle.std.specs.List.{fold}
use Rattle.rv_isa.specs.Standard.{standard_values}
use Rattle.rv_isa.specs.declared.causes.Cause.TheVariants.{Breakpoint}
use Rattle.rv_isa.specs.declared.values.KindValues.{KindValues}
use Rattle.rv_decode.specs.Decodes.{instruction_of}
use Rattle.rv_front.specs.Lesson.{Lesson}
use Rattle.rv_front.specs.Flow.{flow_at}
use Rattle.rv_front.specs.Predictors.{answer}
use Rattle.rv_front.specs.declared.predictors.DescribedPredictor.{DescribedPredictor}
use Rattle.rv_hardware.specs.Dispatch.{stall_of}
use Rattle.rv_hardware.specs.Lessons.{lessons_of}
use Rattle.rv_hardware.specs.declared.report.Stall.{Stall}
use Rattle.rv_hardware.specs.declared.step.Execution.{Execution}
use Rattle.rv_hardware.specs.declared.step.Step.{Step}
use Rattle.rv_hardware.specs.declared.step.Step.TheVariants.{Retired, Trap}

-- no word is stale
abbrev pub never : set.FinSet nat_cmp → ℕ → Bool
never words word = false

-- a fetch ends with a word that RAM does not have, or after which another address than the next is predicted
abbrev pub is_last : Option ℕ → Bool → Bool
is_last word is_next = is_none word || not is_next

-- the buffer with one more word
abbrev pub with_word : FetchBuffer → Fetched → FetchBuffer
with_word front word =
    record front { entries = front.entries ++ word ∷ []; next_pc = word.predicted; halted = is_none word.word }

-- a cycle's commit phase without interrupts, in which no word is stale, and what its dispatch leaves
abbrev pub committing_in : Hardware → Committing
committing_in h = commit_with never no_lines h

abbrev pub dispatching_in : Hardware → Dispatching
dispatching_in h = execute (committing_in h).hardware

-- by what a predictor answers for the word at a pc, and what a lesson makes of it
module _ {S : Type 0} (answered : S → ℕ → ℕ → ℕ) (learned : S → Lesson → S) where
  -- what is guessed after the word at a pc: what is answered, or the next address where there is no word
  abbrev pub guess_at : S → ℕ → Option ℕ → ℕ
  guess_at predictor pc None = pc_plus_4 pc
  guess_at predictor pc (Some word) = answered predictor pc word

  -- the word that is fetched at a pc in a cycle
  abbrev pub word_at : S → ℕ → ℕ → Option ℕ → Fetched
  word_at predictor cycle pc word =
      record {
        pc = pc;
        word = word;
        instruction = option_and_then instruction_of word;
        predicted = guess_at predictor pc word / 4 * 4;
        cycle = cycle;
      }

  -- the word that comes next
  abbrev pub next_word : S → Memory → ℕ → FetchBuffer → Fetched
  next_word predictor ram cycle front =
      word_at predictor cycle front.next_pc (fetched_word ram.layout ram.bytes front.next_pc)

  -- so many words more, while there is room, up to one that ends the fetch
  abbrev pub with_words : S → Memory → ℕ → ℕ → FetchBuffer → FetchBuffer
  with_words predictor ram cycle zero front = front
  with_words predictor ram cycle (suc width) front =
      let word : Fetched = next_word predictor ram cycle front in
      let next : FetchBuffer = with_word front word in
      if nat_lt (length front.entries) front.capacity
      then (if is_last word.word (word.predicted == pc_plus_4 word.pc)
      then next
      else with_words predictor ram cycle width next)
      else front

  -- a cycle's fetch
  abbrev pub after_fetch : S → Memory → ℕ → FetchBuffer → FetchBuffer
  after_fetch predictor ram cycle front =
      if front.halted then front else with_words predictor ram cycle front.width front

  -- the hardware after the dispatch of a cycle, once its words were fetched
  abbrev pub with_fetch : S → ℕ → Hardware → Hardware
  with_fetch predictor cycle h =
      record h { front = after_fetch predictor h.cache.backing cycle h.front; cycle = cycle + 1 }

  -- the predictor after the lessons of a cycle, and the hardware after the cycle, whose fetch goes by that predictor
  abbrev pub taught_in : S → Hardware → S
  taught_in predictor h = fold learned predictor (lessons_of (committing_in h).steps (dispatching_in h).hardware.pc)

  abbrev pub after_cycle : S → Hardware → Hardware
  after_cycle predictor h = with_fetch (taught_in predictor h) h.cycle (dispatching_in h).hardware

  -- the steps of so many cycles
  abbrev pub steps_from : ℕ → S → Hardware → List Step
  steps_from zero predictor h = []
  steps_from (suc cycles) predictor h =
      (committing_in h).steps ++ steps_from cycles (taught_in predictor h) (after_cycle predictor h)

  -- why each of so many cycles dispatched nothing
  abbrev pub reasons_from : ℕ → S → Hardware → List (Option Stall)
  reasons_from zero predictor h = []
  reasons_from (suc cycles) predictor h =
      stall_of (dispatching_in h) ∷ reasons_from cycles (taught_in predictor h) (after_cycle predictor h)

-- words in memory
abbrev pub in_memory : List ℕ → List ℕ
in_memory [] = []
in_memory (word ∷ words) = bytes_of_number 4 word ++ in_memory words

-- the prediction that the program goes on at the next address, of one that learns nothing
abbrev pub straight_ahead : Unit {0} → ℕ → ℕ → ℕ
straight_ahead predictor pc word = pc_plus_4 pc

abbrev pub unchanged : Unit {0} → Lesson → Unit {0}
unchanged predictor lesson = predictor

-- what a described predictor answers for the word at a pc
abbrev pub described_answer : DescribedPredictor → ℕ → ℕ → ℕ
described_answer predictor pc word = answer predictor pc (flow_at pc word)

-- the standard machine with a smaller RAM, which the programs do not leave
abbrev pub machine : Values
machine = record standard_values { ram_size = 8192 }

-- the same with other units of one kind
abbrev pub machine_with : Kind → KindValues → Values
machine_with kind units = record machine { kinds = with_kind kind units machine.kinds }

-- the same with early recovery
abbrev pub early : Values
early = record machine { recovery = Early }

-- a row of a run
abbrev pub row : ℕ → ℕ → Option (ℕ × ℕ) → ℕ → ℕ → Option Execution → ℕ → Step
row pc word written fetched dispatched execution retired = Retired (record {
  pc = pc;
  word = word;
  written = written;
  fetched = fetched;
  dispatched = dispatched;
  execution = execution;
  retired = retired;
})

-- an instruction that was executed at once: fetched, dispatched, issued, at a cost, broadcast and retired
abbrev pub executed : ℕ → ℕ → Option (ℕ × ℕ) → ℕ → ℕ → ℕ → ℕ → ℕ → ℕ → Step
executed pc word written fetched dispatched issued cost broadcast =
    row pc word written fetched dispatched (Some (record { issued = issued; cost = cost; broadcast = broadcast }))

-- a serialising instruction, which uses no unit
abbrev pub serialised : ℕ → ℕ → Option (ℕ × ℕ) → ℕ → ℕ → ℕ → Step
serialised pc word written fetched dispatched = row pc word written fetched dispatched None

-- the last step: a trap at a breakpoint
abbrev pub breakpoint : ℕ → ℕ → List Step
breakpoint pc cycle = Trap pc Breakpoint 0 cycle ∷ []

-- `ebreak`, which ends the programs
abbrev pub ebreak : ℕ
ebreak = 0x00100073
