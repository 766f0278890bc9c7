-- The state after instructions in flight, each executed in order, is what the one-at-a-time machine will see there.
use Rattle.rv_hardware.proofs.Words.{◌≡◌, ℕ, ◌%◌, false, List, [], ◌∷◌, Some, Option, option_and_then, no_lines}
use Rattle.rv_hardware.proofs.Words.{target_of_word, Message, instruction_of, Layout, fetched_word, word_of, State}
use Rattle.rv_hardware.proofs.Words.{Entry, Stage, Finished, Running, Waiting, Fetched, store_of_message, with_store}
use Rattle.rv_hardware.proofs.Words.{with_value, result_of_word, stale_after}
use Rattle.std.specs.FinSet as set

-- what an instruction in flight gives in a state; no instruction with a result looks at the lines
abbrev pub result_at : Layout → State → Entry → Message
result_at layout s e = result_of_word layout s no_lines e.word e.instruction

-- the state once an instruction gave a result and goes on at a pc
abbrev pub with_message : ℕ → Entry → Message → ℕ → State → State
with_message base e message next s = record {
  pc = next;
  registers = with_value s.registers (target_of_word e.instruction) (Some message);
  csrs = s.csrs;
  ram = with_store base (store_of_message message.store) s.ram;
  stale = stale_after message.store s.stale;
}

-- the state after an instruction that goes on where predicted; its fault is no trap, since nothing after it retires
abbrev pub executed : Layout → Entry → State → State
executed layout e s = with_message layout.base e (result_at layout s e) e.predicted_next s

-- the state after some instructions in flight, each executed in order
abbrev pub after_entries : Layout → List Entry → State → State
after_entries layout [] s = s
after_entries layout (e ∷ es) s = after_entries layout es (executed layout e s)

-- a fetched word is memory's at its place, unless a retired store has touched that
abbrev pub IsWordAt : Layout → State → ℕ → Option ℕ → Type 0
IsWordAt layout seen pc word = set.contains seen.stale (word_of pc) ≡ false → word ≡ fetched_word layout seen.ram pc

-- the result, where it is known already
abbrev pub IsResult : Message → Stage → Type 0
IsResult result Waiting = Unit {0}
IsResult result (Running issue message) = message ≡ result
IsResult result (Finished issue cycle message) = message ≡ result

-- what an instruction in flight is, where programs see one state, and those before it lead to another
pub record IsInFlight (layout : Layout) (seen s : State) (e : Entry) : Type 0 where
  pub pc : e.pc ≡ s.pc
  pub word : IsWordAt layout seen e.pc e.word
  pub instruction : e.instruction ≡ option_and_then instruction_of e.word
  pub aligned : e.predicted_next % 4 ≡ 0
  pub result : IsResult (result_at layout s e) e.stage

-- instructions in flight follow the program from a state on, one after another
abbrev pub AreInFlight : Layout → State → State → List Entry → Type 0
AreInFlight layout seen s [] = Unit {0}
AreInFlight layout seen s (e ∷ es) = IsInFlight layout seen s e × AreInFlight layout seen (executed layout e s) es

-- what a fetched word is, where those before it lead to a pc
pub record IsInBuffer (layout : Layout) (seen : State) (pc : ℕ) (f : Fetched) : Type 0 where
  pub pc_is : f.pc ≡ pc
  pub word : IsWordAt layout seen f.pc f.word
  pub instruction : f.instruction ≡ option_and_then instruction_of f.word
  pub aligned : f.predicted % 4 ≡ 0

-- fetched words follow one another from a pc, and lead to the next
abbrev pub AreInBuffer : Layout → State → ℕ → List Fetched → ℕ → Type 0
AreInBuffer layout seen pc [] next = next ≡ pc
AreInBuffer layout seen pc (f ∷ fs) next = IsInBuffer layout seen pc f × AreInBuffer layout seen f.predicted fs next
