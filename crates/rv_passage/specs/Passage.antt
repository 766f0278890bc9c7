-- The passages of the instructions in flight, and how one ends.
use Rattle.std.specs.Prelude.{ℕ, Bool, true, false, not, List, ◌++◌, map, Option, Some, None}
use Rattle.std.specs.Option.{option_map}
use Rattle.rv_isa.specs.declared.{causes.Cause.Cause, issues.Issue.Issue}
use Rattle.rv_front.specs.FetchBuffer.{FetchBuffer}
use Rattle.rv_front.specs.declared.fetched.Fetched.{Fetched}
use Rattle.rv_rob.specs.Entry.{issue_of}
use Rattle.rv_rob.specs.ReorderBuffer.{ReorderBuffer}
use Rattle.rv_rob.specs.declared.entry.{Entry.Entry, Stage.Stage}
use Rattle.rv_hardware.specs.Hardware.{Hardware}
use Rattle.rv_hardware.specs.Retirement.{execution_of}
use Rattle.rv_hardware.specs.declared.step.{Execution.Execution, Row.Row}
use Rattle.rv_passage.specs.declared.{passage.Ending.Ending, passage.Passage.Passage, producers.Producers.Producers}
use Rattle.rv_passage.specs.declared.passage.Ending.TheVariants as ending

-- the instruction is in flight
abbrev pub is_running : Ending → Bool
is_running ending.InFlight = true
is_running (ending.Retired order cycle written next) = false
is_running (ending.Trapped cycle cause) = false
is_running (ending.Squashed cycle) = false

-- it retired
abbrev pub is_retirement : Ending → Bool
is_retirement (ending.Retired order cycle written next) = true
is_retirement ending.InFlight = false
is_retirement (ending.Trapped cycle cause) = false
is_retirement (ending.Squashed cycle) = false

-- it was squashed
abbrev pub is_squash : Ending → Bool
is_squash (ending.Squashed cycle) = true
is_squash ending.InFlight = false
is_squash (ending.Retired order cycle written next) = false
is_squash (ending.Trapped cycle cause) = false

-- the cycle in which it retired, if it did
abbrev pub retired_in : Ending → Option ℕ
retired_in (ending.Retired order cycle written next) = Some cycle
retired_in ending.InFlight = None
retired_in (ending.Trapped cycle cause) = None
retired_in (ending.Squashed cycle) = None

-- the cycle in which it left the hardware, if it did
abbrev pub left_in : Ending → Option ℕ
left_in ending.InFlight = None
left_in (ending.Retired order cycle written next) = Some cycle
left_in (ending.Trapped cycle cause) = Some cycle
left_in (ending.Squashed cycle) = Some cycle

-- it did not leave the hardware yet
abbrev pub is_in_flight : Passage → Bool
is_in_flight p = is_running p.ending

-- it was not squashed
abbrev pub is_unsquashed : Passage → Bool
is_unsquashed p = not (is_squash p.ending)

-- the cycle in which a result was broadcast
abbrev pub broadcast_of : Stage → Option ℕ
broadcast_of stage = option_map (λ (execution : Execution). execution.broadcast) (execution_of stage)

-- no result is waited for
abbrev pub nothing_awaited : Producers
nothing_awaited = record { first = None; second = None }

-- the pc that was predicted after a word; where there is no word, nothing was
abbrev pub prediction_after : Option ℕ → ℕ → Option ℕ
prediction_after word next = option_map (λ (_ : ℕ). next) word

-- an instruction in the reorder buffer; a table gives it its number, its first prediction and its producers
abbrev pub of_entry : Entry → Passage
of_entry e = record {
  number = 0;
  pc = e.pc;
  word = e.word;
  instruction = e.instruction;
  predicted = prediction_after e.word e.predicted_next;
  fetched = e.fetched;
  dispatched = Some e.dispatched;
  producers = nothing_awaited;
  issue = issue_of e.stage;
  broadcast = broadcast_of e.stage;
  ending = ending.InFlight;
}

-- a word in the fetch buffer
abbrev pub of_fetched : Fetched → Passage
of_fetched f = record {
  number = 0;
  pc = f.pc;
  word = f.word;
  instruction = f.instruction;
  predicted = prediction_after f.word f.predicted;
  fetched = f.cycle;
  dispatched = None;
  producers = nothing_awaited;
  issue = None;
  broadcast = None;
  ending = ending.InFlight;
}

-- all that is in flight, oldest first
abbrev pub in_buffers : ReorderBuffer → FetchBuffer → List Passage
in_buffers rob front = map of_entry rob.entries ++ map of_fetched front.entries

-- that of the hardware
abbrev pub in_flight : Hardware → List Passage
in_flight h = in_buffers h.rob h.front

-- the start of an execution
abbrev pub start_of : Execution → Issue
start_of execution = record { cycle = execution.issued; cost = execution.cost }

-- it retired, so many before it, as its row reports, and the program went on at `next`
abbrev pub retired_by : Row → ℕ → ℕ → Passage → Passage
retired_by row order next p = record {
  number = p.number;
  pc = row.pc;
  word = Some row.word;
  instruction = p.instruction;
  predicted = p.predicted;
  fetched = row.fetched;
  dispatched = Some row.dispatched;
  producers = p.producers;
  issue = option_map start_of row.execution;
  broadcast = option_map (λ (execution : Execution). execution.broadcast) row.execution;
  ending = ending.Retired order row.retired row.written next;
}

-- it trapped in a cycle
abbrev pub trapped_by : Cause → ℕ → Passage → Passage
trapped_by cause cycle p = record p { ending = ending.Trapped cycle cause }

-- it was squashed in a cycle
abbrev pub squashed_in : ℕ → Passage → Passage
squashed_in cycle p = record p { ending = ending.Squashed cycle }

-- the same passage under a number
abbrev pub numbered : ℕ → Passage → Passage
numbered number p = record p { number = number }
