-- An instruction in the reorder buffer, but for what it reads, as JSON.
use Rattle.std.specs.Prelude.{ℕ, List, [], ◌++◌, codes, Option, Some, None, option_map, option_and_then}
use Rattle.rv_isa.specs.Cause.{code_of}
use Rattle.rv_isa.specs.Instruction.{kind_of_word, target_of_word}
use Rattle.rv_isa.specs.Key.{kind_name}
use Rattle.rv_isa.specs.declared.{broadcast.Message.Message, causes.Fault.Fault}
use Rattle.rv_isa.specs.declared.{issues.Issue.Issue, operations.Kind.Kind}
use Rattle.rv_hardware.specs.InFlight.{broadcast_of}
use Rattle.rv_rob.specs.Entry.{issue_of}
use Rattle.rv_rob.specs.declared.entry.{Entry.Entry, Stage.Stage}
use Rattle.rv_rob.specs.declared.entry.Stage.TheVariants.{Waiting, Running, Finished}
use Rattle.rv_states.specs.Json.{also, also_some, begins, numeral, quoted}

-- its sequence number, what was fetched and predicted, and the register that it writes
unfoldable pub head_text : ℕ → Entry → List ℕ
head_text number e =
    begins (codes "sequence") (numeral number) ++
    (also (codes "pc") (numeral e.pc) ++
    (also_some (codes "word") e.word ++
    (also (codes "fetched") (numeral e.fetched) ++
    (also (codes "dispatched") (numeral e.dispatched) ++
    (also (codes "predicted") (numeral e.predicted_next) ++
    also_some (codes "target") (target_of_word e.instruction))))))

-- the kind of unit that it uses
unfoldable pub kind_text : Option Kind → List ℕ
kind_text None = []
kind_text (Some kind) = also (codes "kind") (quoted (kind_name kind))

-- the cycle in which its result was known
abbrev pub finished_in : Stage → Option ℕ
finished_in Waiting = None
finished_in (Running issue message) = None
finished_in (Finished issue cycle message) = Some cycle

-- the fault that its result reports
abbrev pub fault_of : Stage → Option Fault
fault_of stage = option_and_then (λ (message : Message). message.fault) (broadcast_of stage)

-- the cycle in which its execution began
abbrev pub issued_in : Stage → Option ℕ
issued_in stage = option_map (λ (issue : Issue). issue.cycle) (issue_of stage)

-- the cost of its execution
abbrev pub cost_of : Stage → Option ℕ
cost_of stage = option_map (λ (issue : Issue). issue.cost) (issue_of stage)

-- the value that its result has
abbrev pub value_of : Stage → Option ℕ
value_of stage = option_map (λ (message : Message). message.value) (broadcast_of stage)

-- the pc that comes after it
abbrev pub next_pc_of : Stage → Option ℕ
next_pc_of stage = option_map (λ (message : Message). message.next_pc) (broadcast_of stage)

-- the cause of its fault
abbrev pub cause_of : Stage → Option ℕ
cause_of stage = option_map (λ (fault : Fault). code_of fault.cause) (fault_of stage)

-- the word that its fault gives mtval
abbrev pub fault_value_of : Stage → Option ℕ
fault_value_of stage = option_map (λ (fault : Fault). fault.value) (fault_of stage)

-- how far it has come: the start and the cost of its execution, and its result
unfoldable pub stage_text : Stage → List ℕ
stage_text stage =
    also_some (codes "issued") (issued_in stage) ++
    (also_some (codes "cost") (cost_of stage) ++
    (also_some (codes "finished") (finished_in stage) ++
    (also_some (codes "value") (value_of stage) ++
    (also_some (codes "next_pc") (next_pc_of stage) ++
    (also_some (codes "cause") (cause_of stage) ++
    also_some (codes "mtval") (fault_value_of stage))))))

-- an instruction by its sequence number, but for what it reads
unfoldable pub entry_text : ℕ → Entry → List ℕ
entry_text number e = head_text number e ++ (kind_text (kind_of_word e.instruction) ++ stage_text e.stage)
