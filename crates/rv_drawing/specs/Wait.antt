-- The tip of a cell: what it is called, where a wait says what for. What a dispatched instruction waits for until its
-- issue stands here.
use Rattle.std.specs.Prelude.{ℕ, if◌then◌else◌, List, [], ◌++◌, codes, decimal, Option, Some, None}
use Rattle.rv_isa.specs.Instruction.{kind_of_word}
use Rattle.rv_isa.specs.declared.operations.Kind.{Kind}
use Rattle.rv_isa.specs.declared.operations.Kind.TheVariants as kind
use Rattle.rv_hardware.specs.declared.report.Stall.{Stall}
use Rattle.rv_passage.specs.Names.{register_name}
use Rattle.rv_passage.specs.declared.{passage.Passage.Passage, producers.Producer.Producer}
use Rattle.rv_drawing.specs.Cell.{is_dispatch_wait, is_past, is_issue_wait, name_of}
use Rattle.rv_drawing.specs.Room.{dispatch_wait}
use Rattle.rv_drawing.specs.declared.{cell.Cell.Cell, window.Window.Window}
use Rattle.rv_drawing.specs.declared.cell.Cell.TheVariants as cell
use Rattle.rv_text.specs.Line.{word_text}

-- a producer, unless its broadcast came before a cycle
abbrev pub awaited : ℕ → Option Producer → Option Producer
awaited cycle None = None
awaited cycle (Some producer) = if is_past cycle producer.broadcast then None else Some producer

-- a register, and the address of the instruction that writes it
unfoldable pub result_text : ℕ → ℕ → List ℕ
result_text register pc =
    codes "x" ++ (decimal register ++ (codes "/" ++ (register_name register ++ (codes " of " ++ word_text pc))))

-- a producer after some words
unfoldable pub producer_text : List ℕ → Producer → List ℕ
producer_text before producer = before ++ result_text producer.register producer.pc

-- what an instruction of a kind waits for until its issue where it waits for no result; of no kind it waits for its end
unfoldable pub unit_text : Option Kind → List ℕ
unit_text None = codes "the head"
unit_text (Some kind.Alu) = codes "a unit"
unit_text (Some kind.Mul) = codes "a unit"
unit_text (Some kind.Div) = codes "a unit"
unit_text (Some kind.Mem) = codes "a unit, the port or older stores"

-- where it may wait for one result alone
unfoldable pub one_wait : Option Kind → Option Producer → List ℕ
one_wait kind None = codes "wait for " ++ unit_text kind
one_wait kind (Some producer) = producer_text (codes "wait for ") producer

-- a second result
unfoldable pub second_wait : Option Producer → List ℕ
second_wait None = []
second_wait (Some producer) = producer_text (codes " and ") producer

-- the results that it waits for
unfoldable pub operand_wait : Option Kind → Option Producer → Option Producer → List ℕ
operand_wait kind None second = one_wait kind second
operand_wait kind (Some first) second = producer_text (codes "wait for ") first ++ second_wait second

-- what an instruction waits for in a cycle; of one that was dispatched before the window that is not known
unfoldable pub issue_wait : Window → Passage → ℕ → List ℕ
issue_wait window passage cycle =
    if is_past window.first passage.dispatched then name_of cell.IssueWait
    else operand_wait (kind_of_word passage.instruction) (awaited cycle passage.producers.first)
    (awaited cycle passage.producers.second)

-- the tip of a cell of an instruction among others, in a cycle in which the oldest fetched word waits for something
unfoldable pub tip_of : Window → List Passage → Option Stall → Passage → ℕ → Cell → List ℕ
tip_of window passages reason passage cycle shown =
    if is_issue_wait shown then issue_wait window passage cycle
    else if is_dispatch_wait shown then dispatch_wait passages reason passage.number cycle
    else name_of shown
