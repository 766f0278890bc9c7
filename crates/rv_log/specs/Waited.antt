-- What an instruction waited for until it left the hardware, and in how many cycles: those in which a picture of it has
-- a `.` or a `~`.
use Rattle.std.specs.Prelude.{ℕ, ◌+◌, ◌-◌, ◌==◌, Bool, true, false, if◌then◌else◌, nat_lt}
use Rattle.std.specs.Prelude.{List, [], ◌∷◌, ◌++◌, codes, decimal, Option, Some, None}
use Rattle.rv_isa.specs.Instruction.{kind_of_word}
use Rattle.rv_drawing.specs.{Cell.is_past, Wait.result_text, Wait.unit_text}
use Rattle.rv_passage.specs.{Passage.left_in, Result.issued_in, Result.ready_in}
use Rattle.rv_passage.specs.declared.{passage.Passage.Passage, producers.Producer.Producer}
use Rattle.rv_log.specs.declared.wait.{Awaited.Awaited, Wait.Wait}
use Rattle.rv_log.specs.declared.wait.Awaited.TheVariants as awaited

-- a wait: the cycles from one on and before another
abbrev pub wait : ℕ → ℕ → Awaited → Wait
wait from until what = record { from = from; until = until; awaited = what }

-- how many these are
abbrev pub cycles_of : Wait → ℕ
cycles_of w = w.until - w.from

-- the cycle in which something came; where it did not come, that in which the instruction left
abbrev pub or_left : ℕ → Option ℕ → ℕ
or_left left None = left
or_left left (Some stamp) = stamp

-- the cycle after it
abbrev pub after_or_left : ℕ → Option ℕ → ℕ
after_or_left left None = left
after_or_left left (Some stamp) = stamp + 1

-- a broadcast came after another one, or did not come where that came
abbrev pub is_later : Option ℕ → Option ℕ → Bool
is_later broadcast None = false
is_later None (Some other) = true
is_later (Some broadcast) (Some other) = nat_lt other broadcast

-- the producer whose broadcast came last: of two that came together the first
abbrev pub last_of : Option Producer → Option Producer → Option Producer
last_of None second = second
last_of (Some first) None = Some first
last_of (Some first) (Some second) = if is_later second.broadcast first.broadcast then Some second else Some first

-- from a cycle on it waits for that, the cycle of the broadcast too; where there is none, in no cycle
abbrev pub operand_wait : ℕ → ℕ → Option Producer → Wait
operand_wait from left None = wait from from awaited.Unknown
operand_wait from left (Some producer) = wait from (after_or_left left producer.broadcast) (awaited.Operand producer)

-- after that until its issue it waits for a unit, or where it uses none for the head; of one that was dispatched before
-- a log began it is not known what for
abbrev pub issue_awaited : ℕ → Passage → Awaited
issue_awaited first p =
    if is_past first p.dispatched then awaited.Unknown else awaited.Unit (kind_of_word p.instruction)

-- the waits of an instruction that left in a cycle: between fetch and dispatch, from there for its operands, until its
-- issue, from the cycle in which its result is ready until the broadcast, and from there to its end
abbrev pub waits_of : ℕ → ℕ → Passage → List Wait
waits_of first left p =
    let operand = operand_wait (after_or_left left p.dispatched) left (last_of p.producers.first p.producers.second) in
    wait (p.fetched + 1) (or_left left p.dispatched) awaited.Dispatch ∷
    operand ∷
    wait operand.until (or_left left (issued_in p)) (issue_awaited first p) ∷
    wait (or_left left (ready_in p)) (or_left left p.broadcast) awaited.Bus ∷
    wait (after_or_left left p.broadcast) left awaited.Head ∷
    []

-- what it waits for
unfoldable pub awaited_text : Awaited → List ℕ
awaited_text awaited.Dispatch = codes "to dispatch"
awaited_text (awaited.Operand producer) = codes "for " ++ result_text producer.register producer.pc
awaited_text (awaited.Unit kind) = codes "for " ++ unit_text kind
awaited_text awaited.Unknown = codes "for operands, a unit or the head"
awaited_text awaited.Bus = codes "for the bus"
awaited_text awaited.Head = codes "for the head"

-- the name of what it waits for, which is a result, a unit or the head
unfoldable pub awaited_name : Awaited → List ℕ
awaited_name awaited.Dispatch = []
awaited_name (awaited.Operand producer) = result_text producer.register producer.pc
awaited_name (awaited.Unit kind) = unit_text kind
awaited_name awaited.Unknown = []
awaited_name awaited.Bus = []
awaited_name awaited.Head = []

-- a wait after some words
unfoldable pub wait_text : List ℕ → Wait → List ℕ
wait_text before w = (before ++ (decimal (cycles_of w) ++ codes " ")) ++ awaited_text w.awaited

-- waits one after another, the first of them after these words; one of no cycles is left out
unfoldable pub waits_text : List ℕ → List Wait → List ℕ
waits_text before [] = []
waits_text before (w ∷ ws) =
    if cycles_of w == 0 then waits_text before ws else wait_text before w ++ waits_text (codes ", ") ws

-- the first of them
unfoldable pub one_text : List ℕ → Wait → List ℕ
one_text before w = if cycles_of w == 0 then [] else wait_text before w

-- the words before the next one
unfoldable pub words_after : List ℕ → Wait → List ℕ
words_after before w = if cycles_of w == 0 then before else codes ", "

-- those of an instruction that left
unfoldable pub waited_until : ℕ → Option ℕ → Passage → List ℕ
waited_until first None p = []
waited_until first (Some left) p = waits_text (codes ", waited ") (waits_of first left p)

-- all that an instruction waited for, in a log from some cycle on
unfoldable pub waited_text : ℕ → Passage → List ℕ
waited_text first p = waited_until first (left_in p.ending) p
