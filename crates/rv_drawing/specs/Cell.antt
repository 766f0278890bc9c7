-- What a picture shows of an instruction in a cycle.
use Rattle.std.specs.Prelude.{ℕ, ◌+◌, ◌==◌, ◌&&◌, ◌||◌, Bool, true, false, not}
use Rattle.std.specs.Prelude.{if◌then◌else◌, nat_lt, List, codes, Option, Some, None}
use Rattle.rv_passage.specs.declared.passage.{Ending.Ending, Passage.Passage}
use Rattle.rv_passage.specs.declared.passage.Ending.TheVariants.{InFlight, Retired, Trapped, Squashed}
use Rattle.rv_passage.specs.{Passage.left_in, Result.issued_in, Result.waits_for_bus}
use Rattle.rv_drawing.specs.declared.{cell.Cell.Cell, window.Window.Window}
use Rattle.rv_drawing.specs.declared.cell.Cell.TheVariants as cell

-- a phase came in this cycle
abbrev pub is_at : ℕ → Option ℕ → Bool
is_at cycle None = false
is_at cycle (Some stamp) = stamp == cycle

-- a phase came before this cycle
abbrev pub is_past : ℕ → Option ℕ → Bool
is_past cycle None = false
is_past cycle (Some stamp) = nat_lt stamp cycle

-- what is shown in that cycle
abbrev pub mark_of : Ending → Cell
mark_of (Retired order cycle written next) = cell.Retirement
mark_of (Trapped cycle cause) = cell.Trap
mark_of (Squashed cycle) = cell.Squash
mark_of InFlight = cell.DispatchWait

-- what an instruction waits for where nothing is done with it: its dispatch, its issue, or its end
abbrev pub wait_of : Passage → ℕ → Cell
wait_of passage cycle =
    if is_past cycle passage.broadcast then cell.HeadWait
    else if is_past cycle passage.dispatched then cell.IssueWait
    else cell.DispatchWait

-- what is shown in the cycles before: the last phase of the cycle, else whether its result waits for the bus, or it executes
unfoldable pub phase_of : Passage → ℕ → Cell
phase_of passage cycle =
    if is_at cycle passage.broadcast then cell.Broadcast
    else if is_at cycle (issued_in passage) then cell.Issue
    else if is_at cycle passage.dispatched then cell.Dispatch
    else if passage.fetched == cycle then cell.Fetch
    else if waits_for_bus passage cycle then cell.BusWait
    else if is_past cycle (issued_in passage) && not (is_past cycle passage.broadcast) then cell.Execution
    else wait_of passage cycle

-- nothing before the fetch and after the end
unfoldable pub cell_of : Passage → ℕ → Option Cell
cell_of passage cycle =
    if nat_lt cycle passage.fetched || is_past cycle (left_in passage.ending) then None
    else if is_at cycle (left_in passage.ending) then Some (mark_of passage.ending)
    else Some (phase_of passage cycle)

-- an instruction shows something in a window: it was fetched before the window's end, and did not end before its begin
unfoldable pub has_cell : Window → Passage → Bool
has_cell window passage =
    nat_lt 0 window.cycles && nat_lt passage.fetched (window.first + window.cycles)
    && not (is_past window.first (left_in passage.ending))

-- the letter of a cell
unfoldable pub letter_of : Cell → List ℕ
letter_of cell.Fetch = codes "F"
letter_of cell.Dispatch = codes "D"
letter_of cell.Issue = codes "I"
letter_of cell.Execution = codes "="
letter_of cell.BusWait = codes "~"
letter_of cell.Broadcast = codes "B"
letter_of cell.Retirement = codes "C"
letter_of cell.Trap = codes "T"
letter_of cell.Squash = codes "x"
letter_of cell.DispatchWait = codes "."
letter_of cell.IssueWait = codes "."
letter_of cell.HeadWait = codes "."

-- the letter of a cell that is marked: a small one, or a star where it has no capital letter
unfoldable pub marked_letter_of : Cell → List ℕ
marked_letter_of cell.Fetch = codes "f"
marked_letter_of cell.Dispatch = codes "d"
marked_letter_of cell.Issue = codes "i"
marked_letter_of cell.Execution = codes "*"
marked_letter_of cell.BusWait = codes "*"
marked_letter_of cell.Broadcast = codes "b"
marked_letter_of cell.Retirement = codes "c"
marked_letter_of cell.Trap = codes "t"
marked_letter_of cell.Squash = codes "*"
marked_letter_of cell.DispatchWait = codes "*"
marked_letter_of cell.IssueWait = codes "*"
marked_letter_of cell.HeadWait = codes "*"

-- the letter of a cell that may be marked
abbrev pub letter_by : Bool → Cell → List ℕ
letter_by is_marked cell = if is_marked then marked_letter_of cell else letter_of cell

-- what a cell is called
unfoldable pub name_of : Cell → List ℕ
name_of cell.Fetch = codes "fetch"
name_of cell.Dispatch = codes "dispatch"
name_of cell.Issue = codes "issue"
name_of cell.Execution = codes "execution"
name_of cell.BusWait = codes "wait for the bus"
name_of cell.Broadcast = codes "broadcast"
name_of cell.Retirement = codes "retirement"
name_of cell.Trap = codes "trap"
name_of cell.Squash = codes "squash"
name_of cell.DispatchWait = codes "wait for room or its turn to dispatch"
name_of cell.IssueWait = codes "wait for operands, a unit or the head"
name_of cell.HeadWait = codes "wait for the head"

-- a dispatched instruction waits to be issued
abbrev pub is_issue_wait : Cell → Bool
is_issue_wait cell.IssueWait = true
is_issue_wait cell.Fetch = false
is_issue_wait cell.Dispatch = false
is_issue_wait cell.Issue = false
is_issue_wait cell.Execution = false
is_issue_wait cell.BusWait = false
is_issue_wait cell.Broadcast = false
is_issue_wait cell.Retirement = false
is_issue_wait cell.Trap = false
is_issue_wait cell.Squash = false
is_issue_wait cell.DispatchWait = false
is_issue_wait cell.HeadWait = false

-- a fetched word waits to be dispatched
abbrev pub is_dispatch_wait : Cell → Bool
is_dispatch_wait cell.DispatchWait = true
is_dispatch_wait cell.Fetch = false
is_dispatch_wait cell.Dispatch = false
is_dispatch_wait cell.Issue = false
is_dispatch_wait cell.Execution = false
is_dispatch_wait cell.BusWait = false
is_dispatch_wait cell.Broadcast = false
is_dispatch_wait cell.Retirement = false
is_dispatch_wait cell.Trap = false
is_dispatch_wait cell.Squash = false
is_dispatch_wait cell.IssueWait = false
is_dispatch_wait cell.HeadWait = false

-- there is a cell, and it is of a sort
abbrev pub shows : (Cell → Bool) → Option Cell → Bool
shows is_such None = false
shows is_such (Some cell) = is_such cell

-- the class of a cell in the style of an SVG
unfoldable pub class_of : Cell → List ℕ
class_of cell.Fetch = codes "f"
class_of cell.Dispatch = codes "d"
class_of cell.Issue = codes "i"
class_of cell.Execution = codes "e"
class_of cell.BusWait = codes "r"
class_of cell.Broadcast = codes "b"
class_of cell.Retirement = codes "c"
class_of cell.Trap = codes "t"
class_of cell.Squash = codes "x"
class_of cell.DispatchWait = codes "w"
class_of cell.IssueWait = codes "w"
class_of cell.HeadWait = codes "w"
