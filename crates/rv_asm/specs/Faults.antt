-- The fault of a text.
use Rattle.std.specs.Prelude.{ℕ, ◌+◌, ◌%◌, ◌==◌, List, [], ◌∷◌, map, Bool, false, ◌&&◌, if◌then◌else◌}
use Rattle.std.specs.Prelude.{Option, Some, None, Result, Err, is_some, is_none, codes}
use Rattle.std.specs.{Option.option_map, Option.option_or, Result.result_err, Str.bytes_eq}
use Rattle.rv_asm.specs.Layout.{Line, Unreadable, Readable, Meanings, Layout, advance, defined, extended}
use Rattle.rv_asm.specs.Layout.{label_at, labelled, layout, number_of, unlaid, unless_too_large}
use Rattle.rv_asm.specs.Meaning.{line_cells, start_address}
use Rattle.rv_asm.specs.Operand.{Operand}
use Rattle.rv_asm.specs.Placed.{Placed, placed}
use Rattle.rv_asm.specs.Statement.{and_then, statement, needed, reading}
use Rattle.rv_asm.specs.Token.{Token}
use Rattle.rv_asm.specs.Token as token
use Rattle.rv_asm.specs.declared.{fault.AsmFault.AsmFault, reach.Reach.Reach}
use Rattle.rv_asm.specs.declared.{operation.Form.Form, symbols.Definition.Definition}
use Rattle.rv_asm.specs.declared.fault.AsmFault.TheVariants.{BadToken, BadOperands, DuplicateSymbol, Misaligned}

-- the fault of labels: one of them was defined before, or stands twice
abbrev pub label_fault : Meanings → Definition → List (List ℕ) → Option AsmFault
label_fault meanings here [] = None
label_fault meanings here (name ∷ names) =
    if is_some (meanings name) then Some DuplicateSymbol else label_fault (defined meanings name here) here names

-- the name right after .equ was defined before
abbrev pub redefines : Meanings → List Token → Bool
redefines meanings (token.Name directive ∷ token.Name name ∷ rest) =
    bytes_eq directive (codes ".equ") && is_some (meanings name)
redefines meanings _ = false

-- the symbol that li takes is no .equ of an earlier line
abbrev pub is_unmet : Meanings → Option (List ℕ) → Bool
is_unmet meanings None = false
is_unmet meanings (Some name) = is_none (number_of (meanings name))

-- how far the text has come after a form with its operands, if they have no fault and it is not too large then
abbrev pub moved : Meanings → Reach → Form → List Operand → Result Reach AsmFault
moved meanings reach form operands =
    if is_unmet meanings (needed form operands) then Err BadOperands
    else and_then (statement form operands) (λ said. unless_too_large (advance meanings said reach))

-- the fault of what stands after the labels
abbrev pub body_fault : Meanings → Reach → List Token → Option AsmFault
body_fault meanings reach body =
    if redefines meanings body then Some DuplicateSymbol
    else result_err (and_then (reading body) (λ read. moved meanings reach read.0 read.1))

-- what the first pass finds wrong with a line in view of the lines before it
abbrev pub first_fault : Layout → Line → Option AsmFault
first_fault layout Unreadable = Some BadToken
first_fault layout (Readable labels body) =
    option_or (label_fault layout.meanings (label_at layout.reach) labels)
    (body_fault (labelled layout.meanings (label_at layout.reach) labels) layout.reach body)

-- the fault that the second pass finds in a line: of its statement, or of the start where it defines _start
abbrev pub second_fault : ℕ → Layout → Placed → Option AsmFault
second_fault base whole line =
    option_or (result_err (line_cells base whole line))
    (if line.starts then (if start_address base whole % 4 == 0 then None else Some Misaligned) else None)

-- what the first pass finds in lines after a layout, each in view of the lines before it
abbrev pub first_faults : Layout → List Line → List (Option AsmFault)
first_faults layout [] = []
first_faults layout (line ∷ others) = first_fault layout line ∷ first_faults (extended layout line) others

-- the first fault of lines that are numbered from here on, with its number
abbrev pub earliest : ℕ → List (Option AsmFault) → Option (AsmFault × ℕ)
earliest number [] = None
earliest number (fault ∷ others) =
    option_or (option_map (λ found. (found, number)) fault) (earliest (number + 1) others)

-- the earliest fault of the first pass
abbrev pub first_fault_of : List Line → Option (AsmFault × ℕ)
first_fault_of lines = earliest 1 (first_faults unlaid lines)

-- the earliest fault of the second pass
abbrev pub second_fault_of : ℕ → List Line → Option (AsmFault × ℕ)
second_fault_of base lines = earliest 1 (map (second_fault base (layout lines)) (placed unlaid lines))

-- the fault of a text: the earliest of the first pass, else the earliest of the second
abbrev pub fault_of : ℕ → List Line → Option (AsmFault × ℕ)
fault_of base lines = option_or (first_fault_of lines) (second_fault_of base lines)
