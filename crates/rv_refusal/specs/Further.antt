-- The faults of the lines after the first fault.
use Rattle.std.specs.Prelude.{ℕ, ◌+◌, ◌-◌, ◌==◌, List, [], ◌∷◌, ◌++◌, length, take, drop}
use Rattle.std.specs.Prelude.{codes, decimal, if◌then◌else◌, Option, Some, None, nat_le}
use Rattle.std.specs.{List.flat_map, List.slice_split, Result.result_err}
use Rattle.rv_asm.specs.Layout.{Line, Unreadable, Readable, line_in, statement_in}
use Rattle.rv_asm.specs.declared.fault.AsmFault.{AsmFault}
use Rattle.rv_asm.specs.declared.fault.AsmFault.TheVariants.{BadToken}
use Rattle.rv_refusal.specs.declared.further.Faulty.{Faulty}
use Rattle.rv_refusal.specs.Place.{place_line}

-- the fault that a line has whatever stands on the others: it has bytes that are no token, or what stands after its
-- labels is no statement
abbrev pub fault_of_line : Line → Option AsmFault
fault_of_line Unreadable = Some BadToken
fault_of_line (Readable labels body) = result_err (statement_in body)

-- the line with a number, if it has a fault
abbrev pub faulty_by : ℕ → Option AsmFault → List Faulty
faulty_by number None = []
faulty_by number (Some fault) = record { number = number; fault = fault } ∷ []

-- of lines that are numbered from here on those that have a fault of their own
abbrev pub faulty_from : ℕ → List (List ℕ) → List Faulty
faulty_from number [] = []
faulty_from number (line ∷ others) = faulty_by number (fault_of_line (line_in line)) ++ faulty_from (number + 1) others

-- of the lines of a text after one with a number those that have a fault of their own
abbrev pub faulty_after : ℕ → List ℕ → List Faulty
faulty_after number text = faulty_from (number + 1) (drop number (slice_split (λ byte. byte == 10) text))

-- how many lines more have a fault than are shown
unfoldable pub more_line : ℕ → List ℕ
more_line count = if nat_le count 20 then [] else codes "and " ++ (decimal (count - 20) ++ codes " more\n")

-- the lines on lines with a fault, of an assembly that so many lines of the job stand before: the first twenty, and how many more
abbrev pub faulty_lines : ℕ → List Faulty → List ℕ
faulty_lines before lines =
    flat_map (λ line. place_line before line.number line.fault) (take 20 lines) ++ more_line (length lines)

-- the lines on those after the first fault
unfoldable pub further_lines : ℕ → ℕ → List ℕ → List ℕ
further_lines before number assembly = faulty_lines before (faulty_after number assembly)
