-- Where a line at fault stands.
use Rattle.std.specs.Prelude.{ℕ, ◌+◌, List, ◌++◌, codes, decimal}
use Rattle.rv_asm.specs.declared.fault.AsmFault.{AsmFault}
use Rattle.rv_asm.specs.FaultName.{fault_name}
use Rattle.rv_job.specs.Parts.{without_return}
use Rattle.rv_text.specs.Plain.{plain_text}

-- where a line stands of a part of the job, which has this name, and that so many lines of the job stand before
unfoldable pub line_place : List ℕ → ℕ → ℕ → List ℕ
line_place part before number =
    codes "line "
    ++ (decimal (before + number) ++ (codes " of the job, line " ++ (decimal number ++ (codes " of its " ++ part))))

-- where a line of the assembly stands that so many lines of the job stand before, and its fault
unfoldable pub place_line : ℕ → ℕ → AsmFault → List ℕ
place_line before number fault =
    line_place (codes "assembly") before number ++ (codes ": " ++ (fault_name fault ++ codes "\n"))

-- a line in printing characters, without the carriage return that may end it
unfoldable pub shown_line : List ℕ → List ℕ
shown_line line = codes "    " ++ (plain_text (without_return line) ++ codes "\n")
