-- Why a job is refused, for its reader.
use Rattle.std.specs.Prelude.{ℕ, Bool, List, [], ◌++◌, codes}
use Rattle.rv_asm.specs.Token.{Token}
use Rattle.rv_asm.specs.declared.fault.AsmError.{AsmError}
use Rattle.rv_job.specs.Parts.{parts_of}
use Rattle.rv_job.specs.declared.errors.SimError.{SimError}
use Rattle.rv_job.specs.declared.errors.SimError.TheVariants.{TooLong, Description, Arrivals, Assembly, ImageDoesNotFit}
use Rattle.rv_refusal.specs.Arrivals.{arrivals_lines}
use Rattle.rv_refusal.specs.Caret.{caret_line}
use Rattle.rv_refusal.specs.Described.{description_lines}
use Rattle.rv_refusal.specs.Expected.{expected}
use Rattle.rv_refusal.specs.Further.{further_lines}
use Rattle.rv_refusal.specs.Hint.{hint}
use Rattle.rv_refusal.specs.Lines.{line_at, lines_before}
use Rattle.rv_refusal.specs.Names.{symbols_at}
use Rattle.rv_refusal.specs.NameSet.{is_one_of}
use Rattle.rv_refusal.specs.Near.{nearest_line}
use Rattle.rv_refusal.specs.Place.{place_line, shown_line}
use Rattle.rv_refusal.specs.Separator.{later_hint, separator_question}
use Rattle.rv_refusal.specs.Statement.{tokens_on}
use Rattle.rv_refusal.specs.Unfit.{unfit_lines}

-- a fault of a line of these tokens, where these symbols are defined, with a caret below it, what was expected there, and
-- whether a separator is missing
unfoldable pub line_text : ℕ → AsmError → (List ℕ → Bool) → List ℕ → List Token → List ℕ
line_text before error defined line tokens =
    place_line before error.line error.fault
    ++ (shown_line line
    ++ (caret_line error.fault defined line tokens
    ++ (expected error.fault tokens ++ separator_question before line)))

-- the fault of an assembly that so many lines of the job stand before, the known names that are near, what to write
-- instead, and the lines after it at fault
unfoldable pub assembly_text : ℕ → List ℕ → AsmError → List ℕ
assembly_text before assembly error =
    let line = line_at error.line assembly in
    let tokens = tokens_on line in
    let symbols = symbols_at error.fault assembly in
    line_text before error (is_one_of symbols) line tokens
    ++ (nearest_line error.fault (is_one_of symbols) symbols tokens
    ++ (hint before error.fault (is_one_of symbols) line tokens ++ further_lines before error.line assembly))

-- why a job is refused; of assembly also which line is no separator for what stands beside its two bytes
unfoldable pub refusal_text : List ℕ → SimError → List ℕ
refusal_text text TooLong = codes "expected: at most 33554432 bytes\n"
refusal_text text (Description error) = description_lines (parts_of text).description error
refusal_text text (Arrivals error) = arrivals_lines (parts_of text) error
refusal_text text (Assembly error) =
    let assembly = (parts_of text).assembly in
    assembly_text (lines_before text assembly) assembly error
    ++ later_hint (lines_before text assembly) error.line assembly
refusal_text text (ImageDoesNotFit bytes ram) = unfit_lines bytes ram
refusal_text text _ = []
