-- What stands at the left of a row: the instruction's address, its statement, and the register that it wrote.
use Rattle.std.specs.Prelude.{ℕ, ◌-◌, ◌==◌, if◌then◌else◌, List, ◌++◌, length, take, codes, decimal, Option, Some, None}
use Rattle.rv_passage.specs.declared.passage.{Ending.Ending, Passage.Passage}
use Rattle.rv_passage.specs.Names.{register_name}
use Rattle.rv_passage.specs.declared.passage.Ending.TheVariants.{InFlight, Retired, Trapped, Squashed}
use Rattle.rv_drawing.specs.Shorter.{shortened}
use Rattle.rv_source.specs.Listing.{Listed}
use Rattle.rv_source.specs.Statement.{statement_at}
use Rattle.rv_text.specs.Line.{word_text}
use Rattle.rv_text.specs.Plain.{plain_byte}

-- a byte of a statement as an SVG has it
unfoldable pub markup_byte : ℕ → List ℕ
markup_byte byte =
    if byte == 38 then codes "&amp;"
    else if byte == 60 then codes "&lt;"
    else if byte == 62 then codes "&gt;"
    else if byte == 34 then codes "&quot;"
    else plain_byte byte

-- the statement of an instruction in at most 32 bytes
abbrev pub statement_of : Listed → Passage → List ℕ
statement_of listing passage = shortened (statement_at listing passage.pc passage.word)

-- what an instruction wrote, if it retired
abbrev pub written_by : Ending → Option (ℕ × ℕ)
written_by (Retired order cycle written next) = written
written_by InFlight = None
written_by (Trapped cycle cause) = None
written_by (Squashed cycle) = None

-- the register that was written, by its number and its name, with its value, or a hyphen
unfoldable pub written_text : Option (ℕ × ℕ) → List ℕ
written_text None = codes "-"
written_text (Some written) =
    codes "x" ++ (decimal written.0 ++ (codes "/" ++ (register_name written.0 ++ (codes "=" ++ word_text written.1))))

-- so many blanks, at most 40
unfoldable pub blanks : ℕ → List ℕ
blanks count = take count (codes "                                        ")

-- a text that takes so many columns, or more where it is longer
unfoldable pub padded : ℕ → List ℕ → List ℕ
padded width text = text ++ blanks (width - length text)
