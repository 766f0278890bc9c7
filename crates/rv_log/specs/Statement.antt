-- The statement of an instruction, as a log shows it.
use Rattle.std.specs.Prelude.{ℕ, ◌&&◌, Bool, nat_le, List, take}
use Rattle.rv_passage.specs.declared.passage.Passage.{Passage}
use Rattle.rv_source.specs.Listing.{Listed}
use Rattle.rv_source.specs.Statement.{statement_at}
use Rattle.rv_text.specs.Plain.{plain_text}

-- a printing character of ASCII
abbrev pub is_printing : ℕ → Bool
is_printing byte = nat_le 32 byte && nat_le byte 126

-- the text of the line that it comes from, or the word that was fetched, at most 64 bytes of it
abbrev pub shown_of : Listed → Passage → List ℕ
shown_of listing passage = take 64 (statement_at listing passage.pc passage.word)

-- that in printing characters
abbrev pub statement_text : Listed → Passage → List ℕ
statement_text listing passage = plain_text (shown_of listing passage)
