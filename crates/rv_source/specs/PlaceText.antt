-- A place in a program, with the line of its text.
use Rattle.std.specs.Prelude.{ℕ, List, ◌++◌, codes, decimal, take, Option, Some, None}
use Rattle.rv_source.specs.Listing.{Line, Listed, line_at}
use Rattle.rv_text.specs.Line.{word_text}
use Rattle.rv_text.specs.Plain.{plain_text}

-- an address, and the number of its line
unfoldable pub number_text : List ℕ → ℕ → List ℕ
number_text address number = address ++ (codes ", line " ++ (decimal number ++ codes ": "))

-- an address, and its line with the first 64 bytes of its statement, in printing characters
unfoldable pub line_text : List ℕ → ℕ → List ℕ → List ℕ
line_text address number text = number_text address number ++ (plain_text (take 64 text) ++ codes "\n")

-- an address, and its line, or that there is none
unfoldable pub address_text : List ℕ → Option Line → List ℕ
address_text address (Some line) = line_text address line.number line.text
address_text address None = address ++ codes ", which no line of the program fills\n"

-- an address, and the line of the word there
unfoldable pub place_text : Listed → ℕ → List ℕ
place_text listing address = address_text (word_text address) (line_at listing address)
