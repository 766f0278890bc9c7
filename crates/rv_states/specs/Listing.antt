-- The line of a word of the program.
use Rattle.std.specs.Prelude.{ℕ, ◌-◌, ◌/◌, ◌==◌, Bool, true, false, not, if◌then◌else◌}
use Rattle.std.specs.Prelude.{List, [], ◌++◌, codes, Option, Some, None, option_map}
use Rattle.std.specs.List.{flat_map, range_with_len}
use Rattle.rv_isa.specs.declared.values.Values.{Values}
use Rattle.rv_source.specs.Listing.{Line, Listed, line_at}
use Rattle.rv_states.specs.Json.{also, begins, numeral, string}
use Rattle.rv_states.specs.Place.{word_address}

-- an address, and the number of the source line that its word comes from
unfoldable pub place_text : ℕ → ℕ → List ℕ
place_text address number = begins (codes "address") (numeral address) ++ also (codes "line") (numeral number)

-- a line's text, which stands at the first of its words alone
unfoldable pub statement_text : Bool → List ℕ → List ℕ
statement_text true text = also (codes "text") (string text)
statement_text false text = []

-- the line of a word: its place, and where it is the line's first word, what stands there
unfoldable pub line_text : Bool → ℕ → Line → List ℕ
line_text is_first address line = place_text address line.number ++ (statement_text is_first line.text ++ codes "}\n")

-- whether a word of a line is its first, where the word before comes from a line with this number, or from none
abbrev pub is_first_of : ℕ → Option ℕ → Bool
is_first_of number None = true
is_first_of number (Some before) = not (before == number)

-- the line of a word that comes from one, after a word of such a line
abbrev pub line_if : Option ℕ → ℕ → Option Line → List ℕ
line_if before address None = []
line_if before address (Some line) = line_text (is_first_of line.number before) address line

-- the line of the word at an address, or nothing where it comes from no source line
abbrev pub listing_line : Listed → Option ℕ → ℕ → List ℕ
listing_line listing before address = line_if before address (line_at listing address)

-- the number of the line that the word before a word of RAM comes from, if there is one
abbrev pub line_before : Listed → ℕ → ℕ → Option ℕ
line_before listing base number =
    if number == 0 then None else option_map (λ line. line.number) (line_at listing (word_address base (number - 1)))

-- the line of a word of RAM
abbrev pub numbered_line : Listed → ℕ → ℕ → List ℕ
numbered_line listing base number = listing_line listing (line_before listing base number) (word_address base number)

-- those of the words of RAM
unfoldable pub listing_lines : Listed → Values → List ℕ
listing_lines listing values = flat_map (numbered_line listing values.ram_base) (range_with_len 0 (values.ram_size / 4))
