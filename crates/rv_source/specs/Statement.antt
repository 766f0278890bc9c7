-- How an instruction is reported: by the line that it comes from.
use Rattle.std.specs.Prelude.{ℕ, List, codes, Option, Some, None, option_map}
use Rattle.rv_source.specs.Listing.{Listed, line_at}
use Rattle.rv_text.specs.Line.{word_text}

-- the text of the line of the word that holds the byte at an address
abbrev pub text_at : Listed → ℕ → Option (List ℕ)
text_at listing address = option_map (λ line. line.text) (line_at listing address)

-- a text, or a word in digits where there is none, or a hyphen
unfoldable pub text_or_word : Option (List ℕ) → Option ℕ → List ℕ
text_or_word (Some text) word = text
text_or_word None (Some word) = word_text word
text_or_word None None = codes "-"

-- the statement of an instruction at an address, where a word was fetched or none
abbrev pub statement_at : Listed → ℕ → Option ℕ → List ℕ
statement_at listing address word = text_or_word (text_at listing address) word
