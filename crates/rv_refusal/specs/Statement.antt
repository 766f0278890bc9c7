-- The tokens of a line.
use Rattle.std.specs.Prelude.{ℕ, List, [], ◌∷◌, Option, Some, None, unwrap_or}
use Rattle.rv_asm.specs.Token.{Token, tokens_of}
use Rattle.rv_asm.specs.Token as token

-- the name that tokens begin with, if they do
abbrev pub first_name : List Token → Option (List ℕ)
first_name (token.Name name ∷ rest) = Some name
first_name _ = None

-- the tokens of a line; none of one that has bytes that are no token
abbrev pub tokens_on : List ℕ → List Token
tokens_on line = unwrap_or (tokens_of line) []
