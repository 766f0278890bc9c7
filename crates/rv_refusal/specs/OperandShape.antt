-- The shapes that the tokens of an operand may have, from its first one on.
use Rattle.std.specs.Prelude.{List, [], ◌∷◌, Bool, true, false, ◌&&◌}
use Rattle.rv_asm.specs.Token.{Token}
use Rattle.rv_asm.specs.Token as token

-- the token is a name or a number
abbrev pub is_word : Token → Bool
is_word (token.Name name) = true
is_word (token.Number number) = true
is_word _ = false

-- two names or numbers stand side by side
abbrev pub lacks_comma : List Token → Bool
lacks_comma (first ∷ second ∷ rest) = is_word first && is_word second
lacks_comma _ = false

-- nothing is left of an operand
abbrev pub is_ended : List Token → Bool
is_ended [] = true
is_ended (token.Comma ∷ rest) = true
is_ended _ = false

-- the operand at the front is a number
abbrev pub begins_with_number : List Token → Bool
begins_with_number (token.Number number ∷ rest) = is_ended rest
begins_with_number (token.Minus ∷ token.Number number ∷ rest) = is_ended rest
begins_with_number _ = false

-- a number and another operand after it stand at the front
abbrev pub stands_before_another : List Token → Bool
stands_before_another (token.Number number ∷ token.Comma ∷ rest) = true
stands_before_another (token.Minus ∷ token.Number number ∷ token.Comma ∷ rest) = true
stands_before_another _ = false

-- a name stands after a number, with a comma or nothing in the place of the parenthesis between them
abbrev pub lacks_opening : List Token → Bool
lacks_opening (token.Number number ∷ token.Name name ∷ rest) = true
lacks_opening (token.Number number ∷ token.Comma ∷ token.Name name ∷ rest) = true
lacks_opening (token.Minus ∷ token.Number number ∷ token.Name name ∷ rest) = true
lacks_opening (token.Minus ∷ token.Number number ∷ token.Comma ∷ token.Name name ∷ rest) = true
lacks_opening _ = false

-- the parenthesis after a name is missing at the end
abbrev pub lacks_closing : List Token → Bool
lacks_closing (token.LeftParenthesis ∷ token.Name name ∷ []) = true
lacks_closing (token.Number number ∷ token.LeftParenthesis ∷ token.Name name ∷ []) = true
lacks_closing _ = false

-- an offset with a register and another operand after it stand at the front
abbrev pub begins_with_address : List Token → Bool
begins_with_address
    (token.LeftParenthesis ∷ token.Name name ∷ token.RightParenthesis ∷ token.Comma ∷ rest) = true
begins_with_address
    (token.Number number ∷ token.LeftParenthesis ∷ token.Name name ∷ token.RightParenthesis ∷ token.Comma ∷ rest) = true
begins_with_address _ = false
