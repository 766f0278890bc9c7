-- The symbol of a line that was defined before.
use Rattle.std.specs.Prelude.{List, ◌∷◌, Bool, true, false, if◌then◌else◌, Option, Some, None, codes}
use Rattle.std.specs.Str.{bytes_eq}
use Rattle.rv_asm.specs.Token.{Token}
use Rattle.rv_asm.specs.Token as token

-- the tokens begin with a label, or with a directive that defines a symbol
abbrev pub defines : List Token → Bool
defines (token.Name label ∷ token.Colon ∷ rest) = true
defines (token.Name directive ∷ rest) = bytes_eq directive (codes ".equ")
defines _ = false

-- from the symbol on that a line defines, if it defines one alone
unfoldable pub definition_on : List Token → Option (List Token)
definition_on (token.Name label ∷ token.Colon ∷ rest) =
    if defines rest then None else Some (token.Name label ∷ token.Colon ∷ rest)
definition_on (token.Name directive ∷ rest) = Some rest
definition_on _ = None
