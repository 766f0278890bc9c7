-- JSON (RFC 8259) in ASCII, which the lines are made of.
use Rattle.std.specs.Prelude.{ℕ, zero, suc, ◌+◌, ◌==◌, Bool, true, false, if◌then◌else◌}
use Rattle.std.specs.Prelude.{List, [], ◌∷◌, ◌++◌, codes, map, Option, Some, None}
use Rattle.std.specs.Int.Digits.{digits_of}
use Rattle.std.specs.List.{flat_map}
use Rattle.rv_text.specs.Plain.{plain_byte}

-- a JSON value, by its text
abbrev pub Json : Type 0
Json = List ℕ

-- a whole number in decimal digits, the highest first, with no zero before them
unfoldable pub numeral : ℕ → Json
numeral zero = codes "0"
numeral (suc n) = map (λ digit. 48 + digit) (digits_of 10 (suc n))

-- a truth value
unfoldable pub truth : Bool → Json
truth true = codes "true"
truth false = codes "false"

-- a string of characters that need no escape
unfoldable pub quoted : List ℕ → Json
quoted text = codes "\"" ++ (text ++ codes "\"")

-- A byte of a user's text in a string: what JSON or HTML gives a meaning by its code point, any other as pictures show it.
unfoldable pub json_byte : ℕ → List ℕ
json_byte byte =
    if byte == 34 then codes "\\u0022"
    else if byte == 38 then codes "\\u0026"
    else if byte == 60 then codes "\\u003c"
    else if byte == 62 then codes "\\u003e"
    else if byte == 92 then codes "\\u005c"
    else plain_byte byte

-- the string of a user's text
unfoldable pub string : List ℕ → Json
string text = codes "\"" ++ (flat_map json_byte text ++ codes "\"")

-- the brace of an object and the name of its first member
unfoldable pub opens : List ℕ → List ℕ
opens name = codes "{\"" ++ (name ++ codes "\":")

-- the brace of an object and its first member
unfoldable pub begins : List ℕ → Json → List ℕ
begins name value = opens name ++ value

-- the name of a further member
unfoldable pub key : List ℕ → List ℕ
key name = codes ",\"" ++ (name ++ codes "\":")

-- a further member
unfoldable pub also : List ℕ → Json → List ℕ
also name value = key name ++ value

-- a further member that is a number, where there is one
abbrev pub also_some : List ℕ → Option ℕ → List ℕ
also_some name None = []
also_some name (Some number) = also name (numeral number)

-- a comma before each value of an array but the first
unfoldable pub comma_at : ℕ → List ℕ
comma_at zero = []
comma_at (suc place) = codes ","

-- the values of an array from a place on
abbrev pub values_from : ℕ → List Json → List ℕ
values_from place [] = []
values_from place (value ∷ values) = (comma_at place ++ value) ++ values_from (place + 1) values

-- an array
unfoldable pub array : List Json → Json
array values = codes "[" ++ (values_from 0 values ++ codes "]")
