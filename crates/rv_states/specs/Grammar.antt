-- What JSON is (RFC 8259), as far as the lines need it: in ASCII, with whole numbers, and no blank between two tokens.
use Rattle.std.specs.Prelude.{◌≡◌, ℕ, ◌==◌, ◌&&◌, ◌||◌, Bool, not, true, nat_le, List, [], ◌∷◌, ◌++◌, codes}
use Rattle.std.specs.Char.{is_ascii_digit, is_digit}
use Rattle.std.specs.List.{list_all}

-- a number (6): zero, or digits that begin with another one
pub data IsNumber : List ℕ → Type 0 where
  zero_alone : IsNumber (codes "0")
  digits : (first : ℕ) (others : List ℕ) → (nat_le 49 first && nat_le first 57) ≡ true →
      list_all is_ascii_digit others ≡ true →
      IsNumber (first ∷ others)

-- a character that stands for itself in a string (7): a printing one, and neither a quote nor a backslash
abbrev pub is_unescaped : ℕ → Bool
is_unescaped byte = (nat_le 32 byte && nat_le byte 126) && not ((byte == 34) || (byte == 92))

-- the characters of a string (7), some of them by their code point in two hexadecimal digits after two zeros
pub data AreCharacters : List ℕ → Type 0 where
  no_characters : AreCharacters []
  unescaped : (byte : ℕ) (others : List ℕ) → is_unescaped byte ≡ true → AreCharacters others →
      AreCharacters (byte ∷ others)
  escaped : (high low : ℕ) (others : List ℕ) → (is_digit high 16 && is_digit low 16) ≡ true → AreCharacters others →
      AreCharacters (codes "\\u00" ++ (high ∷ low ∷ others))

-- a string (7)
pub data IsString : List ℕ → Type 0 where
  in_quotes : (characters : List ℕ) → AreCharacters characters → IsString (codes "\"" ++ (characters ++ codes "\""))

mutual
  -- a value (3)
  pub data IsJson : List ℕ → Type 0 where
    truth : IsJson (codes "true")
    falsehood : IsJson (codes "false")
    number : (text : List ℕ) → IsNumber text → IsJson text
    string : (text : List ℕ) → IsString text → IsJson text
    empty_array : IsJson (codes "[]")
    array : (value others : List ℕ) → IsJson value → AreValues others →
        IsJson (codes "[" ++ (value ++ (others ++ codes "]")))
    object : (member others : List ℕ) → IsMember member → AreMembers others →
        IsJson (codes "{" ++ (member ++ (others ++ codes "}")))

  -- further values of an array (5)
  pub data AreValues : List ℕ → Type 0 where
    no_values : AreValues []
    further_value : (value others : List ℕ) → IsJson value → AreValues others →
        AreValues (codes "," ++ (value ++ others))

  -- a member of an object (4)
  pub data IsMember : List ℕ → Type 0 where
    named : (name value : List ℕ) → IsString name → IsJson value → IsMember (name ++ (codes ":" ++ value))

  -- further members of an object
  pub data AreMembers : List ℕ → Type 0 where
    no_members : AreMembers []
    further_member : (member others : List ℕ) → IsMember member → AreMembers others →
        AreMembers (codes "," ++ (member ++ others))

-- JSON values, each with a line feed after it
pub data AreLines : List ℕ → Type 0 where
  no_lines : AreLines []
  line : (value others : List ℕ) → IsJson value → AreLines others → AreLines (value ++ (codes "\n" ++ others))
