-- A user's text as it is shown: no byte of it may steer a terminal.
use Rattle.std.specs.Prelude.{ℕ, ◌==◌, ◌&&◌, if◌then◌else◌, nat_le, List, [], ◌∷◌, codes}
use Rattle.std.specs.List.{flat_map}

-- a printing character of ASCII stands for itself, a blank for a tab, and a question mark for any other byte
unfoldable pub plain_byte : ℕ → List ℕ
plain_byte byte =
    if nat_le 32 byte && nat_le byte 126 then byte ∷ []
    else if byte == 9 then codes " "
    else codes "?"

-- a text in printing characters
abbrev pub plain_text : List ℕ → List ℕ
plain_text text = flat_map plain_byte text
