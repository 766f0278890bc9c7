-- What no line has: a byte that HTML gives a meaning, so that no text in it can become markup.
use Rattle.std.specs.Prelude.{◌≡◌, ℕ, ◌==◌, ◌||◌, Bool, false, List}
use Rattle.std.specs.List.{list_any}

-- an ampersand, a less-than or a greater-than sign
abbrev pub is_markup : ℕ → Bool
is_markup byte = (byte == 38) || ((byte == 60) || (byte == 62))

-- no byte of a text is one
pub record HasNoMarkup (text : List ℕ) : Type 0 where
  pub none : list_any is_markup text ≡ false
