-- Which line of a text each word of an image comes from.
use Rattle.std.specs.Prelude.{ℕ, ◌-◌, ◌/◌, List, if◌then◌else◌, nat_lt, Option, None, option_and_then}
use Rattle.std.specs.List.{slice_get}

-- a line of a text: its number, the first line being 1, and its bytes
pub record Line : Type 0 where
  pub number : ℕ
  pub text : List ℕ

-- the lines of the words of an image that begins at the base, in the order of their addresses; none for a word that
-- comes from no line
pub record Listed : Type 0 where
  pub base : ℕ
  pub words : List (Option Line)

-- the line of the word that holds the byte at an address
abbrev pub line_at : Listed → ℕ → Option Line
line_at listing address =
    if nat_lt address listing.base then None
    else option_and_then (λ line. line) (slice_get listing.words ((address - listing.base) / 4))
