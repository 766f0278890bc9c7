-- The parts of a job: description, arrivals and assembly, with a separator between two.
use Rattle.std.specs.Prelude.{ℕ, ◌-◌, List, [], ◌∷◌, ◌++◌, Bool, ◌==◌, ◌||◌, if◌then◌else◌}
use Rattle.std.specs.Prelude.{Option, Some, None, codes, drop, length, take}
use Rattle.std.specs.{List.before_first, List.after_first, Option.option_map}
use Rattle.std.specs.{Option.option_map_or, Option.option_or, Str.bytes_eq}

-- the byte at which a line ends
abbrev pub is_line_feed : ℕ → Bool
is_line_feed byte = byte == 10

-- a line is `%%`, after which a carriage return may stand
abbrev pub is_separator : List ℕ → Bool
is_separator line = bytes_eq line (codes "%%") || bytes_eq line (codes "%%\r")

-- a line without the carriage return that may end it
unfoldable pub without_return : List ℕ → List ℕ
without_return line =
    let count = length line - 1 in
    if bytes_eq (drop count line) (codes "\r") then take count line else line

-- a text without the byte order mark that may stand before it
unfoldable pub without_mark : List ℕ → List ℕ
without_mark text = if bytes_eq (take 3 text) (239 ∷ 187 ∷ 191 ∷ []) then drop 3 text else text

-- what stands after the first line of a text, where that line is a separator
unfoldable pub after_separator : List ℕ → Option (List ℕ)
after_separator text =
    if is_separator (before_first is_line_feed text) then Some (after_first is_line_feed text) else None

-- what stands before a separator, and after it
pub record Halves : Type 0 where
  pub before : List ℕ
  pub after : List ℕ

-- the halves, with more bytes at the front
abbrev pub preceded : List ℕ → Halves → Halves
preceded bytes halves = record { before = bytes ++ halves.before; after = halves.after }

-- the halves of a text whose first line is a separator
abbrev pub halves_at_front : List ℕ → Option Halves
halves_at_front text = option_map (λ after. record { before = []; after = after }) (after_separator text)

-- the halves of a text at the first separator after one of its line feeds
unfoldable pub later_halves : List ℕ → Option Halves
later_halves [] = None
later_halves (byte ∷ later) =
    option_map (preceded (byte ∷ []))
    (option_or (if is_line_feed byte then halves_at_front later else None) (later_halves later))

-- the halves of a text at its first separator
unfoldable pub halves_of : List ℕ → Option Halves
halves_of text = option_or (halves_at_front text) (later_halves text)

-- the three parts of a job
pub record Parts : Type 0 where
  pub description : List ℕ
  pub arrivals : List ℕ
  pub assembly : List ℕ

-- a text without separator is assembly
abbrev pub assembly_alone : List ℕ → Parts
assembly_alone text = record { description = []; arrivals = []; assembly = text }

-- what stands after the first separator: arrivals and assembly, or assembly where there is no other separator
abbrev pub parts_after : List ℕ → List ℕ → Parts
parts_after description after =
    option_map_or (λ halves. record { description = description; arrivals = halves.before; assembly = halves.after })
    (halves_of after) (record { description = description; arrivals = []; assembly = after })

-- the parts of a text; a part that is missing is empty
unfoldable pub parts_of : List ℕ → Parts
parts_of text = option_map_or (λ halves. parts_after halves.before halves.after) (halves_of text) (assembly_alone text)
