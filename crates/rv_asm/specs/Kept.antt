-- The lines that the program keeps: those with a statement, and those that define _start. No public clause names these.
use denote.Ref.{Bor}
use Rattle.std.specs.Prelude.{ℕ, ◌+◌, ◌==◌, ◌&&◌, List, [], ◌∷◌, ◌++◌, map, Bool, true}
use Rattle.std.specs.Prelude.{false, not, if◌then◌else◌, Option, None, Some, Result, Ok}
use Rattle.std.specs.{List.slice_split, Option.option_map, Option.option_or}
use Rattle.rv_asm.specs.Layout.{Layout, extended, line_in}
use Rattle.rv_asm.specs.Placed.{Placed, place}
use Rattle.rv_asm.specs.Statement.{Statement, Nothing}
use Rattle.rv_asm.specs.declared.fault.AsmFault.{AsmFault}

-- a line where it stands, with its number and its bytes
pub record Kept : Type 0 where
  pub number : ℕ
  pub bytes : List ℕ
  pub place : Placed

-- there is no statement, or one without effect
abbrev pub says_nothing : Result Statement AsmFault → Bool
says_nothing (Ok Nothing) = true
says_nothing _ = false

-- the second pass has nothing to do in the line
abbrev pub is_idle : Placed → Bool
is_idle line = says_nothing line.statement && not line.starts

-- what is kept of a line
abbrev pub keep : ℕ → List ℕ → Placed → List Kept
keep number bytes place = if is_idle place then [] else record { number = number; bytes = bytes; place = place } ∷ []

-- what is kept of lines after a layout, numbered from here on
abbrev pub kept : ℕ → Layout → List (List ℕ) → List Kept
kept number layout [] = []
kept number layout (bytes ∷ others) =
    keep number bytes (place layout.reach (line_in bytes)) ++ kept (number + 1) (extended layout (line_in bytes)) others

-- the lines that are left, if a line feed stood before them
abbrev pub lines_left : Option (Bor (List ℕ)) → List (List ℕ)
lines_left None = []
lines_left (Some text) = slice_split (λ byte. byte == 10) text.now

-- the lines where they stand
abbrev pub places : List Kept → List Placed
places lines = map (λ line. line.place) lines

-- the first line with a fault, by its number
abbrev pub first_with_fault : (Placed → Option AsmFault) → List Kept → Option (AsmFault × ℕ)
first_with_fault fault [] = None
first_with_fault fault (line ∷ others) =
    option_or (option_map (λ found. (found, line.number)) (fault line.place)) (first_with_fault fault others)
