-- The lines of a text in their places.
use Rattle.std.specs.Prelude.{ℕ, List, [], ◌∷◌, Bool, false, ◌||◌, Result, Ok, Err, codes}
use Rattle.std.specs.{List.list_any, Str.bytes_eq}
use Rattle.rv_asm.specs.Layout.{Line, Unreadable, Readable, Layout, extended, statement_in}
use Rattle.rv_asm.specs.Statement.{Statement, Constant}
use Rattle.rv_asm.specs.declared.{fault.AsmFault.AsmFault, reach.Reach.Reach}
use Rattle.rv_asm.specs.declared.fault.AsmFault.TheVariants.{BadToken}

-- the name of the symbol where execution starts
abbrev pub is_start : List ℕ → Bool
is_start name = bytes_eq name (codes "_start")

-- a .equ defines _start
abbrev pub constant_starts : Result Statement AsmFault → Bool
constant_starts (Ok (Constant name number)) = is_start name
constant_starts _ = false

-- a line where it stands: how far the text has come before it, whether it defines _start, and its statement
pub record Placed : Type 0 where
  pub reach : Reach
  pub starts : Bool
  pub statement : Result Statement AsmFault

-- what stands after labels, in its place
abbrev pub place_body : Reach → Bool → Result Statement AsmFault → Placed
place_body reach label_starts statement =
    record { reach = reach; starts = label_starts || constant_starts statement; statement = statement }

-- a label of a line is _start
abbrev pub label_starts : Line → Bool
label_starts Unreadable = false
label_starts (Readable labels body) = list_any is_start labels

-- the statement of a line
abbrev pub statement_on : Line → Result Statement AsmFault
statement_on Unreadable = Err BadToken
statement_on (Readable labels body) = statement_in body

-- a line in its place
abbrev pub place : Reach → Line → Placed
place reach line = place_body reach (label_starts line) (statement_on line)

-- lines after a layout, each where it stands
abbrev pub placed : Layout → List Line → List Placed
placed layout [] = []
placed layout (line ∷ others) = place layout.reach line ∷ placed (extended layout line) others
