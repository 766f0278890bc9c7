-- The events on the critical path that a picture marks.
use Rattle.std.specs.Prelude.{ℕ, ◌==◌, ◌&&◌, Bool, List, [], Option, unwrap_or}
use Rattle.std.specs.List.{list_any}
use Rattle.rv_drawing.specs.declared.mark.Mark.{Mark}

-- a mark is of an instruction's cell in a column
abbrev pub is_mark : ℕ → ℕ → Mark → Bool
is_mark number column mark = mark.number == number && mark.column == column

-- an instruction's cell in a column is marked
abbrev pub is_marked : List Mark → ℕ → ℕ → Bool
is_marked marks number column = list_any (is_mark number column) marks

-- the marks of a picture, which may ask for none
abbrev pub marks_in : Option (List Mark) → List Mark
marks_in marks = unwrap_or marks []
