-- The symbols of the program, and its layout.
use Rattle.std.specs.Prelude.{ℕ, ℤ, ◌++◌, List, Option, Result, map}
use Rattle.std.specs.{BTreeMap.get_by, Cmp.Lexicographic.slice_cmp, Ordering.nat_cmp}
use Rattle.rv_asm.specs.Faults.{second_fault}
use Rattle.rv_asm.specs.Kept.{Kept, first_with_fault, places}
use Rattle.rv_asm.specs.Layout.{Layout, line_in}
use Rattle.rv_asm.specs.Meaning.{Cell, after_text, cells_at, contents, value_of}
use Rattle.rv_asm.specs.Placed.{Placed, place}
use Rattle.rv_asm.specs.Statement.{Statement}
use Rattle.rv_asm.specs.declared.{fault.AsmFault.AsmFault, record.Record.Record, program.Program.Program}
use Rattle.rv_asm.specs.declared.{reach.Reach.Reach, symbols.Definition.Definition, symbols.Symbols.Symbols}
use Rattle.rv_asm.specs.declared.operation.Section.TheVariants.{Text, Data}
use Rattle.rv_asm.specs.declared.layout.Layout as read

-- what the program holds of a name
abbrev pub found : Symbols → List ℕ → Option Definition
found symbols name = get_by (λ key. slice_cmp nat_cmp name key.now) symbols.defined

-- the value of a name
abbrev pub value_in : Program → List ℕ → Option ℤ
value_in program = value_of program.base program.layout.now.reach.text_size (found program.layout.now.symbols)

-- what the layout of the program stands for
abbrev pub layout_of : read.Layout → Layout
layout_of program = record { reach = program.reach; meanings = found program.symbols }

-- where a line of the program stands
abbrev pub placed_of : Record → Placed
placed_of line = place line.reach (line_in line.line.bytes.now)

-- what the program keeps of lines
abbrev pub kept_in : List Record → List Kept
kept_in records =
    map (λ line. record { number = line.line.number; bytes = line.line.bytes.now; place = placed_of line }) records

-- the lines that the program keeps, where they stand
abbrev pub lines_in : List Record → List Placed
lines_in records = places (kept_in records)

-- what a statement means in the program, after the lines that lead so far
abbrev pub means : Program → Reach → Statement → Result (List Cell) AsmFault
means program reach statement = cells_at program.base (layout_of program.layout.now) reach statement

-- the first fault of the program in the second pass, with its line
abbrev pub fault_in : Program → Option (AsmFault × ℕ)
fault_in program =
    first_with_fault (second_fault program.base (layout_of program.layout.now))
    (kept_in program.layout.now.records.items)

-- the parts of the program's image: the text, and the data after it
abbrev pub cells_in : Program → List Cell
cells_in program =
    let whole = layout_of program.layout.now in
    let lines = lines_in program.layout.now.records.items in
    contents program.base whole Text lines
    ++ after_text whole.reach.text_size whole.reach.data_size (contents program.base whole Data lines)
