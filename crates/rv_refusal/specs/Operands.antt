-- The operands that a statement may have.
use Rattle.std.specs.Prelude.{ℕ, List, [], ◌∷◌, ◌++◌, codes, decimal, if◌then◌else◌}
use Rattle.std.specs.List.{flat_map}
use Rattle.rv_asm.specs.Statement.{is_implied}
use Rattle.rv_asm.specs.declared.{operation.Form.Form, operation.Place.Place}
use Rattle.rv_asm.specs.declared.operation.Form.TheVariants as form
use Rattle.rv_asm.specs.declared.operation.Place.TheVariants as place

-- what may stand at a place, without its limit
unfoldable pub place_word : Place → List ℕ
place_word place.Rd = codes "rd"
place_word place.Rs1 = codes "rs1"
place_word place.Rs2 = codes "rs2"
place_word place.Value = codes "value"
place_word place.Number = codes "number"
place_word place.Known = codes "number or .equ symbol above"
place_word place.Target = codes "symbol"
place_word place.Address = codes "offset(rs1)"
place_word place.Base = codes "offset(rs1)"
place_word place.Csr = codes "csr"
place_word (place.UpTo greatest) = codes "number from 0 to "
place_word place.Multiple = codes "1 or 2 or 4 or 8 or 16"
place_word place.Text = codes "\"text\""
place_word _ = []

-- the greatest number that may stand at a place, where only those up to a limit may
unfoldable pub place_limit : Place → List ℕ
place_limit (place.UpTo greatest) = decimal greatest
place_limit _ = []

-- what may stand at a place
abbrev pub operand_word : Place → List ℕ
operand_word place = place_word place ++ place_limit place

-- an operand that stands there in an example
unfoldable pub operand_example : Place → List ℕ
operand_example place.Rd = codes "x5"
operand_example place.Rs1 = codes "x6"
operand_example place.Rs2 = codes "x7"
operand_example place.Value = codes "8"
operand_example place.Number = codes "8"
operand_example place.Known = codes "8"
operand_example place.Target = codes "loop"
operand_example place.Address = codes "8(x6)"
operand_example place.Base = codes "8(x6)"
operand_example place.Csr = codes "mscratch"
operand_example (place.UpTo greatest) = codes "8"
operand_example place.Multiple = codes "8"
operand_example place.Text = codes "\"text\""
operand_example _ = []

-- operands by a word for each, with a mark before the first one, and a comma and a blank before each other one
abbrev pub operand_list : (Place → List ℕ) → List ℕ → List Place → List ℕ
operand_list word mark [] = []
operand_list word mark (place ∷ places) =
    if is_implied place then operand_list word mark places
    else mark ++ (word place ++ operand_list word (codes ", ") places)

-- the places of an instruction; those of a pseudo-instruction that reads its registers in the other order, or rs2 alone, are
-- counted as they are written
unfoldable pub as_written : Place → Place → Place → List Place
as_written place.Rs2 place.Rs1 third = place.Rs1 ∷ place.Rs2 ∷ third ∷ []
as_written place.Rs2 place.Target third = place.Rs1 ∷ place.Target ∷ third ∷ []
as_written place.Rd place.Rs2 third = place.Rd ∷ place.Rs1 ∷ third ∷ []
as_written first second third = first ∷ second ∷ third ∷ []

-- the places that a form's operands may fill, one list for each shape
abbrev pub shapes : Form → List (List Place)
shapes form.Nothing = []
shapes (form.Instruction operation first second third) = as_written first second third ∷ []
shapes form.Jal = (place.Target ∷ []) ∷ (place.Rd ∷ place.Target ∷ []) ∷ []
shapes form.Jalr = (place.Rs1 ∷ []) ∷ (place.Rd ∷ place.Base ∷ []) ∷ (place.Rd ∷ place.Rs1 ∷ place.Value ∷ []) ∷ []
shapes (form.Choice section) = [] ∷ []
shapes form.Global = (place.Target ∷ []) ∷ []
shapes form.Constant = (place.Target ∷ place.Number ∷ []) ∷ []
shapes (form.Values width) = (place.Value ∷ []) ∷ (place.Value ∷ place.Value ∷ []) ∷ []
shapes (form.Bytes directive operand) = (operand ∷ []) ∷ []

-- the line on a shape of a statement with a name: what may stand at each place, and an example
unfoldable pub shape_line : List ℕ → List Place → List ℕ
shape_line name places =
    codes "expected: " ++ (name ++ (operand_list operand_word (codes " ") places ++ (codes ", as in '" ++
    (name ++ (operand_list operand_example (codes " ") places ++ codes "'\n")))))

-- the lines on the shapes of a statement with a name
unfoldable pub shape_lines : List ℕ → Form → List ℕ
shape_lines name form = flat_map (shape_line name) (shapes form)
