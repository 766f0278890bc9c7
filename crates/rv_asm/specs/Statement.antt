-- What a line says after its labels.
use Rattle.std.specs.Prelude.{ℕ, ℤ, pos, negsuc, List, [], ◌∷◌, Bool, true, false, ◌&&◌, ◌||◌, if◌then◌else◌}
use Rattle.std.specs.Prelude.{length, Option, Some, None, Result, Ok, Err, int_le, is_some, ok_or, unwrap_or, ◌==◌}
use Rattle.std.specs.{List.list_all, Option.option_map}
use Rattle.rv_isa.specs.declared.operations.Width.{Width}
use Rattle.rv_asm.specs.Mnemonic.{form_named}
use Rattle.rv_asm.specs.Names.{register_named, csr_named}
use Rattle.rv_asm.specs.Operand.{Expression, Number, Symbol, Sum, Operand, Value, Indirect, Text, operands_of}
use Rattle.rv_asm.specs.Token.{Token}
use Rattle.rv_asm.specs.Token as token
use Rattle.rv_asm.specs.declared.{directive.Directive.Directive, fault.AsmFault.AsmFault}
use Rattle.rv_asm.specs.declared.{operation.Fields.Fields, operation.Form.Form, operation.Operation.Operation}
use Rattle.rv_asm.specs.declared.{operation.Place.Place, operation.Section.Section}
use Rattle.rv_asm.specs.declared.fault.AsmFault.TheVariants.{UnknownMnemonic, BadOperands, BadRegister}
use Rattle.rv_asm.specs.declared.operation.Form.TheVariants as form
use Rattle.rv_asm.specs.declared.operation.Operation.TheVariants as operation
use Rattle.rv_asm.specs.declared.operation.Place.TheVariants as place

-- a statement whose symbols have no values yet
pub data Statement : Type 0 where
  -- no statement, or one without effect
  Nothing : Statement
  -- from the next line on, the section is this one
  Choice : Section → Statement
  -- a symbol and its number
  Constant : List ℕ → ℤ → Statement
  -- an instruction, and the expression that its immediate, target or number is
  Instruction : Operation → Fields → Expression → Statement
  -- numbers of this width
  Values : Width → List Operand → Statement
  -- what a directive lays down by its operand
  Bytes : Directive → Operand → Statement

-- what is made of a value that is there
abbrev pub and_then : {T U E : Type 0} → Result T E → (T → Result U E) → Result U E
and_then (Ok x) next = next x
and_then (Err e) next = Err e

-- the number is not below the first and not above the second
abbrev pub is_between : ℤ → ℤ → ℤ → Bool
is_between least greatest number = int_le least number && int_le number greatest

-- the place has no operand
abbrev pub is_implied : Place → Bool
is_implied place.Link = true
is_implied place.Return = true
is_implied place.One = true
is_implied place.MinusOne = true
is_implied place.Empty = true
is_implied _ = false

-- the operand has the shape of the place; a register may be any name
abbrev pub takes : Place → Operand → Bool
takes place.Rd (Value (Symbol name)) = true
takes place.Rs1 (Value (Symbol name)) = true
takes place.Rs2 (Value (Symbol name)) = true
takes place.Value (Value expression) = true
takes place.Number (Value (Number number)) = true
takes place.Known (Value (Number number)) = true
takes place.Known (Value (Symbol name)) = true
takes place.Target (Value (Symbol name)) = true
takes place.Target (Value (Sum name number)) = true
takes place.Address (Indirect offset name) = true
takes place.Base (Indirect (Some offset) name) = true
takes place.Csr (Value (Number number)) = true
takes place.Csr (Value (Symbol name)) = is_some (csr_named name)
takes (place.UpTo greatest) (Value (Number number)) = is_between (pos 0) (pos greatest) number
takes place.Multiple (Value (Number (pos n))) = (n == 1) || (n == 2) || (n == 4) || (n == 8) || (n == 16)
takes place.Text (Text bytes) = true
takes _ operand = false

-- the register that an operand names
abbrev pub register_in : Operand → Result ℕ AsmFault
register_in (Value (Symbol name)) = ok_or (register_named name) BadRegister
register_in (Indirect offset name) = ok_or (register_named name) BadRegister
register_in _ = Err BadOperands

-- the expression of an operand; an offset that is missing is 0
abbrev pub expression_in : Operand → Expression
expression_in (Value expression) = expression
expression_in (Indirect (Some offset) name) = offset
expression_in _ = Number (pos 0)

-- the address of the CSR that an operand names or numbers
abbrev pub csr_in : Operand → Result ℤ AsmFault
csr_in (Value (Number number)) = Ok number
csr_in (Value (Symbol name)) = ok_or (option_map (λ address. pos address) (csr_named name)) BadOperands
csr_in _ = Err BadOperands

-- the field that an operand fills at its place, if it fills one
abbrev pub field_at : Place → Operand → Fields → Result Fields AsmFault
field_at place.Rd operand fields = and_then (register_in operand) (λ register. Ok (record fields { rd = register }))
field_at place.Rs1 operand fields = and_then (register_in operand) (λ register. Ok (record fields { rs1 = register }))
field_at place.Rs2 operand fields = and_then (register_in operand) (λ register. Ok (record fields { rs2 = register }))
field_at place.Address operand fields =
    and_then (register_in operand) (λ register. Ok (record fields { rs1 = register }))
field_at place.Base operand fields = and_then (register_in operand) (λ register. Ok (record fields { rs1 = register }))
field_at place.Csr operand fields = and_then (csr_in operand) (λ address. Ok (record fields { csr = address }))
field_at _ operand fields = Ok fields

-- the expression that stands at a place, if one does
unfoldable pub value_at : Place → Operand → Option Expression
value_at place.Value operand = Some (expression_in operand)
value_at place.Known operand = Some (expression_in operand)
value_at place.Target operand = Some (expression_in operand)
value_at place.Address operand = Some (expression_in operand)
value_at place.Base operand = Some (expression_in operand)
value_at _ operand = None

-- fields and an expression with those of an operand at its place, if it has one there
unfoldable pub put : Place → Operand → Fields × Expression → Result (Fields × Expression) AsmFault
put place operand filled =
    and_then (field_at place operand filled.0) (λ fields. Ok (fields, unwrap_or (value_at place operand) filled.1))

-- fields and an expression with those of a place without an operand, if it means one; x1 holds return addresses
unfoldable pub imply : Place → Fields × Expression → Fields × Expression
imply place.Link filled = (record filled.0 { rd = 1 }, filled.1)
imply place.Return filled = (record filled.0 { rs1 = 1 }, filled.1)
imply place.One filled = (filled.0, Number (pos 1))
imply place.MinusOne filled = (filled.0, Number (negsuc 0))
imply _ filled = filled

-- what the operands fill at their places, if they have their shapes, one each: fields, and the first expression, or 0
unfoldable pub fill : List Place → List Operand → Fields → Result (Fields × Expression) AsmFault
fill [] [] fields = Ok (fields, Number (pos 0))
fill [] (operand ∷ operands) fields = Err BadOperands
fill (place ∷ places) [] fields =
    if is_implied place then and_then (fill places [] fields) (λ filled. Ok (imply place filled)) else Err BadOperands
fill (place ∷ places) (operand ∷ operands) fields =
    if is_implied place then and_then (fill places (operand ∷ operands) fields) (λ filled. Ok (imply place filled))
    else (if takes place operand then and_then (fill places operands fields) (put place operand)
    else Err BadOperands)

-- the instruction with its operands; a field that none fills is x0 or 0
unfoldable pub instruction : Operation → List Place → List Operand → Result Statement AsmFault
instruction operation places operands =
    and_then (fill places operands (record { rd = 0; rs1 = 0; rs2 = 0; csr = pos 0 }))
    (λ filled. Ok (Instruction operation filled.0 filled.1))

-- the places of so many operands of jal: with or without its register
abbrev pub jal_places : ℕ → List Place
jal_places count = if count == 1 then place.Link ∷ place.Target ∷ [] else place.Rd ∷ place.Target ∷ []

-- the places of so many operands of jalr: with its register alone, with an offset before it in parentheses, or with one after it
abbrev pub jalr_places : ℕ → List Place
jalr_places count =
    if count == 1 then place.Link ∷ place.Rs1 ∷ []
    else (if count == 2 then place.Rd ∷ place.Base ∷ []
    else place.Rd ∷ place.Rs1 ∷ place.Value ∷ [])

-- the statement of a form with its operands
unfoldable pub statement : Form → List Operand → Result Statement AsmFault
statement form.Nothing [] = Ok Nothing
statement (form.Instruction operation first second third) operands =
    instruction operation (first ∷ second ∷ third ∷ []) operands
statement form.Jal operands = instruction operation.Jal (jal_places (length operands)) operands
statement form.Jalr operands = instruction operation.Jalr (jalr_places (length operands)) operands
statement (form.Choice section) [] = Ok (Choice section)
statement form.Global (Value (Symbol name) ∷ []) = Ok Nothing
statement form.Constant (Value (Symbol name) ∷ Value (Number number) ∷ []) = Ok (Constant name number)
statement (form.Values width) (first ∷ others) =
    if list_all (takes place.Value) (first ∷ others) then Ok (Values width (first ∷ others)) else Err BadOperands
statement (form.Bytes directive place) (operand ∷ []) =
    if takes place operand then Ok (Bytes directive operand) else Err BadOperands
statement _ operands = Err BadOperands

-- the form is that of data, which may have any number of operands
abbrev pub is_data : Form → Bool
is_data (form.Values width) = true
is_data _ = false

-- the symbol that li takes, which an earlier .equ has to define
unfoldable pub needed : Form → List Operand → Option (List ℕ)
needed (form.Instruction operation.LoadNumber first second third) (register ∷ Value (Symbol name) ∷ []) = Some name
needed _ operands = None

-- the operands that tokens spell
abbrev pub operands_read : List Token → Result (List Operand) AsmFault
operands_read tokens = ok_or (operands_of tokens) BadOperands

-- the form and the operands that tokens spell
abbrev pub reading : List Token → Result (Form × List Operand) AsmFault
reading [] = Ok (form.Nothing, [])
reading (token.Name name ∷ rest) =
    and_then (ok_or (form_named name) UnknownMnemonic)
    (λ named. and_then (operands_read rest) (λ operands. Ok (named, operands)))
reading _ = Err UnknownMnemonic
