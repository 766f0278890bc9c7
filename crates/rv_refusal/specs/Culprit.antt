-- From which token on a line is at fault.
use denote.Ref.{Bor}
use Rattle.std.specs.Prelude.{ℕ, ◌-◌, ◌==◌, List, [], ◌∷◌, length, Bool, true, false, not, ◌&&◌, ◌||◌, if◌then◌else◌}
use Rattle.std.specs.Prelude.{◌≡◌, Option, Some, None, drop, is_none, option_and_then, option_map, pos, unwrap_or}
use Rattle.std.specs.{List.before_first, List.find, List.list_all, List.slice_split, Option.option_map_or}
use Rattle.std.specs.Option.{option_or}
use Rattle.rv_isa.specs.declared.operations.Width.{Width}
use Rattle.rv_asm.specs.Layout.{body_of}
use Rattle.rv_asm.specs.Meaning.{fits_width}
use Rattle.rv_asm.specs.Mnemonic.{form_named}
use Rattle.rv_asm.specs.Names.{register_named}
use Rattle.rv_asm.specs.Operand.{Operand, Value, Indirect, Number, Symbol, Sum, is_comma, operand}
use Rattle.rv_asm.specs.Read.{operand_of, tokens_in}
use Rattle.rv_asm.specs.Statement.{is_between, is_implied, takes}
use Rattle.rv_asm.specs.Token.{Token}
use Rattle.rv_asm.specs.Token as token
use Rattle.rv_asm.specs.declared.operand.Operand as program
use Rattle.rv_asm.specs.declared.token.Token as read
use Rattle.rv_asm.specs.declared.{fault.AsmFault.AsmFault, operation.Form.Form, operation.Place.Place}
use Rattle.rv_asm.specs.declared.fault.AsmFault.TheVariants as fault
use Rattle.rv_asm.specs.declared.operation.Form.TheVariants as form
use Rattle.rv_asm.specs.declared.operation.Place.TheVariants as place
use Rattle.rv_refusal.specs.Definition.{definition_on}
use Rattle.rv_refusal.specs.OrElse.{or_else}

-- the tokens from each operand on that stands after a comma
abbrev pub later_operands : List Token → List (List Token)
later_operands [] = []
later_operands (first ∷ rest) = if is_comma first then rest ∷ later_operands rest else later_operands rest

-- the tokens from each operand on
abbrev pub operands_on : List Token → List (List Token)
operands_on [] = []
operands_on (first ∷ rest) = (first ∷ rest) ∷ later_operands (first ∷ rest)

-- the tokens from each operand on that is left, from those of the first one on
abbrev pub operands_left : Option (Bor (List read.Token)) → List (List Token)
operands_left None = []
operands_left (Some tokens) = tokens_in tokens.now ∷ later_operands (tokens_in tokens.now)

-- the operand that tokens begin with, if it is one
abbrev pub operand_at : List Token → Option Operand
operand_at tokens = operand (before_first is_comma tokens)

-- an expression stands at the place
abbrev pub holds_value : Place → Bool
holds_value place.Value = true
holds_value place.Known = true
holds_value place.Target = true
holds_value place.Address = true
holds_value place.Base = true
holds_value _ = false

-- a register stands at the place
abbrev pub holds_register : Place → Bool
holds_register place.Rd = true
holds_register place.Rs1 = true
holds_register place.Rs2 = true
holds_register place.Address = true
holds_register place.Base = true
holds_register _ = false

-- the name has no register
abbrev pub is_unnamed : List ℕ → Bool
is_unnamed name = option_map_or (λ register. false) (register_named name) true

-- a name is written in the place of a register that is none
abbrev pub has_unknown_register : Option Operand → Bool
has_unknown_register (Some (Value (Symbol name))) = is_unnamed name
has_unknown_register (Some (Indirect offset name)) = is_unnamed name
has_unknown_register _ = false

-- a number is written that no CSR has
abbrev pub is_past_csrs : Option Operand → Bool
is_past_csrs (Some (Value (Number number))) = not (is_between (pos 0) (pos 4095) number)
is_past_csrs _ = false

-- what is written at a place is the value that may be out of range
abbrev pub may_be_out_of_range : Place → Option Operand → Bool
may_be_out_of_range place.Csr written = is_past_csrs written
may_be_out_of_range place written = holds_value place

-- no operand is written that a place takes
abbrev pub is_misfit : Place → Option Operand → Bool
is_misfit place written = option_map_or (λ operand. not (takes place operand)) written true

-- an operand at a place is the one for which a fault is reported, if those before it are not
unfoldable pub is_culprit : AsmFault → Place → Option Operand → Bool
is_culprit fault.BadOperands place written = is_misfit place written
is_culprit fault.BadRegister place written = holds_register place && has_unknown_register written
is_culprit fault.UnknownSymbol place written = holds_value place
is_culprit fault.OutOfRange place written = may_be_out_of_range place written
is_culprit _ place written = false

-- the operand is the last one, and no place after its own needs another
abbrev pub is_last : List Place → List (List Token) → Bool
is_last places [] = list_all is_implied places
is_last places (operand ∷ operands) = false

-- The operand for which a fault is reported: the first one at whose place it is, or one that has no place. Where each place has its
-- operand and none is the first, it is the last.
abbrev pub culprit_among : AsmFault → List Place → List (List Token) → Option (List Token)
culprit_among fault places [] = None
culprit_among fault [] (operand ∷ operands) = Some operand
culprit_among fault (place ∷ places) (operand ∷ operands) =
    if is_implied place then culprit_among fault places (operand ∷ operands)
    else (if is_culprit fault place (operand_at operand) || is_last places operands then Some operand
    else culprit_among fault places operands)

-- a number is written that data of a width cannot hold
abbrev pub is_too_wide : Width → Option Operand → Bool
is_too_wide width (Some (Value (Number number))) = not (fits_width width number)
is_too_wide width _ = false

-- a symbol is written that is not defined
abbrev pub is_undefined : (List ℕ → Bool) → Option Operand → Bool
is_undefined defined (Some (Value (Symbol name))) = not (defined name)
is_undefined defined (Some (Value (Sum name number))) = not (defined name)
is_undefined defined _ = false

-- an operand of data of a width is one for which a fault is reported, where these symbols are defined
unfoldable pub is_wrong_value : AsmFault → (List ℕ → Bool) → Width → Option Operand → Bool
is_wrong_value fault.BadOperands defined width written = is_misfit place.Value written
is_wrong_value fault.UnknownSymbol defined width written = is_undefined defined written
is_wrong_value fault.OutOfRange defined width written = is_too_wide width written
is_wrong_value _ defined width written = false

-- answers of the program are those to a question about what is written
abbrev pub Answers : (Option program.Operand → Bool → Type 0) → (Option Operand → Bool) → Type 0
Answers gives question =
    (written : _) (answer : Bool) → gives written answer → answer ≡ question (option_map operand_of written)

-- the first operand that is sought
abbrev pub first_operand : (Option Operand → Bool) → List (List Token) → Option (List Token)
first_operand is_sought operands = find (λ operand. is_sought (operand_at operand)) operands

-- the first operand of data of a width for which a fault is reported by what is written alone
abbrev pub wrong_value : AsmFault → (List ℕ → Bool) → Width → List (List Token) → Option (List Token)
wrong_value fault defined width operands = first_operand (is_wrong_value fault defined width) operands

-- a symbol is written
abbrev pub is_symbolic : Option Operand → Bool
is_symbolic (Some (Value (Symbol name))) = true
is_symbolic (Some (Value (Sum name number))) = true
is_symbolic _ = false

-- the first operand with a symbol
abbrev pub first_symbolic : List (List Token) → Option (List Token)
first_symbolic operands = first_operand is_symbolic operands

-- an operand with a symbol, if none after it has one
abbrev pub if_last_symbolic : List Token → Option (List Token)
if_last_symbolic operand = if is_none (first_symbolic (later_operands operand)) then Some operand else None

-- the operand of data whose symbol is out of range, where no number is: it is known where no other has a symbol
unfoldable pub symbolic_value : AsmFault → List (List Token) → Option (List Token)
symbolic_value fault.OutOfRange operands = option_and_then if_last_symbolic (first_symbolic operands)
symbolic_value _ operands = None

-- the operand of data of a width for which a fault is reported, if it is known
unfoldable pub faulty_value : AsmFault → (List ℕ → Bool) → Width → List (List Token) → Option (List Token)
faulty_value fault defined width operands =
    option_or (wrong_value fault defined width operands) (symbolic_value fault operands)

-- the places of so many operands of a form that has the same ones in each statement
abbrev pub fixed_places : Form → ℕ → List Place
fixed_places form.Jal count = if count == 1 then place.Target ∷ [] else place.Rd ∷ place.Target ∷ []
fixed_places form.Jalr count =
    if count == 1 then place.Rs1 ∷ []
    else if count == 2 then place.Rd ∷ place.Base ∷ []
    else place.Rd ∷ place.Rs1 ∷ place.Value ∷ []
fixed_places form.Global count = place.Target ∷ []
fixed_places form.Constant count = place.Target ∷ place.Number ∷ []
fixed_places _ count = []

-- the operand of a form for which a fault is reported, of those that tokens spell
unfoldable pub culprit_of : AsmFault → (List ℕ → Bool) → Form → List Token → Option (List Token)
culprit_of fault defined (form.Instruction operation first second third) tokens =
    culprit_among fault (first ∷ second ∷ third ∷ []) (operands_on tokens)
culprit_of fault defined (form.Values width) tokens = faulty_value fault defined width (operands_on tokens)
culprit_of fault defined (form.Bytes directive operand) tokens =
    culprit_among fault (operand ∷ []) (operands_on tokens)
culprit_of fault defined form tokens =
    culprit_among fault (fixed_places form (length (slice_split is_comma tokens))) (operands_on tokens)

-- these faults are reported for one of the operands
abbrev pub is_of_operands : AsmFault → Bool
is_of_operands fault.BadOperands = true
is_of_operands fault.BadRegister = true
is_of_operands fault.UnknownSymbol = true
is_of_operands fault.OutOfRange = true
is_of_operands _ = false

-- the tokens of an operand from the one at fault on: of a register its name, before which stand an offset and a
-- parenthesis, or nothing
unfoldable pub marked : AsmFault → List Token → List Token
marked fault.BadRegister tokens = drop (length (before_first is_comma tokens) - 2) tokens
marked _ tokens = tokens

-- the operand of a statement for which a fault is reported, from its token at fault on
unfoldable pub operand_of_fault : AsmFault → (List ℕ → Bool) → List Token → Option (List Token)
operand_of_fault fault defined (token.Name name ∷ rest) =
    if is_of_operands fault
    then option_and_then (λ form. option_map (marked fault) (culprit_of fault defined form rest)) (form_named name)
    else None
operand_of_fault fault defined _ = None

-- The tokens of a line from the one at fault on: a symbol that was defined before; an operand; or the statement, and in
-- a line without one its label. Where a line defines several symbols, none is named.
unfoldable pub culprit_on : AsmFault → (List ℕ → Bool) → List Token → Option (List Token)
culprit_on fault.DuplicateSymbol defined tokens = definition_on tokens
culprit_on fault defined tokens =
    Some (unwrap_or (operand_of_fault fault defined (body_of tokens)) (or_else (body_of tokens) tokens))
