-- The names that are known, and those that are not.
use Rattle.std.specs.Prelude.{ℕ, ◌==◌, List, [], ◌∷◌, ◌++◌, map, Bool, true, false}
use Rattle.std.specs.Prelude.{if◌then◌else◌, Option, None, codes, option_and_then}
use Rattle.std.specs.{List.filter, List.flat_map, List.slice_split, Option.option_map_or, Str.bytes_eq}
use Rattle.rv_isa.specs.Csr as csr
use Rattle.rv_isa.specs.Csr.{row_of}
use Rattle.rv_asm.specs.Layout.{body_of, labels_of}
use Rattle.rv_asm.specs.Mnemonic.{form_named, instructions, others, pseudo_instructions}
use Rattle.rv_asm.specs.Names.{register_names}
use Rattle.rv_asm.specs.Token.{Token}
use Rattle.rv_asm.specs.Token as token
use Rattle.rv_asm.specs.declared.{fault.AsmFault.AsmFault, operation.Form.Form}
use Rattle.rv_asm.specs.declared.fault.AsmFault.TheVariants as fault
use Rattle.rv_asm.specs.declared.operation.Form.TheVariants.{Instruction}
use Rattle.rv_asm.specs.declared.operation.Operation.TheVariants.{Csr, CsrImmediate}
use Rattle.rv_refusal.specs.Culprit.{operand_of_fault}
use Rattle.rv_refusal.specs.NameOn.{begins_with}
use Rattle.rv_refusal.specs.Statement.{first_name, tokens_on}

-- the mnemonics and directives
abbrev pub mnemonics : List (List ℕ)
mnemonics = map (λ row. row.0) instructions ++ (map (λ row. row.0) pseudo_instructions ++ map (λ row. row.0) others)

-- the directives, whose names begin with a dot
abbrev pub directives : List (List ℕ)
directives = filter (begins_with 46) (map (λ row. row.0) others)

-- the registers' names
abbrev pub registers : List (List ℕ)
registers = map (λ row. row.0) register_names

-- the CSRs' names
abbrev pub csrs : List (List ℕ)
csrs = map (λ csr. (row_of csr).1) csr.order

-- the symbol right after .equ
abbrev pub constant_of : List Token → List (List ℕ)
constant_of (token.Name directive ∷ token.Name symbol ∷ rest) =
    if bytes_eq directive (codes ".equ") then symbol ∷ [] else []
constant_of _ = []

-- the symbols that a line defines
abbrev pub symbols_on : List Token → List (List ℕ)
symbols_on tokens = labels_of tokens ++ constant_of (body_of tokens)

-- the symbols that the lines of a text define
unfoldable pub symbols_of : List ℕ → List (List ℕ)
symbols_of text = flat_map (λ line. symbols_on (tokens_on line)) (slice_split (λ byte. byte == 10) text)

-- the symbols that an assembly defines, where one is reported that it does not
unfoldable pub symbols_at : AsmFault → List ℕ → List (List ℕ)
symbols_at fault.UnknownSymbol assembly = symbols_of assembly
symbols_at _ assembly = []

-- the names that may stand in place of one at a fault of an assembly that defines these symbols
unfoldable pub known_names : AsmFault → List ℕ → List (List ℕ) → List (List ℕ)
known_names fault.UnknownMnemonic name symbols = if begins_with 46 name then directives else mnemonics
known_names fault.BadRegister name symbols = registers
known_names fault.BadOperands name symbols = csrs
known_names _ name symbols = symbols

-- the form has a CSR among its operands
abbrev pub has_csr : Form → Bool
has_csr (Instruction (Csr op) first second third) = true
has_csr (Instruction (CsrImmediate op) first second third) = true
has_csr _ = false

-- an instruction has a CSR among its operands
abbrev pub takes_csr : List ℕ → Bool
takes_csr name = option_map_or has_csr (form_named name) false

-- a statement has a CSR among its operands
abbrev pub names_csr : List Token → Bool
names_csr body = option_map_or takes_csr (first_name body) false

-- the name at fault in a statement: its own, or an operand's; of operands of the wrong shape that of a CSR alone may be unknown
unfoldable pub unknown_name : AsmFault → (List ℕ → Bool) → List Token → Option (List ℕ)
unknown_name fault.UnknownMnemonic defined body = first_name body
unknown_name fault.BadOperands defined body =
    if names_csr body then option_and_then first_name (operand_of_fault fault.BadOperands defined body) else None
unknown_name fault defined body = option_and_then first_name (operand_of_fault fault defined body)
