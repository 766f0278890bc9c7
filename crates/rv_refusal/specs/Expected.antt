-- What was expected at a fault of assembly.
use Rattle.std.specs.Prelude.{ℕ, List, [], ◌++◌, codes}
use Rattle.std.specs.Option.{option_map_or}
use Rattle.rv_asm.specs.Layout.{body_of}
use Rattle.rv_asm.specs.Mnemonic.{form_named}
use Rattle.rv_asm.specs.Token.{Token}
use Rattle.rv_asm.specs.declared.{fault.AsmFault.AsmFault, operation.Form.Form}
use Rattle.rv_asm.specs.declared.fault.AsmFault.TheVariants as fault
use Rattle.rv_refusal.specs.Operands.{shape_lines}
use Rattle.rv_refusal.specs.Range.{range_line}
use Rattle.rv_refusal.specs.Statement.{first_name}

-- what was expected of a statement with a name, whose form is known: operands, or values in a range
unfoldable pub form_lines : AsmFault → List ℕ → Form → List ℕ
form_lines fault.BadOperands name form = shape_lines name form
form_lines fault.OutOfRange name form = range_line form
form_lines _ name form = []

-- what was expected of a statement with a name; nothing of one that has no form
abbrev pub statement_lines : AsmFault → List ℕ → List ℕ
statement_lines fault name = option_map_or (form_lines fault name) (form_named name) []

-- what was expected, whatever the statement
unfoldable pub general_line : AsmFault → List ℕ
general_line fault.BadToken =
    codes "expected: names, numbers up to 4294967295, strings that end on their line, and the marks , : ( ) + -\n"
general_line fault.UnknownMnemonic = codes "expected: a statement that begins with an instruction or a directive\n"
general_line fault.BadRegister = codes "expected: a register, x0 to x31, or its name in the calling convention\n"
general_line fault.DuplicateSymbol = codes "expected: a symbol that is not defined above\n"
general_line fault.TooLarge = codes "expected: at most 16777200 bytes of text and data\n"
general_line fault.UnknownSymbol = codes "expected: a symbol that a label or .equ defines\n"
general_line fault.Misaligned =
    codes "expected: an instruction or _start at a multiple of 4, and a target an even distance away\n"
general_line _ = []

-- what was expected at a fault of a line with these tokens
unfoldable pub expected : AsmFault → List Token → List ℕ
expected fault tokens = general_line fault ++ option_map_or (statement_lines fault) (first_name (body_of tokens)) []
