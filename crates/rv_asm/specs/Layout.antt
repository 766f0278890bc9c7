-- Where the statements of a text stand, and what its symbols are.
use Rattle.std.specs.Prelude.{ℕ, ℤ, pos, negsuc, ◌+◌, ◌*◌, ◌+ℤ◌, ◌-ℤ◌, List, [], ◌∷◌, length, map, if◌then◌else◌}
use Rattle.std.specs.Prelude.{◌==◌, nat_lt, Option, Some, None, Result, Ok, Err, ok_or, unwrap_or, unsigned_abs}
use Rattle.std.specs.{List.slice_split, Map.update, Str.bytes_eq, Int.int_div_euclid, Int.int_rem_euclid}
use Rattle.rv_isa.specs.Operation.{bytes_of}
use Rattle.rv_isa.specs.Word.{signed, modulo_word}
use Rattle.rv_isa.specs.declared.instructions.Instr.{Instr}
use Rattle.rv_isa.specs.declared.instructions.Instr.TheVariants.{Lui, Auipc, OpImmediate}
use Rattle.rv_isa.specs.declared.operations.ImmediateOp.TheVariants.{Addi}
use Rattle.rv_asm.specs.Directive.{laid_by}
use Rattle.rv_asm.specs.Operand.{Expression, Number, Symbol, Sum}
use Rattle.rv_asm.specs.Statement.{Statement, Choice, Constant, Instruction, Values}
use Rattle.rv_asm.specs.Statement.{Bytes, and_then, reading, statement, is_between}
use Rattle.rv_asm.specs.Token.{Token, tokens_of}
use Rattle.rv_asm.specs.Token as token
use Rattle.rv_asm.specs.declared.{fault.AsmFault.AsmFault, operation.Fields.Fields, operation.Operation.Operation}
use Rattle.rv_asm.specs.declared.{operation.Section.Section, reach.Reach.Reach, symbols.Definition.Definition}
use Rattle.rv_asm.specs.declared.fault.AsmFault.TheVariants.{BadToken, TooLarge}
use Rattle.rv_asm.specs.declared.operation.Operation.TheVariants as operation
use Rattle.rv_asm.specs.declared.operation.Section.TheVariants.{Text, Data}
use Rattle.rv_asm.specs.declared.symbols.Definition.TheVariants as symbol

-- a line: bytes that are no tokens, or labels and the tokens after them
pub data Line : Type 0 where
  Unreadable : Line
  Readable : List (List ℕ) → List Token → Line

-- the names before a colon at the front of a line
abbrev pub labels_of : List Token → List (List ℕ)
labels_of (token.Name name ∷ token.Colon ∷ rest) = name ∷ labels_of rest
labels_of _ = []

-- what stands after the labels
abbrev pub body_of : List Token → List Token
body_of (token.Name name ∷ token.Colon ∷ rest) = body_of rest
body_of tokens = tokens

-- the line of these tokens, if they are tokens
abbrev pub line_of : Result (List Token) AsmFault → Line
line_of (Ok tokens) = Readable (labels_of tokens) (body_of tokens)
line_of (Err fault) = Unreadable

-- the line that some bytes spell
abbrev pub line_in : List ℕ → Line
line_in bytes = line_of (ok_or (tokens_of bytes) BadToken)

-- the lines of a text; a line feed ends a line
abbrev pub lines_of : List ℕ → List Line
lines_of text = map line_in (slice_split (λ byte. byte == 10) text)

-- the statement that tokens spell
abbrev pub statement_in : List Token → Result Statement AsmFault
statement_in body = and_then (reading body) (λ read. statement read.0 read.1)

-- of v as the sum of 4096 times an upper part and a lower part from -2048 to 2047: the upper part modulo 2 ^ 20
abbrev pub upper : ℤ → ℕ
upper v = unsigned_abs (int_rem_euclid (int_div_euclid (v +ℤ pos 2048) (pos 4096)) (pos 1048576))

-- and the lower part
abbrev pub lower : ℤ → ℤ
lower v = int_rem_euclid (v +ℤ pos 2048) (pos 4096) -ℤ pos 2048

-- a whole number modulo 2 ^ 32, read as a signed word
abbrev pub signed_word : ℤ → ℤ
signed_word z = signed (modulo_word z)

-- the instructions that load a signed word: one where it is an immediate or its lower part is 0, else two
abbrev pub load_number : ℕ → ℤ → List Instr
load_number rd v =
    if is_between (negsuc 2047) (pos 2047) v then OpImmediate Addi rd 0 v ∷ []
    else (if is_between (pos 0) (pos 0) (lower v) then Lui rd (upper v) ∷ []
    else Lui rd (upper v) ∷ OpImmediate Addi rd rd (lower v) ∷ [])

-- the instructions that load an address by its distance, always two
abbrev pub load_address : ℕ → ℤ → List Instr
load_address rd away = Auipc rd (upper away) ∷ OpImmediate Addi rd rd (lower away) ∷ []

-- how many bytes a section has so far
abbrev pub offset_in : Section → Reach → ℕ
offset_in Text reach = reach.text_size
offset_in Data reach = reach.data_size

-- how many bytes the section in force has so far
abbrev pub offset : Reach → ℕ
offset reach = offset_in reach.section reach

-- a section has so many bytes more
abbrev pub grow_in : Section → ℕ → Reach → Reach
grow_in Text size reach = record reach { text_size = reach.text_size + size }
grow_in Data size reach = record reach { data_size = reach.data_size + size }

-- the number of a .equ
abbrev pub number_of : Option Definition → Option ℤ
number_of (Some (symbol.Constant number)) = Some number
number_of _ = None

-- the value of an expression without labels
abbrev pub known : (List ℕ → Option Definition) → Expression → ℤ
known definition (Number number) = number
known definition (Symbol name) = unwrap_or (number_of (definition name)) (pos 0)
known definition (Sum name number) = pos 0

-- the bytes of an instruction
abbrev pub instruction_size : (List ℕ → Option Definition) → Operation → Fields → Expression → ℕ
instruction_size definition operation.LoadNumber fields value =
    4 * length (load_number fields.rd (signed_word (known definition value)))
instruction_size definition operation.LoadAddress fields value = 8
instruction_size definition _ fields value = 4

-- the bytes of a statement at an offset
abbrev pub size : (List ℕ → Option Definition) → ℕ → Statement → ℕ
size definition offset (Instruction operation fields value) = instruction_size definition operation fields value
size definition offset (Values width operands) = bytes_of width * length operands
size definition offset (Bytes directive operand) = length (laid_by directive offset operand)
size definition offset _ = 0

-- how far the text has come after a statement
abbrev pub advance : (List ℕ → Option Definition) → Statement → Reach → Reach
advance definition (Choice section) reach = record reach { section = section }
advance definition statement reach = grow_in reach.section (size definition (offset reach) statement) reach

-- a reach, unless text and data have more than 16,777,200 bytes
abbrev pub unless_too_large : Reach → Result Reach AsmFault
unless_too_large reach = if nat_lt 16777200 (reach.text_size + reach.data_size) then Err TooLarge else Ok reach

-- what a name stands for, if it is defined
abbrev pub Meanings : Type 0
Meanings = List ℕ → Option Definition

-- a name more is defined; where it was defined before, the first pass finds the fault
abbrev pub defined : Meanings → List ℕ → Definition → Meanings
defined meanings name definition = update bytes_eq meanings name (Some definition)

-- how far the text has come, and what it has defined
pub record Layout : Type 0 where
  pub reach : Reach
  pub meanings : Meanings

-- a label is the offset at which its line begins
abbrev pub label_at : Reach → Definition
label_at reach = symbol.Label reach.section (offset reach)

-- labels more are defined
abbrev pub labelled : Meanings → Definition → List (List ℕ) → Meanings
labelled meanings here [] = meanings
labelled meanings here (name ∷ names) = labelled (defined meanings name here) here names

-- the symbol of a .equ more is defined
abbrev pub with_constant : Meanings → Statement → Meanings
with_constant meanings (Constant name number) = defined meanings name (symbol.Constant number)
with_constant meanings _ = meanings

-- the layout after a statement, if it could be read
abbrev pub after_statement : Meanings → Reach → Result Statement AsmFault → Layout
after_statement meanings reach (Ok statement) =
    record { reach = advance meanings statement reach; meanings = with_constant meanings statement }
after_statement meanings reach (Err fault) = record { reach = reach; meanings = meanings }

-- the layout after a line
abbrev pub extended : Layout → Line → Layout
extended layout Unreadable = layout
extended layout (Readable labels body) =
    after_statement (labelled layout.meanings (label_at layout.reach) labels) layout.reach (statement_in body)

-- the layout of no lines: no section has bytes yet, and the text begins in .text
abbrev pub unlaid : Layout
unlaid = record { reach = record { section = Text; text_size = 0; data_size = 0 }; meanings = λ name. None }

-- the layout after lines
abbrev pub laid : Layout → List Line → Layout
laid layout [] = layout
laid layout (line ∷ others) = laid (extended layout line) others

-- the layout of a text
abbrev pub layout : List Line → Layout
layout lines = laid unlaid lines
