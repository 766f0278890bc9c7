-- What a text without a fault means: its bytes, and where execution starts.
use Rattle.std.specs.Prelude.{◌≡◌, ℕ, ℤ, pos, negsuc, ◌+◌, ◌-◌, ◌*◌, ◌/◌, ◌%◌, ◌+ℤ◌, ◌-ℤ◌, List, []}
use Rattle.std.specs.Prelude.{◌∷◌, ◌++◌, map, take, replicate, Bool, if◌then◌else◌, ◌==◌, Option}
use Rattle.std.specs.Prelude.{Some, Result, Ok, Err, ok_or, unwrap_or, is_some, unsigned_abs, codes}
use Rattle.std.specs.{List.list_all, Option.option_map, Int.to_le_bytes, Int.w32}
use Rattle.rv_decode.specs.Decodes.{Decodes}
use Rattle.rv_isa.specs.Operation.{bytes_of}
use Rattle.rv_isa.specs.Word.{modulo_word}
use Rattle.rv_isa.specs.declared.instructions.CsrSource.TheVariants.{Register, Immediate}
use Rattle.rv_isa.specs.declared.{instructions.Instr.Instr, operations.Width.Width}
use Rattle.rv_isa.specs.declared.instructions.Instr.TheVariants as instr
use Rattle.rv_isa.specs.declared.operations.Width.TheVariants.{Byte, Half, Word}
use Rattle.rv_asm.specs.Directive.{laid_by}
use Rattle.rv_asm.specs.Layout.{Line, Layout, Meanings, layout, unlaid, signed_word, load_number, load_address, offset}
use Rattle.rv_asm.specs.Mnemonic.{bare_instruction}
use Rattle.rv_asm.specs.Operand.{Expression, Number, Symbol, Sum, Operand}
use Rattle.rv_asm.specs.Placed.{Placed, placed}
use Rattle.rv_asm.specs.Statement.{Statement, Instruction, Values, Bytes, and_then, is_between, expression_in}
use Rattle.rv_asm.specs.declared.{fault.AsmFault.AsmFault, reach.Reach.Reach}
use Rattle.rv_asm.specs.declared.{operation.Fields.Fields, operation.Operation.Operation}
use Rattle.rv_asm.specs.declared.{operation.Section.Section, symbols.Definition.Definition}
use Rattle.rv_asm.specs.declared.fault.AsmFault.TheVariants.{UnknownSymbol, OutOfRange, Misaligned}
use Rattle.rv_asm.specs.declared.operation.Operation.TheVariants as operation
use Rattle.rv_asm.specs.declared.operation.Section.TheVariants.{Text, Data}
use Rattle.rv_asm.specs.declared.symbols.Definition.TheVariants as symbol

-- a part of the image: a byte, or the word of an instruction
pub data Cell : Type 0 where
  Byte' : ℕ → Cell
  Word' : Instr → Cell

-- the least multiple of 16 that is not below a number
abbrev pub round_up : ℕ → ℕ
round_up n = (n + 15) / 16 * 16

-- where a section starts: .text at the base, .data at the next multiple of 16 after the text
abbrev pub start_of : ℕ → ℕ → Section → ℕ
start_of base text_size Text = base
start_of base text_size Data = base + round_up text_size

-- what a definition stands for, once the size of the text is known
abbrev pub value_of_definition : ℕ → ℕ → Definition → ℤ
value_of_definition base text_size (symbol.Label section offset) = pos (start_of base text_size section + offset)
value_of_definition base text_size (symbol.Constant number) = number

-- the value of a symbol
abbrev pub value_of : ℕ → ℕ → Meanings → List ℕ → Option ℤ
value_of base text_size meanings name = option_map (value_of_definition base text_size) (meanings name)

-- the value of an expression
abbrev pub evaluate : (List ℕ → Option ℤ) → Expression → Option ℤ
evaluate value (Number number) = Some number
evaluate value (Symbol name) = value name
evaluate value (Sum name number) = option_map (λ symbol. symbol +ℤ number) (value name)

-- a number in a range
abbrev pub ranged : ℤ → ℤ → ℤ → Result ℤ AsmFault
ranged least greatest number = if is_between least greatest number then Ok number else Err OutOfRange

-- a number from 0 on, below a limit
abbrev pub natural : ℕ → ℤ → Result ℕ AsmFault
natural limit number = and_then (ranged (pos 0) (pos limit -ℤ pos 1) number) (λ inside. Ok (unsigned_abs inside))

-- a distance in a range; a distance is even
abbrev pub distance : ℤ → ℤ → ℤ → Result ℤ AsmFault
distance least greatest number =
    and_then (ranged least greatest number)
    (λ inside. if unsigned_abs inside % 2 == 0 then Ok inside else Err Misaligned)

-- the twelve bits of an immediate
abbrev pub immediate : ℤ → Result ℤ AsmFault
immediate v = ranged (negsuc 2047) (pos 2047) v

-- one instruction alone
abbrev pub one : Instr → Result (List Instr) AsmFault
one instruction = Ok (instruction ∷ [])

-- the instructions of an operation, its fields and the value of its expression, at an address
abbrev pub instructions : Operation → Fields → ℕ → ℤ → Result (List Instr) AsmFault
instructions operation.Lui f address v = and_then (natural 1048576 v) (λ n. one (instr.Lui f.rd n))
instructions operation.Auipc f address v = and_then (natural 1048576 v) (λ n. one (instr.Auipc f.rd n))
instructions operation.Jal f address v =
    and_then (distance (negsuc 1048575) (pos 1048574) (v -ℤ pos address)) (λ away. one (instr.Jal f.rd away))
instructions operation.Jalr f address v = and_then (immediate v) (λ n. one (instr.Jalr f.rd f.rs1 n))
instructions (operation.Branch condition) f address v =
    and_then (distance (negsuc 4095) (pos 4094) (v -ℤ pos address))
    (λ away. one (instr.Branch condition f.rs1 f.rs2 away))
instructions (operation.Load form) f address v = and_then (immediate v) (λ n. one (instr.Load form f.rd f.rs1 n))
instructions (operation.Store width) f address v = and_then (immediate v) (λ n. one (instr.Store width f.rs1 f.rs2 n))
instructions (operation.OpImmediate op) f address v =
    and_then (immediate v) (λ n. one (instr.OpImmediate op f.rd f.rs1 n))
instructions (operation.Shift op) f address v = and_then (natural 32 v) (λ n. one (instr.Shift op f.rd f.rs1 n))
instructions (operation.Op op) f address v = one (instr.Op op f.rd f.rs1 f.rs2)
instructions (operation.Bare bare) f address v = one (bare_instruction bare)
instructions (operation.Csr op) f address v =
    and_then (natural 4096 f.csr) (λ csr. one (instr.Csr op f.rd csr (Register f.rs1)))
instructions (operation.CsrImmediate op) f address v =
    and_then (natural 4096 f.csr) (λ csr. and_then (natural 32 v) (λ n. one (instr.Csr op f.rd csr (Immediate n))))
instructions operation.LoadNumber f address v = Ok (load_number f.rd (signed_word v))
instructions operation.LoadAddress f address v = Ok (load_address f.rd (signed_word (v -ℤ pos address)))

-- the numbers that data of a width may hold
abbrev pub fits_width : Width → ℤ → Bool
fits_width Byte number = is_between (negsuc 127) (pos 255) number
fits_width Half number = is_between (negsuc 32767) (pos 65535) number
fits_width Word number = is_between (negsuc 2147483647) (pos 4294967295) number

-- the bytes of a number modulo 2 ^ 32, the lowest first, if data of the width may hold it
abbrev pub bytes_at : Width → ℤ → Result (List Cell) AsmFault
bytes_at width number =
    if fits_width width number then Ok (map Byte' (take (bytes_of width) (to_le_bytes w32 (modulo_word number))))
    else Err OutOfRange

-- the bytes of the values of operands of data; an operand without a value counts as 0
abbrev pub data_of : (List ℕ → Option ℤ) → Width → List Operand → Result (List Cell) AsmFault
data_of value width [] = Ok []
data_of value width (operand ∷ operands) =
    and_then (bytes_at width (unwrap_or (evaluate value (expression_in operand)) (pos 0)))
    (λ first. and_then (data_of value width operands) (λ others. Ok (first ++ others)))

-- what a statement means, at an offset in a section that starts at an address
abbrev pub cells : (List ℕ → Option ℤ) → ℕ → ℕ → Statement → Result (List Cell) AsmFault
cells value start offset (Instruction operation fields expression) =
    and_then (ok_or (evaluate value expression) UnknownSymbol)
    (λ v. and_then (instructions operation fields (start + offset) v)
    (λ made. if (start + offset) % 4 == 0 then Ok (map Word' made) else Err Misaligned))
cells value start offset (Values width operands) =
    if list_all (λ operand. is_some (evaluate value (expression_in operand))) operands then data_of value width operands
    else Err UnknownSymbol
cells value start offset (Bytes directive operand) = Ok (map Byte' (laid_by directive offset operand))
cells value start offset _ = Ok []

-- what a statement means where the text has come so far
abbrev pub cells_at : ℕ → Layout → Reach → Statement → Result (List Cell) AsmFault
cells_at base whole reach statement =
    cells (value_of base whole.reach.text_size whole.meanings) (start_of base whole.reach.text_size reach.section)
    (offset reach) statement

-- what a line means, in view of the whole text
abbrev pub line_cells : ℕ → Layout → Placed → Result (List Cell) AsmFault
line_cells base whole line = and_then line.statement (cells_at base whole line.reach)

-- what a line that stands in the second section adds to the first
abbrev pub parts_in : Section → Section → Result (List Cell) AsmFault → List Cell
parts_in Text Text (Ok parts) = parts
parts_in Data Data (Ok parts) = parts
parts_in _ _ _ = []

-- the parts of a section, from the lines that stand in it
abbrev pub contents : ℕ → Layout → Section → List Placed → List Cell
contents base whole section [] = []
contents base whole section (line ∷ others) =
    parts_in section line.reach.section (line_cells base whole line) ++ contents base whole section others

-- the parts of a section of a text
abbrev pub section_parts : ℕ → Section → List Line → List Cell
section_parts base section lines = contents base (layout lines) section (placed unlaid lines)

-- what stands after the text: the data after zero bytes, if there are any
abbrev pub after_text : ℕ → ℕ → List Cell → List Cell
after_text text_size data_size parts =
    if data_size == 0 then [] else (map Byte' (replicate (round_up text_size - text_size) 0) ++ parts)

-- the parts of the image: the text, and the data after it
abbrev pub image_parts : ℕ → List Line → List Cell
image_parts base lines =
    section_parts base Text lines
    ++ after_text (layout lines).reach.text_size (layout lines).reach.data_size (section_parts base Data lines)

-- the word of an instruction; of the words of fence and fence.i the one with their standard fields
pub record IsWordOf (instruction : Instr) (word : ℕ) : Type 0 where
  pub decodes : Decodes word instruction
  pub fence : instruction ≡ instr.Fence → word ≡ 0x0ff0000f
  pub fence_i : instruction ≡ instr.FenceI → word ≡ 0x0000100f

-- the bytes that the parts of an image are; words stand lowest byte first
pub data Spells : List Cell → List ℕ → Type 0 where
  nothing : Spells [] []
  byte : {b : ℕ} {parts : List Cell} {bytes : List ℕ} → Spells parts bytes → Spells (Byte' b ∷ parts) (b ∷ bytes)
  word : {i : Instr} {w : ℕ} {parts : List Cell} {bytes : List ℕ} → IsWordOf i w → Spells parts bytes →
      Spells (Word' i ∷ parts) (to_le_bytes w32 w ++ bytes)

-- where execution starts: at _start, if it is defined, else at the base
abbrev pub start_address : ℕ → Layout → ℕ
start_address base whole =
    unwrap_or (option_map modulo_word (value_of base whole.reach.text_size whole.meanings (codes "_start"))) base
