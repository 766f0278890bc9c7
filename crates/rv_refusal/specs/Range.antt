-- Which values a statement takes.
use Rattle.std.specs.Prelude.{◌≡◌, ℕ, ℤ, pos, negsuc, ◌-ℤ◌, ◌||◌, Bool, true, false, not}
use Rattle.std.specs.Prelude.{List, [], ◌++◌, codes, Option, Some, None, Result, Err}
use Rattle.std.specs.{Fmt.signed_decimal, Option.option_map_or}
use Rattle.rv_isa.specs.declared.operations.Width.{Width}
use Rattle.rv_isa.specs.declared.operations.Width.TheVariants.{Byte, Half, Word}
use Rattle.rv_asm.specs.Meaning.{instructions}
use Rattle.rv_asm.specs.Statement.{is_between}
use Rattle.rv_asm.specs.declared.{fault.AsmFault.AsmFault, operation.Fields.Fields}
use Rattle.rv_asm.specs.declared.{operation.Form.Form, operation.Operation.Operation}
use Rattle.rv_asm.specs.declared.fault.AsmFault.TheVariants.{OutOfRange}
use Rattle.rv_asm.specs.declared.operation.Form.TheVariants as form
use Rattle.rv_asm.specs.declared.operation.Operation.TheVariants as operation
use Rattle.rv_refusal.specs.declared.ranges.Range.{Range}

-- the numbers from the first to the second
abbrev pub range : ℤ → ℤ → Range
range least greatest = record { least = least; greatest = greatest }

-- the range of the value of an operation, which of a jump and of a branch is a distance
unfoldable pub value_range : Operation → Option Range
value_range operation.Lui = Some (range (pos 0) (pos 1048575))
value_range operation.Auipc = Some (range (pos 0) (pos 1048575))
value_range operation.Jal = Some (range (negsuc 1048575) (pos 1048574))
value_range operation.Jalr = Some (range (negsuc 2047) (pos 2047))
value_range (operation.Branch condition) = Some (range (negsuc 4095) (pos 4094))
value_range (operation.Load load) = Some (range (negsuc 2047) (pos 2047))
value_range (operation.Store width) = Some (range (negsuc 2047) (pos 2047))
value_range (operation.OpImmediate op) = Some (range (negsuc 2047) (pos 2047))
value_range (operation.Shift op) = Some (range (pos 0) (pos 31))
value_range (operation.CsrImmediate op) = Some (range (pos 0) (pos 31))
value_range _ = None

-- the range of the CSR of an operation
unfoldable pub csr_range : Operation → Option Range
csr_range (operation.Csr op) = Some (range (pos 0) (pos 4095))
csr_range (operation.CsrImmediate op) = Some (range (pos 0) (pos 4095))
csr_range _ = None

-- the range of the values of data of a width
unfoldable pub width_range : Width → Range
width_range Byte = range (negsuc 127) (pos 255)
width_range Half = range (negsuc 32767) (pos 65535)
width_range Word = range (negsuc 2147483647) (pos 4294967295)

-- what has to lie in the range of an operation's value at an address: the distance, or the value itself
abbrev pub measured : Operation → ℕ → ℤ → ℤ
measured operation.Jal address value = value -ℤ pos address
measured (operation.Branch condition) address value = value -ℤ pos address
measured _ address value = value

-- a number lies outside a range, where there is one
abbrev pub is_outside : Option Range → ℤ → Bool
is_outside range number = option_map_or (λ r. not (is_between r.least r.greatest number)) range false

-- the CSR or the value of an operation lies outside its range
abbrev pub is_past : Operation → Fields → ℕ → ℤ → Bool
is_past operation fields address value =
    is_outside (csr_range operation) fields.csr || is_outside (value_range operation) (measured operation address value)

-- a value out of range is reported
abbrev pub is_range_fault : {T : Type 0} → Result T AsmFault → Bool
is_range_fault (Err OutOfRange) = true
is_range_fault _ = false

-- the assembler reports a value out of range for an operation exactly where its CSR or its value lies outside its range
abbrev pub HasRanges : Operation → Type 0
HasRanges operation =
    (fields : Fields) (address : ℕ) (value : ℤ) →
    is_range_fault (instructions operation fields address value) ≡ is_past operation fields address value

-- a range after a word
unfoldable pub range_words : List ℕ → Range → List ℕ
range_words word range =
    word ++ (codes " from " ++ (signed_decimal range.least ++ (codes " to " ++ signed_decimal range.greatest)))

-- the range of a distance
abbrev pub target_words : Range → List ℕ
target_words range = range_words (codes "a target") range ++ codes " bytes away"

-- the range of an operation's value
unfoldable pub value_words : Operation → Range → List ℕ
value_words operation.Jal range = target_words range
value_words (operation.Branch condition) range = target_words range
value_words _ range = range_words (codes "a value") range

-- the range of an operation's value, if it has one, after a mark
abbrev pub value_part : List ℕ → Operation → List ℕ
value_part mark operation = option_map_or (λ range. mark ++ value_words operation range) (value_range operation) []

-- the line on the ranges of an operation that has a CSR
abbrev pub csr_line : Operation → Range → List ℕ
csr_line operation range =
    codes "expected: " ++ (range_words (codes "a CSR") range ++ (value_part (codes ", and ") operation ++ codes "\n"))

-- the line on the range of an operation that has none
abbrev pub value_line : Operation → List ℕ
value_line operation =
    option_map_or (λ range. codes "expected: " ++ (value_words operation range ++ codes "\n"))
    (value_range operation) []

-- the line on the ranges of an operation
unfoldable pub operation_line : Operation → List ℕ
operation_line operation = option_map_or (csr_line operation) (csr_range operation) (value_line operation)

-- the line on the values of data
abbrev pub data_line : Range → List ℕ
data_line range = range_words (codes "expected: values") range ++ codes "\n"

-- the line on the values that a statement of a form takes
unfoldable pub range_line : Form → List ℕ
range_line (form.Instruction operation first second third) = operation_line operation
range_line form.Jal = operation_line operation.Jal
range_line form.Jalr = operation_line operation.Jalr
range_line (form.Values width) = data_line (width_range width)
range_line _ = []
