-- What the directives lay down.
use Rattle.std.specs.Prelude.{ℕ, ◌-◌, ◌%◌, List, [], ◌++◌, replicate, unsigned_abs}
use Rattle.rv_asm.specs.Operand.{Operand, Value, Number, Text}
use Rattle.rv_asm.specs.declared.directive.Directive.{Directive}
use Rattle.rv_asm.specs.declared.directive.Directive.TheVariants.{Zeros, Align, Characters}

-- the size of the number that an operand is, or 0
abbrev pub amount_in : Operand → ℕ
amount_in (Value (Number number)) = unsigned_abs number
amount_in _ = 0

-- the bytes of the string that an operand is, or none
abbrev pub text_in : Operand → List ℕ
text_in (Text bytes) = bytes
text_in _ = []

-- the least number of bytes that leads from an offset to a multiple
abbrev pub padding : ℕ → ℕ → ℕ
padding multiple offset = (multiple - offset % multiple) % multiple

-- the bytes that a directive lays down at an offset
abbrev pub laid_by : Directive → ℕ → Operand → List ℕ
laid_by Zeros offset operand = replicate (amount_in operand) 0
laid_by Align offset operand = replicate (padding (amount_in operand) offset) 0
laid_by (Characters zeros) offset operand = text_in operand ++ replicate zeros 0
