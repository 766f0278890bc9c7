use Rattle.std.specs.Prelude.{ℕ, Bool, not, ◌==◌, nat_lt, int_lt}
use Rattle.rv_isa.specs.Word.{signed}
use Rattle.rv_isa.specs.declared.operations.Condition.{Condition}
use Rattle.rv_isa.specs.declared.operations.Condition.TheVariants.{Equal, NotEqual, LessThan, GreaterOrEqual}
use Rattle.rv_isa.specs.declared.operations.Condition.TheVariants.{LessThanUnsigned, GreaterOrEqualUnsigned}

-- Unprivileged ISA 20191213, 2.5: the condition of beq, bne, blt, bge, bltu and bgeu
abbrev pub holds : Condition → ℕ → ℕ → Bool
holds Equal a b = a == b
holds NotEqual a b = not (a == b)
holds LessThan a b = int_lt (signed a) (signed b)
holds GreaterOrEqual a b = not (int_lt (signed a) (signed b))
holds LessThanUnsigned a b = nat_lt a b
holds GreaterOrEqualUnsigned a b = not (nat_lt a b)
