-- The two operands of an instruction are registers.
use Rattle.std.proofs.Common.{ℕ, zero, suc, ◌<◌, [], ◌∷◌, Option, IfSome, All, arith}

pub two_registers : (first second : Option ℕ) → IfSome first (λ r. r < 32) → IfSome second (λ r. r < 32) →
    All (λ source. IfSome source (λ r. r < 32)) (first ∷ second ∷ [])
two_registers first second low high zero d within = low
two_registers first second low high (suc zero) d within = high
two_registers first second low high (suc (suc k)) d within = absurd (omega arith)
