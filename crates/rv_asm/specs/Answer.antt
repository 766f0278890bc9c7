-- What the answers of the assembler say, where memory may be refused at any time.
use Rattle.std.specs.Prelude.{◌≡◌, ◌≢◌, ℕ, Option, Some, Result, Ok, Err, IfErr}
use Rattle.rv_asm.specs.declared.fault.{AsmError.AsmError, AsmFault.AsmFault}
use Rattle.rv_asm.specs.declared.fault.AsmFault.TheVariants.{Memory}

-- the outcome is what the definition says
abbrev pub Follows : {T S : Type 0} → (T → S) → Result T AsmFault → Result S AsmFault → Type 0
Follows meaning (Ok x) defined = defined ≡ Ok (meaning x)
Follows meaning (Err fault) defined = fault ≢ Memory → defined ≡ Err fault

-- a fault is the one that the definition says
abbrev pub RefusedBy : {T : Type 0} → Option AsmFault → Result T AsmFault → Type 0
RefusedBy defined result = IfErr result (λ fault. fault ≢ Memory → defined ≡ Some fault)

-- a fault with its line is the one that the definition says
abbrev pub RefusedAt : {T : Type 0} → Option (AsmFault × ℕ) → Result T AsmError → Type 0
RefusedAt defined result = IfErr result (λ error. error.fault ≢ Memory → defined ≡ Some (error.fault, error.line))
