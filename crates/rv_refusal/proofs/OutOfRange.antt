-- The ranges of operations are those of the assembler.
use Rattle.std.proofs.Common.{◌≡◌, ◌||◌, ◌-ℤ◌, ℕ, ℤ, pos, Bool, true, false, not, Result, refl, negsuc, arith}
use Rattle.rv_asm.specs.Meaning.{distance, natural, one, ranged}
use Rattle.rv_asm.specs.Statement.{and_then, is_between}
use Rattle.rv_asm.specs.declared.fault.AsmFault.{AsmFault}
use Rattle.rv_asm.specs.declared.operation.Operation.{Operation}
use Rattle.rv_asm.specs.declared.operation.Operation.TheVariants as operation
use Rattle.rv_isa.specs.declared.instructions.CsrSource.TheVariants.{Register}
use Rattle.rv_isa.specs.declared.instructions.Instr.TheVariants as instr
use Rattle.rv_refusal.specs.Range.{HasRanges, csr_range, is_range_fault, value_range}

-- a number is refused as out of range exactly where it lies outside, if nothing after it is
ranged_fault : {T : Type 0} (least greatest number : ℤ) (next : ℤ → Result T AsmFault) →
    ((n : ℤ) → is_range_fault (next n) ≡ false) →
    is_range_fault (and_then (ranged least greatest number) next) ≡ not (is_between least greatest number)
ranged_fault least greatest number next clean = grind arith

-- so is a number from 0 on
natural_fault : {T : Type 0} (limit : ℕ) (number : ℤ) (next : ℕ → Result T AsmFault) →
    ((n : ℕ) → is_range_fault (next n) ≡ false) →
    is_range_fault (and_then (natural limit number) next) ≡ not (is_between (pos 0) (pos limit -ℤ pos 1) number)
natural_fault limit number next clean = grind arith

-- and a distance: an odd one is refused otherwise
distance_fault : {T : Type 0} (least greatest number : ℤ) (next : ℤ → Result T AsmFault) →
    ((n : ℤ) → is_range_fault (next n) ≡ false) →
    is_range_fault (and_then (distance least greatest number) next) ≡ not (is_between least greatest number)
distance_fault least greatest number next clean = grind arith

or_false : (fault past : Bool) → fault ≡ past → fault ≡ (past || false)
or_false fault true is = is
or_false fault false is = is

-- the assembler reports a value out of range for each operation exactly where its CSR or its value lies outside its range
pub has_ranges : (operation : Operation) → HasRanges operation
unfolding csr_range value_range
has_ranges operation.Lui f address v = natural_fault 1048576 v (λ n. one (instr.Lui f.rd n)) (λ n. refl)
has_ranges operation.Auipc f address v = natural_fault 1048576 v (λ n. one (instr.Auipc f.rd n)) (λ n. refl)
has_ranges operation.Jal f address v =
    distance_fault (negsuc 1048575) (pos 1048574) (v -ℤ pos address) (λ away. one (instr.Jal f.rd away)) (λ n. refl)
has_ranges operation.Jalr f address v =
    ranged_fault (negsuc 2047) (pos 2047) v (λ n. one (instr.Jalr f.rd f.rs1 n)) (λ n. refl)
has_ranges (operation.Branch condition) f address v = grind arith
has_ranges (operation.Load form) f address v =
    ranged_fault (negsuc 2047) (pos 2047) v (λ n. one (instr.Load form f.rd f.rs1 n)) (λ n. refl)
has_ranges (operation.Store width) f address v =
    ranged_fault (negsuc 2047) (pos 2047) v (λ n. one (instr.Store width f.rs1 f.rs2 n)) (λ n. refl)
has_ranges (operation.OpImmediate op) f address v =
    ranged_fault (negsuc 2047) (pos 2047) v (λ n. one (instr.OpImmediate op f.rd f.rs1 n)) (λ n. refl)
has_ranges (operation.Shift op) f address v = natural_fault 32 v (λ n. one (instr.Shift op f.rd f.rs1 n)) (λ n. refl)
has_ranges (operation.Csr op) f address v =
    or_false _ _ (natural_fault 4096 f.csr (λ csr. one (instr.Csr op f.rd csr (Register f.rs1))) (λ n. refl))
has_ranges (operation.CsrImmediate op) f address v = grind arith
has_ranges (operation.Op op) f address v = refl
has_ranges (operation.Bare bare) f address v = refl
has_ranges operation.LoadNumber f address v = refl
has_ranges operation.LoadAddress f address v = refl
