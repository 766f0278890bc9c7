-- What the program appends to a section.
use Rattle.std.specs.Prelude.{◌≡◌, ◌≢◌, ℕ, List, ◌++◌, Result, Ok, Err, MatchResult}
use Rattle.rv_asm.specs.Meaning.{Cell, Spells}
use Rattle.rv_asm.specs.declared.fault.AsmFault.{AsmFault}
use Rattle.rv_asm.specs.declared.fault.AsmFault.TheVariants.{Memory}

-- the bytes of these parts were appended
pub record Appends (parts : List Cell) (old new : List ℕ) : Type 0 where
  pub bytes : List ℕ
  pub spells : Spells parts bytes
  pub appended : new ≡ old ++ bytes

-- the bytes of these parts were appended, or memory was refused
abbrev pub AppendsIfRoom : {T : Type 0} → List Cell → List ℕ → List ℕ → Result T AsmFault → Type 0
AppendsIfRoom parts old new result = MatchResult result (λ _. Appends parts old new) (λ fault. fault ≡ Memory)

-- the bytes of what this means were appended
pub record Emits (meaning : Result (List Cell) AsmFault) (old new : List ℕ) : Type 0 where
  pub parts : List Cell
  pub means : meaning ≡ Ok parts
  pub appends : Appends parts old new

-- the bytes of what this means were appended, or it is this fault
abbrev pub EmitsOrRefuses : {T : Type 0} → Result (List Cell) AsmFault → List ℕ → List ℕ → Result T AsmFault → Type 0
EmitsOrRefuses meaning old new result =
    MatchResult result (λ _. Emits meaning old new) (λ fault. fault ≢ Memory → meaning ≡ Err fault)
