use Rattle.std.specs.Prelude.{ℕ, ◌<◌, List, length, take, Option, Result, Ok, Err}
use Rattle.std.specs.Io.KnownBytes.{Appends}

-- known bytes grow by a beginning of a text, which is not the whole
abbrev pub AppendsBeginning : Option (List ℕ) → Option (List ℕ) → List ℕ → Type 0
AppendsBeginning old new text = (n : ℕ) × (n < length text) × Appends old new (take n text)

-- a text is written whole, or a beginning of it where a write failed
abbrev pub IsWritten : {T E : Type 0} → Result T E → Option (List ℕ) → Option (List ℕ) → List ℕ → Type 0
IsWritten (Ok done) old new text = Appends old new text
IsWritten (Err error) old new text = AppendsBeginning old new text
