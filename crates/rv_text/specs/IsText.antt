-- What a call answers that writes a text, and asks for memory before it.
use Rattle.std.specs.Prelude.{◌≡◌, ℕ, List, Option, Result, Ok, Err}
use Rattle.std.specs.Io.KnownBytes.{Appends}
use Rattle.rv_text.specs.Written.{AppendsBeginning}
use Rattle.rv_text.specs.declared.output.TextError.{TextError}
use Rattle.rv_text.specs.declared.output.TextError.TheVariants.{Memory, WriteFailed}

-- A text that is right for the answer was written whole, or a beginning of one that is right for some answer where a
-- write failed, or nothing when out of memory. The known bytes of the output go from old to new.
abbrev pub IsText : {T : Type 0} → (T → List ℕ → Type 0) → Result T TextError → Option (List ℕ) →
    Option (List ℕ) → Type 0
IsText Is (Ok answer) old new = (text : List ℕ) × Is answer text × Appends old new text
IsText {T} Is (Err WriteFailed) old new = (answer : T) × (text : List ℕ) × Is answer text
    × AppendsBeginning old new text
IsText Is (Err Memory) old new = new ≡ old
