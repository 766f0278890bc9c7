-- What a call answers that writes what the run of a job came to.
use Rattle.std.specs.Prelude.{◌≡◌, ℕ, List, Option, Result, Ok, Err}
use Rattle.std.specs.Io.KnownBytes.{Appends}
use Rattle.rv_job.specs.declared.errors.SimError.{SimError}
use Rattle.rv_job.specs.declared.errors.SimError.TheVariants.{Memory, WriteFailed}
use Rattle.rv_text.specs.Written.{AppendsBeginning}
use Rattle.rv_text.specs.declared.output.TextError.{TextError}
use Rattle.rv_text.specs.declared.output.TextError.TheVariants as failure

-- A text that is right for the answer was written whole, or a beginning of one that is right for some answer where a
-- write failed, or nothing when out of memory; there is no other error. The known bytes of the output go from old to
-- new.
abbrev pub IsAnswer : {T : Type 0} → (T → List ℕ → Type 0) → Result T SimError → Option (List ℕ) →
    Option (List ℕ) → Type 0
IsAnswer Is (Ok answer) old new = (text : List ℕ) × Is answer text × Appends old new text
IsAnswer {T} Is (Err WriteFailed) old new = (answer : T) × (text : List ℕ) × Is answer text
    × AppendsBeginning old new text
IsAnswer Is (Err Memory) old new = new ≡ old
IsAnswer Is (Err _) old new = ⊥

-- what is answered after a text
abbrev pub answered : {T : Type 0} → Result T TextError → Result T SimError
answered (Ok answer) = Ok answer
answered (Err failure.WriteFailed) = Err WriteFailed
answered (Err failure.Memory) = Err Memory
