-- What becomes of the output where an input is refused.
use Rattle.std.specs.Prelude.{◌≡◌, ◌⊎◌, ℕ, List, Option, Some, Result, Ok, Err}
use Rattle.std.specs.Io.KnownBytes.{Appends}
use Rattle.rv_command.specs.declared.command.Command.{Command}
use Rattle.rv_command.specs.declared.command.Command.TheVariants.{Explain}
use Rattle.rv_job.specs.declared.errors.SimError.{SimError}
use Rattle.rv_refusal.specs.Refusal.{refusal_text}
use Rattle.rv_text.specs.Written.{AppendsBeginning}
use Rattle.rv_text.specs.declared.output.TextError.{TextError}
use Rattle.rv_text.specs.declared.output.TextError.TheVariants.{Memory, WriteFailed}

-- A text was written and flushed. Where a write failed it was written up to there, or whole where the flush failed;
-- nothing was written when out of memory. The known bytes of the output go from old to new.
abbrev pub IsFlushed : List ℕ → Result Unit TextError → Option (List ℕ) → Option (List ℕ) → Type 0
IsFlushed text (Ok done) old new = Appends old new text
IsFlushed text (Err WriteFailed) old new = AppendsBeginning old new text ⊎ Appends old new text
IsFlushed text (Err Memory) old new = new ≡ old

-- The output is handed back as it was given, but where a job was to be explained: then it has got why the job is
-- refused, whole, or as much of that as is answered.
abbrev pub HandsBack : {W : Type 0} → (W → Option (List ℕ)) → Command → List ℕ → SimError → W → Option W →
    Result Unit TextError → Type 0
HandsBack {W} contents (Explain figures path limit) input error given handed refusal =
    (output : W) × (handed ≡ Some output)
    × IsFlushed (refusal_text input error) refusal (contents given) (contents output)
HandsBack contents _ input error given handed refusal = (handed ≡ Some given) × (refusal ≡ Ok tt)
