-- What is answered after a text that was written, or was not.
use Rattle.std.proofs.Common.{◌≡◌, ℕ, List, Option, None, Some, refl, sym, subst, arith}
use Rattle.std.specs.Prelude.{IsErrAnd, Result, Err}
use Rattle.std.specs.Io.KnownBytes.{Keeps}
use Rattle.rv_job.proofs.HandedOn.{handed_on}
use Rattle.rv_job.specs.declared.errors.SimError.{SimError}
use Rattle.rv_text.specs.IsText.{IsText}
use Rattle.rv_text.specs.declared.output.TextError.{TextError}
use Rattle.rv_program.specs.Answer.{IsAnswer, answered}

-- what is written of a run is answered of its job, by the program's errors
of_job : {T : Type 0} (Is IsOfJob : T → List ℕ → Type 0) (written : Result T TextError) (old new : Option (List ℕ))
    → ((answer : T) (text : List ℕ) → Is answer text → IsOfJob answer text) → IsText Is written old new →
    IsAnswer IsOfJob (answered written) old new
of_job Is IsOfJob written old new means is = grind arith

answered_by : {T : Type 0} (Is IsOfJob : T → List ℕ → Type 0) (written : Result T TextError)
    (result : Result T SimError) (old new : Option (List ℕ))
    → result ≡ answered written → ((answer : T) (text : List ℕ) → Is answer text → IsOfJob answer text) →
    IsText Is written old new → IsAnswer IsOfJob result old new
answered_by Is IsOfJob written result old new is means writes =
    subst (λ r. IsAnswer IsOfJob r old new) (sym is) (of_job Is IsOfJob written old new means writes)

-- the same, where the text comes first
pub answered_from : {T : Type 0} {Is : T → List ℕ → Type 0} (IsOfJob : T → List ℕ → Type 0)
    (written : Result T TextError) {result : Result T SimError} (old new : Option (List ℕ))
    → IsText Is written old new → result ≡ answered written →
    ((answer : T) (text : List ℕ) → Is answer text → IsOfJob answer text) → IsAnswer IsOfJob result old new
answered_from {Is = Is} IsOfJob written {result} old new writes is means =
    answered_by Is IsOfJob written result old new is means writes

-- an error that `?` hands on
pub answered_on : {T : Type 0} (Is : T → List ℕ → Type 0) (result : Result T SimError) (error : SimError)
    (old new : Option (List ℕ))
    → IsErrAnd result (λ e. e ≡ error) → IsAnswer Is (Err error) old new → IsAnswer Is result old new
answered_on Is result error old new same holds =
    subst (λ r. IsAnswer Is r old new) (sym (handed_on result error same)) holds

Keeps-itself : (known : Option (List ℕ)) → Keeps known known
Keeps-itself None = tt
Keeps-itself (Some bytes) = refl

-- what is the same is kept
pub Keeps-same : (before after : Option (List ℕ)) → after ≡ before → Keeps before after
Keeps-same before after same = subst (Keeps before) (sym same) (Keeps-itself before)
