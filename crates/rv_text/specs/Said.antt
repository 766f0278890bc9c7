-- What is said to a writer that remembers whether a write failed.
use Rattle.std.specs.Prelude.{◌≡◌, ℕ, List, ◌++◌, Bool, true, false, Option, Result, Ok, Err}
use Rattle.std.specs.Io.KnownBytes.{Appends}
use Rattle.rv_text.specs.Written.{AppendsBeginning}
use Rattle.rv_text.specs.declared.output.TextError.{TextError}
use Rattle.rv_text.specs.declared.output.TextError.TheVariants.{WriteFailed}
use Rattle.rv_text.specs.declared.sink.Sink.{Sink}

-- a text was said, whole or, where a write failed, a beginning of it
abbrev pub IsSaid : Bool → Option (List ℕ) → Option (List ℕ) → List ℕ → Type 0
IsSaid true before now text = AppendsBeginning before now text
IsSaid false before now text = Appends before now text

-- what a call answers whose text is right for an answer
abbrev pub answered : {T : Type 0} → Bool → T → Result T TextError
answered true answer = Err WriteFailed
answered false answer = Ok answer

-- a text is said, as far as no write fails, to the same writer
pub record Says {W : Type 0} (contents : W → Option (List ℕ)) (old new : Sink W) (text : List ℕ) : Type 0 where
  pub same : new.writer.ghost_name ≡ old.writer.ghost_name
  pub grows : (before : Option (List ℕ)) (first : List ℕ) →
      IsSaid old.has_failed before (contents old.writer.now) first →
      IsSaid new.has_failed before (contents new.writer.now) (first ++ text)

-- what was said is extended by a text, as far as no write fails, where one may have failed before
pub record Extends (was is : Bool) (old new : Option (List ℕ)) (text : List ℕ) : Type 0 where
  pub extends : (before : Option (List ℕ)) (first : List ℕ) → IsSaid was before old first →
      IsSaid is before new (first ++ text)
