-- What an output gets of what the buffer before it holds.
use Rattle.std.specs.Prelude.{◌≡◌, ℕ, List, [], ◌++◌, ⊤, Option, None, Some, Result, Ok, Err}
use Rattle.std.specs.Io.KnownBytes.{Keeps}
use Rattle.rv_job.specs.declared.errors.SimError.{SimError}
use Rattle.rv_job.specs.declared.errors.SimError.TheVariants.{WriteFailed}
use Rattle.rv_program.specs.declared.ended.Ended.{Ended}

-- known bytes become a beginning of themselves and a text
abbrev pub HoldsBeginning : Option (List ℕ) → Option (List ℕ) → List ℕ → Type 0
HoldsBeginning None new text = ⊤
HoldsBeginning (Some before) None text = ⊥
HoldsBeginning (Some before) (Some after) text = (rest : List ℕ) × (after ++ rest ≡ before ++ text)

-- Something ended so, and then so with what was held before an output: the output got all of that, or a beginning where
-- a write failed or something had failed before.
abbrev pub PassesOn : Result Ended SimError → Result Ended SimError → Option (List ℕ) → Option (List ℕ) → Type 0
PassesOn (Ok ended) (Ok same) held new = (same ≡ ended) × Keeps held new
PassesOn (Ok ended) (Err WriteFailed) held new = HoldsBeginning held new []
PassesOn (Err error) (Err same) held new = (same ≡ error) × HoldsBeginning held new []
PassesOn _ _ held new = ⊥
