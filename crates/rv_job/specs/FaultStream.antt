-- Where the lines that report faults go.
use Rattle.std.specs.Prelude.{◌≡◌, ◌⊎◌, ℕ, List, Bool, true, Option}
use Rattle.std.specs.Io.KnownBytes.{Appends}
use Rattle.rv_job.specs.Fault.{fault_line, fault_status}
use Rattle.rv_text.specs.Written.{AppendsBeginning}
use Rattle.rv_job.specs.declared.errors.SimError.{SimError}
use Rattle.rv_job.specs.declared.errors.SimError.TheVariants.{Memory}

-- the bytes that are held, where they are known, and whether a write failed
pub record FaultStream : Type 0 where
  pub known : Option (List ℕ)
  pub has_failed : Bool

-- a line was written whole, or a write failed and it was written up to there
abbrev pub Reports : FaultStream → FaultStream → List ℕ → Type 0
Reports old new line =
    (Appends old.known new.known line × (new.has_failed ≡ old.has_failed))
    ⊎ (AppendsBeginning old.known new.known line × (new.has_failed ≡ true))

-- the line of an error is reported, with its exit status
abbrev pub ReportsError : SimError → FaultStream → FaultStream → ℕ → Type 0
ReportsError error old new status = Reports old new (fault_line error) × (status ≡ fault_status error)

-- that memory ran out is reported, and else nothing
abbrev pub ReportsOutOfMemory : Option (List ℕ) → Option (List ℕ) → FaultStream → FaultStream → ℕ → Type 0
ReportsOutOfMemory old-output new-output old new status = (new-output ≡ old-output) × ReportsError Memory old new status
