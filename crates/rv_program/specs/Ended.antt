-- How a task ended, what is reported of that, and the exit status.
use Rattle.std.specs.Prelude.{◌≡◌, ℕ, List, ◌++◌, codes, decimal, Option, None, Some, Result, Ok, Err}
use Rattle.rv_job.specs.Fault.{fault_line, fault_status}
use Rattle.rv_job.specs.FaultStream.{FaultStream, Reports}
use Rattle.rv_job.specs.declared.errors.SimError.{SimError}
use Rattle.rv_program.specs.declared.ended.Ended.{Ended}

-- the line of a run that ended after so many cycles, before those of its picture
unfoldable pub over_line : ℕ → List ℕ
over_line cycles =
    codes "note: the run ended after " ++ (decimal cycles ++ codes " cycles, before those of the picture\n")

-- that line is reported, where a run ended so, and else nothing
abbrev pub ReportsOver : FaultStream → FaultStream → Option ℕ → Type 0
ReportsOver old new None = new ≡ old
ReportsOver old new (Some cycles) = Reports old new (over_line cycles)

-- how a task ended is reported: its error, or that its picture shows no cycle, and else nothing
abbrev pub ReportsEnding : FaultStream → FaultStream → Result Ended SimError → Type 0
ReportsEnding old new (Ok ended) = ReportsOver old new ended.over
ReportsEnding old new (Err error) = Reports old new (fault_line error)

-- the exit status of a task that was done, or of its error
abbrev pub exit_status : Result Ended SimError → ℕ
exit_status (Ok ended) = ended.status
exit_status (Err error) = fault_status error
