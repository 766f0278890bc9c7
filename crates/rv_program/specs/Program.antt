-- What the program does with a command, from the bytes of its input to those of its output.
use Rattle.std.specs.Prelude.{◌≡◌, ◌⊎◌, ℕ, List, [], Option, None, Some, Result, Ok, Err}
use Rattle.std.specs.Io.KnownBytes.{Appends, Consumes}
use Rattle.rv_front.specs.Guide.{Guide}
use Rattle.rv_job.specs.Fault.{fault_line, fault_status, input_fault_line, input_fault_status}
use Rattle.rv_job.specs.FaultStream.{FaultStream, Reports, ReportsError}
use Rattle.rv_job.specs.Input.{HasRead, IsInputOf}
use Rattle.rv_program.specs.CoreReport.{untaught_of}
use Rattle.rv_program.specs.Ended.{ReportsEnding, exit_status}
use Rattle.rv_program.specs.Output.{HoldsBeginning}
use Rattle.rv_program.specs.Refused.{HandsBack}
use Rattle.rv_program.specs.Task.{Asks, AsksForMemory, Refuses, Shows, predictor_of}
use Rattle.rv_command.specs.declared.command.Command.{Command}
use Rattle.rv_job.specs.declared.{errors.SimError.SimError, input.InputError.InputError}
use Rattle.rv_job.specs.declared.errors.SimError.TheVariants.{Memory, WriteFailed}
use Rattle.rv_text.specs.declared.output.TextError.{TextError}
use Rattle.rv_program.specs.declared.{ended.Ended.Ended, task.Task.Task}

-- the input could not be read, which is reported
abbrev pub IsUnread : FaultStream → FaultStream → ℕ → Type 0
IsUnread old new status =
    (error : InputError) × Reports old new (input_fault_line error) × (status ≡ input_fault_status error)

-- the input was refused, which is reported, and the output, whose known bytes are its contents, was handed back, with
-- whether it has got why
abbrev pub IsRefused : {W : Type 0} → (W → Option (List ℕ)) → Command → List ℕ → W → Option W → Result Unit TextError →
    FaultStream → FaultStream → ℕ → Type 0
IsRefused contents command input given handed refusal old new status =
    (error : SimError) × Refuses command input error × Reports old new (fault_line error)
    × (status ≡ fault_status error)
    × HandsBack contents command input error given handed refusal

-- A task ended so, with a predictor, and its output was handed back by the buffer before it. The output has got the
-- text whole. Where a write failed it holds a beginning of what it held and of the text; when out of memory, of what it
-- held.
abbrev pub EndsPassedOn : Task → Guide → Option (List ℕ) → Option (List ℕ) → Result Ended SimError → Type 0
EndsPassedOn task predictor old new (Ok ended) =
    (text : List ℕ) × Shows task predictor text ended × Appends old new text
EndsPassedOn task predictor old new (Err WriteFailed) =
    (text : List ℕ) × (ended : Ended) × Shows task predictor text ended × HoldsBeginning old new text
EndsPassedOn task predictor old new (Err Memory) = AsksForMemory task × HoldsBeginning old new []
EndsPassedOn task predictor old new (Err _) = ⊥

-- memory for a box or a buffer was refused, which is reported: the output was handed back as it was given, or let go
-- with the buffer
abbrev pub IsUnbegun : {W : Type 0} → W → Option W → FaultStream → FaultStream → ℕ → Type 0
IsUnbegun given handed old new status = ((handed ≡ Some given) ⊎ (handed ≡ None)) × ReportsError Memory old new status

-- A task was done with the predictor of its machine, or failed. How it ended is reported, and its output was handed
-- back, whose known bytes are its contents; or memory was refused before it.
abbrev pub EndsWithin : {W : Type 0} → (W → Option (List ℕ)) → Task → W → Option W → FaultStream →
    FaultStream → ℕ → Type 0
EndsWithin {W} contents task given handed old new status =
    IsUnbegun given handed old new status
    ⊎ ((output : W) × (handed ≡ Some output) × (outcome : Result Ended SimError)
    × EndsPassedOn task (untaught_of (predictor_of task)) (contents given) (contents output) outcome
    × ReportsEnding old new outcome × (status ≡ exit_status outcome))

-- what the command asks of the input was done, or failed
abbrev pub IsEnded : {W : Type 0} → (W → Option (List ℕ)) → Command → List ℕ → W → Option W → FaultStream →
    FaultStream → ℕ → Type 0
IsEnded contents command input given handed old new status =
    (task : Task) × Asks command input task × EndsWithin contents task given handed old new status

-- the program with a command, the bytes that remain of its input before and after it, and its output, whose known
-- bytes are its contents: which output is handed back, whether it has got whole why the input is refused, where that was
-- to be explained, how the fault lines change, and the exit status
abbrev pub Runs : {W : Type 0} → (W → Option (List ℕ)) → Command → Option (List ℕ) → Option (List ℕ)
    → W → Option W → Result Unit TextError → FaultStream → FaultStream → ℕ → Type 0
Runs contents command remaining left given handed refusal old new status =
    ((handed ≡ Some given) × (refusal ≡ Ok tt) × HasRead remaining left × IsUnread old new status)
    ⊎ ((input : List ℕ) × IsInputOf remaining input × Consumes remaining left input
    × (IsRefused contents command input given handed refusal old new status
    ⊎ ((refusal ≡ Ok tt) × IsEnded contents command input given handed old new status)))
