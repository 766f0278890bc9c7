-- How a task ends.
use Rattle.std.proofs.Common.{◌≡◌, ℕ, List, Option, Some, arith}
use Rattle.std.specs.Prelude.{Err, Result}
use Rattle.rv_front.specs.Guide.{Guide}
use Rattle.rv_job.specs.FaultStream.{FaultStream}
use Rattle.rv_job.specs.declared.errors.SimError.{SimError}
use Rattle.rv_job.specs.declared.errors.SimError.TheVariants.{WriteFailed}
use Rattle.rv_text.specs.Written.{AppendsBeginning}
use Rattle.rv_program.specs.Answer.{IsAnswer}
use Rattle.rv_program.specs.CoreReport.{untaught_of}
use Rattle.rv_program.specs.Ended.{ReportsEnding, exit_status}
use Rattle.rv_program.specs.Output.{PassesOn}
use Rattle.rv_program.specs.Program.{EndsWithin}
use Rattle.rv_program.specs.Task.{AsksForMemory, Ends, Shows, ended_after, predictor_of}
use Rattle.rv_program.specs.declared.{ended.Ended.Ended, task.Task.Task}
use Rattle.rv_program.proofs.Answered.{Keeps-same}
use Rattle.rv_program.proofs.PassedOn.{ended_passed_on}

-- by the error of a call that answers with the text, after each answer of which the task ends so
pub Ends-by_error : {T : Type 0} (task : Task) (predictor : Guide) (Is : T → List ℕ → Type 0) (ended : T → Ended)
    (error : SimError) (old new : Option (List ℕ))
    → AsksForMemory task → ((answer : T) (text : List ℕ) → Is answer text → Shows task predictor text (ended answer)) →
    IsAnswer Is (Err error) old new
    → Ends task predictor old new (Err error)
Ends-by_error task predictor Is ended error old new asks shows is = grind (arith, Keeps-same, ended)

-- by whatever its call answered
pub Ends-after : {T : Type 0} (task : Task) (predictor : Guide) (Is : T → List ℕ → Type 0) (ended : T → Ended)
    (answer : Result T SimError) {result : Result Ended SimError} (old new : Option (List ℕ))
    → AsksForMemory task → ((a : T) (text : List ℕ) → Is a text → Shows task predictor text (ended a)) →
    IsAnswer Is answer old new → result ≡ ended_after ended answer
    → Ends task predictor old new result
Ends-after task predictor Is ended answer old new asks shows holds same = grind (arith, Ends-by_error, ended)

-- by a write that failed, of the text that the task has
pub Ends-by_write : (task : Task) (predictor : Guide) (ended : Ended) (text : List ℕ) (old new : Option (List ℕ))
    → Shows task predictor text ended → AppendsBeginning old new text → Ends task predictor old new (Err WriteFailed)
Ends-by_write task predictor ended text old new shows beginning = (text, ended, shows, beginning)

-- a task that was done with the predictor of its machine, and whose output the buffer handed back
pub ended_with : {W : Type 0} (contents : W → Option (List ℕ)) (task : Task) {predictor : Guide} (given output : W)
    (held : Option (List ℕ))
    (ended outcome : Result Ended SimError) {old new : FaultStream} {status : ℕ}
    → Ends task predictor (contents given) held ended → predictor ≡ untaught_of (predictor_of task) →
    PassesOn ended outcome held (contents output)
    → ReportsEnding old new outcome → status ≡ exit_status outcome →
    EndsWithin contents task given (Some output) old new status
ended_with contents task given output held ended outcome ends described passed reports is =
    grind (arith, ended_passed_on)
