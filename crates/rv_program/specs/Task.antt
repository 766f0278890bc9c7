-- What a command asks of an input, and how that ends.
use Rattle.std.specs.Prelude.{◌≡◌, ℕ, Bool, List, length, true, false, ⊤, Option, None, Some, Result, Ok, Err}
use Rattle.std.specs.Io.KnownBytes.{Appends, Keeps}
use Rattle.rv_arch.specs.declared.outcome.Stop.{Stop}
use Rattle.rv_arch.specs.declared.outcome.Stop.TheVariants.{Stale}
use Rattle.rv_command.specs.declared.command.Command.{Command}
use Rattle.rv_command.specs.declared.command.Command.TheVariants as command
use Rattle.rv_command.specs.declared.shown.{Shown.Shown, ShownColumns.ShownColumns}
use Rattle.rv_command.specs.declared.shown.Shown.TheVariants.{Register, Word, Places}
use Rattle.rv_explain.specs.declared.figures.Figures.{Figures}
use Rattle.rv_explain.specs.declared.figures.Figures.TheVariants.{Always, UnlessCrashed}
use Rattle.rv_front.specs.Guide.{Guide}
use Rattle.rv_isa.specs.Standard.{standard_values}
use Rattle.rv_isa.specs.declared.values.PredictorValues.{PredictorValues}
use Rattle.rv_job.specs.Comparison.{IsComparisonOf, RefusesComparison}
use Rattle.rv_job.specs.ImageRefusal.{RefusesImage}
use Rattle.rv_job.specs.ImageText.{IsDescribedImageOf, image_line}
use Rattle.rv_job.specs.JobRefusal.{RefusesJob}
use Rattle.rv_job.specs.JobText.{IsJobOf}
use Rattle.rv_job.specs.ListedJob.{IsListedJobOf}
use Rattle.rv_job.specs.declared.errors.SimError.{SimError}
use Rattle.rv_job.specs.declared.errors.SimError.TheVariants.{Memory, WriteFailed}
use Rattle.rv_picture.specs.declared.picture.{Form.Form, Rows.Rows, RunEnd.RunEnd, View.View}
use Rattle.rv_picture.specs.declared.picture.Form.TheVariants.{Text, Svg}
use Rattle.rv_picture.specs.declared.picture.Rows.TheVariants.{All, Unsquashed}
use Rattle.rv_report.specs.declared.{options.Options.Options}
use Rattle.rv_report.specs.declared.{shown.{Shown.Shown as ShownWord, TableOptions.TableOptions}}
use Rattle.rv_report.specs.declared.shown.Shown.TheVariants as cell
use Rattle.rv_sensitivity.specs.Setting.{changes_of}
use Rattle.rv_sensitivity.specs.declared.setting.Settings.{Settings}
use Rattle.rv_states.specs.declared.form.Form.{Form as StatesForm}
use Rattle.rv_states.specs.declared.form.Form.TheVariants.{Lines, Page}
use Rattle.rv_text.specs.Written.{AppendsBeginning}
use Rattle.rv_program.specs.Comparison.{IsComparisonTable}
use Rattle.rv_program.specs.CoreReport.{IsSimulation}
use Rattle.rv_program.specs.ReferenceReport.{IsReferenceReport}
use Rattle.rv_program.specs.RunView.{IsViewOf}
use Rattle.rv_program.specs.Sensitivity.{IsSensitivityTable}
use Rattle.rv_program.specs.declared.{ended.Ended.Ended, run_view.{RunView.RunView, Stretch.Stretch}, task.Task.Task}
use Rattle.rv_program.specs.declared.run_view.RunView.TheVariants as view
use Rattle.rv_program.specs.declared.task.Task.TheVariants.{Run, Reference, Check, Show, Compare, Sensitivity}

-- the options of a command; which words of memory a report shows is the job's to say
abbrev pub asked : Bool → ℕ → Options
asked trace limit = record { trace = trace; limit = limit; dump_address = 0; dump_words = 0 }

-- a picture is lines of characters where that is asked for, and else an SVG
abbrev pub form_of : Bool → Form
form_of true = Text
form_of false = Svg

-- a picture has no rows of squashed instructions where that is asked for
abbrev pub rows_of : Bool → Rows
rows_of true = Unsquashed
rows_of false = All

-- the view of a command
abbrev pub viewed : Bool → Bool → ℕ → ℕ → View
viewed text retired from cycles = record { form = form_of text; rows = rows_of retired; from = from; cycles = cycles }

-- an explanation has its figures after a crash too where that is asked for
abbrev pub figures_of : Bool → Figures
figures_of true = Always
figures_of false = UnlessCrashed

-- the cycles whose states are written in a form
abbrev pub stretch_of : StatesForm → ℕ → ℕ → Stretch
stretch_of form from limit = record { form = form; from = from; limit = limit }

-- a column of a table shows what is asked for
abbrev pub shown_word : Shown → ShownWord
shown_word (Register register) = cell.Register register
shown_word (Word address) = cell.Word address
shown_word Places = cell.Places

abbrev pub column_of : Option Shown → Option ShownWord
column_of None = None
column_of (Some asked) = Some (shown_word asked)

-- the options of a table
abbrev pub table_options : ShownColumns → ℕ → TableOptions
table_options asked limit = record {
  limit = limit;
  shown =
      record {
        first = column_of asked.first;
        second = column_of asked.second;
        third = column_of asked.third;
        fourth = column_of asked.fourth;
      };
}

-- the options of a table that shows nothing of the states at the ends
abbrev pub plain_options : ℕ → TableOptions
plain_options limit =
    record { limit = limit; shown = record { first = None; second = None; third = None; fourth = None } }

-- a task tries the neighbours of the machine of an input's job, among them those of settings of a user's own
abbrev pub AsksForNeighbours : Settings → ℕ → List ℕ → Task → Type 0
AsksForNeighbours also limit input (Sensitivity job own options) =
    IsJobOf input job × (own.items ≡ changes_of also) × (options ≡ plain_options limit)
AsksForNeighbours also limit input _ = ⊥

-- a task shows a view of the run of an input's job
abbrev pub AsksForView : RunView → List ℕ → Task → Type 0
AsksForView view input (Show listed asked_view) = IsListedJobOf input listed × (asked_view ≡ view)
AsksForView view input _ = ⊥

-- a task is what a command asks of an input
abbrev pub Asks : Command → List ℕ → Task → Type 0
Asks (command.Run trace limit) input (Run job options) = IsJobOf input job × (options ≡ asked trace limit)
Asks (command.Reference limit) input (Reference job options) = IsJobOf input job × (options ≡ asked false limit)
Asks command.Check input (Check made) = IsDescribedImageOf input made
Asks (command.Picture text retired path from cycles) input task =
    AsksForView (view.Picture (viewed text retired from cycles) path) input task
Asks (command.Log limit) input task = AsksForView (view.Log limit) input task
Asks (command.States from limit) input task = AsksForView (view.States (stretch_of Lines from limit)) input task
Asks (command.Page from limit) input task = AsksForView (view.States (stretch_of Page from limit)) input task
Asks (command.Explain figures path limit) input task =
    AsksForView (view.Explanation (figures_of figures) path limit) input task
Asks (command.Profile path limit) input task = AsksForView (view.Profile path limit) input task
Asks (command.Path limit) input task = AsksForView (view.Path limit) input task
Asks (command.Compare shown limit) input (Compare comparison options) =
    IsComparisonOf input comparison × (options ≡ table_options shown limit)
Asks (command.Sensitivity also limit) input task = AsksForNeighbours also limit input task
Asks _ input _ = ⊥

-- an input has an error for which a command refuses it
abbrev pub Refuses : Command → List ℕ → SimError → Type 0
Refuses (command.Run trace limit) input error = RefusesJob input error
Refuses (command.Reference limit) input error = RefusesJob input error
Refuses command.Check input error = RefusesImage input error
Refuses (command.Picture text retired path from cycles) input error = RefusesJob input error
Refuses (command.Log limit) input error = RefusesJob input error
Refuses (command.States from limit) input error = RefusesJob input error
Refuses (command.Page from limit) input error = RefusesJob input error
Refuses (command.Explain figures path limit) input error = RefusesJob input error
Refuses (command.Profile path limit) input error = RefusesJob input error
Refuses (command.Path limit) input error = RefusesJob input error
Refuses (command.Compare shown limit) input error = RefusesComparison input error
Refuses (command.Sensitivity also limit) input error = RefusesJob input error

-- the predictor that a task's machine has; each machine of a table has its own, and this one guides none of them
abbrev pub predictor_of : Task → PredictorValues
predictor_of (Run job options) = job.description.predictor
predictor_of (Reference job options) = job.description.predictor
predictor_of (Check made) = made.description.predictor
predictor_of (Show listed view) = listed.job.description.predictor
predictor_of (Compare comparison options) = standard_values.predictor
predictor_of (Sensitivity job own options) = standard_values.predictor

-- the exit status of a run
unfoldable pub stop_status : Stop → ℕ
stop_status (Stale pc) = 3
stop_status _ = 0

-- how a task ended whose run ended for a reason, and after so many cycles, where that was before those of a picture
abbrev pub ended_by : Stop → Option ℕ → Ended
ended_by stop over = record { status = stop_status stop; over = over }

-- how a task ended that has no run of its own
abbrev pub done : Ended
done = record { status = 0; over = None }

-- how a task ended, or its error, after what its call answered
abbrev pub ended_after : {T : Type 0} → (T → Ended) → Result T SimError → Result Ended SimError
ended_after ended (Ok answer) = Ok (ended answer)
ended_after ended (Err error) = Err error

-- the text of a task that was done with a predictor, and how that ended
abbrev pub Shows : Task → Guide → List ℕ → Ended → Type 0
Shows (Run job options) predictor text ended =
    (stop : Stop) × IsSimulation job predictor options stop text × (ended ≡ ended_by stop None)
Shows (Reference job options) predictor text ended =
    (stop : Stop) × IsReferenceReport job options stop text × (ended ≡ ended_by stop None)
Shows (Check made) predictor text ended =
    (text ≡ image_line (length made.image.bytes) made.image.start) × (ended ≡ done)
Shows (Show listed view) predictor text ended =
    (end : RunEnd) × IsViewOf listed predictor view end text × (ended ≡ ended_by end.stop end.over)
Shows (Compare comparison options) predictor text ended = IsComparisonTable comparison options text × (ended ≡ done)
Shows (Sensitivity job own options) predictor text ended =
    IsSensitivityTable job own.items options text × (ended ≡ done)

-- a task asks for memory, but for one that only says which image a job makes
abbrev pub AsksForMemory : Task → Type 0
AsksForMemory (Check made) = ⊥
AsksForMemory _ = ⊤

-- A task ended so, with a predictor: with its text whole, or by an error. The known bytes of its output go from old to new.
abbrev pub Ends : Task → Guide → Option (List ℕ) → Option (List ℕ) → Result Ended SimError → Type 0
Ends task predictor old new (Ok ended) = (text : List ℕ) × Shows task predictor text ended × Appends old new text
Ends task predictor old new (Err WriteFailed) =
    (text : List ℕ) × (ended : Ended) × Shows task predictor text ended × AppendsBeginning old new text
Ends task predictor old new (Err Memory) = AsksForMemory task × Keeps old new
Ends task predictor old new (Err _) = ⊥
