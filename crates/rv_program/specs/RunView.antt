-- What is shown of a job's run.
use Rattle.std.specs.Prelude.{◌≡◌, ℕ, ◌+◌, List, Option, None, Result, Ok, Err}
use Rattle.rv_arch.specs.declared.outcome.Stop.{Stop}
use Rattle.rv_drawing.specs.declared.mark.Mark.{Mark}
use Rattle.rv_explain.specs.Explanation.{IsExplanation}
use Rattle.rv_front.specs.Guide.{Guide}
use Rattle.rv_hardware.specs.Guided.{GuidedHardware}
use Rattle.rv_job.specs.declared.listed_job.ListedJob.{ListedJob}
use Rattle.rv_log.specs.Log.{IsLog}
use Rattle.rv_picture.specs.Picture.{IsPicture}
use Rattle.rv_picture.specs.declared.picture.RunEnd.{RunEnd}
use Rattle.rv_profile.specs.Run.{IsProfile}
use Rattle.rv_path.specs.Run.{IsPath}
use Rattle.rv_causes.specs.Account.{Accounted}
use Rattle.rv_states.specs.States.{IsStates}
use Rattle.rv_text.specs.declared.output.TextError.{TextError}
use Rattle.rv_program.specs.AskedPath.{AreMarksOf, IsAccountOf, IsAskedFor}
use Rattle.rv_program.specs.CoreReport.{core_of}
use Rattle.rv_program.specs.declared.run_view.RunView.{RunView}
use Rattle.rv_program.specs.declared.run_view.RunView.TheVariants.{Picture, Log, States, Explanation, Profile, Path}

-- how the run of any view but a picture ended: a picture alone says that its run ended before its cycles
abbrev pub whole_run : Result Stop TextError → Result RunEnd TextError
whole_run (Ok stop) = Ok (record { stop = stop; over = None })
whole_run (Err error) = Err error

-- A text is what a view shows of a run of guided hardware from one state to another, with the lines of the job's
-- program, and the critical path where it is asked for; and that is how the run ended.
abbrev pub IsShown : RunView → ListedJob → GuidedHardware → GuidedHardware → RunEnd → List ℕ → Type 0
IsShown (Picture view path) listed old new ended text =
    (marks : Option (List Mark)) × IsAskedFor path (AreMarksOf listed.job view) marks
    × IsPicture listed.job.arrivals view marks listed.listing old new ended text
IsShown (Log limit) listed old new ended text =
    IsLog listed.job.arrivals limit listed.listing old new ended.stop text × (ended.over ≡ None)
IsShown (States stretch) listed old new ended text =
    IsStates listed.job.arrivals stretch.from stretch.limit stretch.form listed.listing old new ended.stop text
    × (ended.over ≡ None)
IsShown (Explanation figures path limit) listed old new ended text =
    (account : Option Accounted) × IsAskedFor path (IsAccountOf listed.job limit) account
    × IsExplanation listed.job.arrivals limit figures listed.job.description account listed.listing
    old new ended.stop text × (ended.over ≡ None)
IsShown (Profile path limit) listed old new ended text =
    (account : Option Accounted) × IsAskedFor path (IsAccountOf listed.job limit) account
    × IsProfile listed.job.arrivals limit listed.job.description account listed.listing
    old new ended.stop text × (ended.over ≡ None)
IsShown (Path limit) listed old new ended text =
    IsPath listed.job.arrivals limit listed.listing old new ended.stop text × (ended.over ≡ None)

-- the most cycles of a view's run
abbrev pub limit_of : RunView → ℕ
limit_of (Picture view path) = view.from + view.cycles
limit_of (Log limit) = limit
limit_of (States stretch) = stretch.limit
limit_of (Explanation figures path limit) = limit
limit_of (Profile path limit) = limit
limit_of (Path limit) = limit

-- A text is what a view shows of the run of the described hardware that a predictor guides, from reset with the job's
-- image; and that is how the run ended.
pub record IsViewOf (listed : ListedJob) (predictor : Guide) (view : RunView) (ended : RunEnd)
    (text : List ℕ) : Type 0 where
  pub end : GuidedHardware
  pub shows : IsShown view listed (core_of listed.job predictor) end ended text
