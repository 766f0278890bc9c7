-- The critical path of a job's run, where a view is to show it.
use Rattle.std.specs.Prelude.{◌≡◌, ℕ, Bool, true, false, List, Option, Some, None}
use Rattle.rv_drawing.specs.declared.mark.Mark.{Mark}
use Rattle.rv_hardware.specs.Guided.{GuidedHardware}
use Rattle.rv_job.specs.declared.job.Job.{Job}
use Rattle.rv_path.specs.Marking.{IsMarked}
use Rattle.rv_path.specs.PathAccount.{IsPathAccount}
use Rattle.rv_causes.specs.Account.{Accounted}
use Rattle.rv_picture.specs.declared.picture.View.{View}
use Rattle.rv_program.specs.CoreReport.{core_of, untaught_of}

-- the hardware that a job describes, at reset with the job's image, guided by the predictor that it describes
abbrev pub own_core : Job → GuidedHardware
own_core job = core_of job (untaught_of job.description.predictor)

-- marks are those of the path of its run up to the end of the cycles in view
abbrev pub AreMarksOf : Job → View → List Mark → Type 0
AreMarksOf job view marks =
    (end : GuidedHardware) × IsMarked job.arrivals view.from view.cycles (own_core job) end marks

-- an account is that of the path of its run of at most so many cycles
abbrev pub IsAccountOf : Job → ℕ → Accounted → Type 0
IsAccountOf job limit account = (end : GuidedHardware) × IsPathAccount job.arrivals limit (own_core job) end account

-- what is asked for is there, and right, and else nothing is
abbrev pub IsAskedFor : {T : Type 0} → Bool → (T → Type 0) → Option T → Type 0
IsAskedFor false Is found = found ≡ None
IsAskedFor true Is (Some found) = Is found
IsAskedFor true Is None = ⊥
