-- The views of a job's run.
use Rattle.std.proofs.Common.{◌≡◌, ℕ, List, None, Option, subst, sym, arith}
use Rattle.std.specs.Prelude.{Result}
use Rattle.rv_arch.specs.declared.outcome.Stop.{Stop}
use Rattle.rv_front.specs.Guide.{Guide}
use Rattle.rv_hardware.specs.Guided.{GuidedHardware, guided}
use Rattle.rv_hardware.specs.Hardware.{Hardware}
use Rattle.rv_job.specs.declared.listed_job.ListedJob.{ListedJob}
use Rattle.rv_picture.specs.declared.picture.RunEnd.{RunEnd}
use Rattle.rv_text.specs.IsText.{IsText}
use Rattle.rv_text.specs.declared.output.TextError.{TextError}
use Rattle.rv_program.specs.CoreReport.{hardware_of}
use Rattle.rv_program.specs.RunView.{IsShown, IsViewOf, whole_run}
use Rattle.rv_program.specs.declared.run_view.RunView.{RunView}

-- what was written of the run that begins where a job's does
pub view_of : (listed : ListedJob) {predictor : Guide} {h : Hardware} (end : GuidedHardware) (view : RunView)
    {ended : RunEnd} {text : List ℕ}
    → h ≡ hardware_of listed.job → IsShown view listed (guided h predictor) end ended text →
    IsViewOf listed predictor view ended text
view_of listed {predictor} end view {ended} {text} made shows =
    record { end = end; shows = subst (λ x. IsShown view listed (guided x predictor) end ended text) made shows }

written_whole : {Is : Stop → List ℕ → Type 0} (IsShownBy : RunEnd → List ℕ → Type 0) (written : Result Stop TextError)
    (old new : Option (List ℕ))
    → ((stop : Stop) (text : List ℕ) → Is stop text → IsShownBy (record { stop = stop; over = None }) text) →
    IsText Is written old new → IsText IsShownBy (whole_run written) old new
written_whole IsShownBy written old new shows is = grind arith

-- a view that is no picture
pub shown_whole : {Is : Stop → List ℕ → Type 0} (IsShownBy : RunEnd → List ℕ → Type 0)
    (written : Result Stop TextError) {result : Result RunEnd TextError} (old new : Option (List ℕ))
    → IsText Is written old new → result ≡ whole_run written →
    ((stop : Stop) (text : List ℕ) → Is stop text → IsShownBy (record { stop = stop; over = None }) text) →
    IsText IsShownBy result old new
shown_whole IsShownBy written old new writes same shows =
    subst (λ r. IsText IsShownBy r old new) (sym same) (written_whole IsShownBy written old new shows writes)
