-- Of hardware that a described predictor guides there is one text of its states.
use Rattle.std.proofs.Common.{ℕ, List, arith}
use Rattle.rv_isa.specs.declared.lines.Arrival.{Arrival}
use Rattle.rv_passage.proofs.OneRun.{one_run}
use Rattle.rv_source.specs.Listing.{Listed}
use Rattle.rv_states.specs.States.{IsStates}
use Rattle.rv_states.specs.declared.form.Form.{Form}
use Rattle.rv_view.specs.Run.{HasOneText}

-- of a run of described hardware there is one text of its states
pub one_text : (arrivals : List Arrival) (from limit : ℕ) (form : Form) (listing : Listed) →
    HasOneText limit (IsStates arrivals from limit form listing)
one_text arrivals from limit form listing h predictor new new' stop stop' text text' within is is' =
    grind (arith, one_run)
