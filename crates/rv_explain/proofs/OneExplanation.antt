-- Of hardware that a described predictor guides there is one explanation.
use Rattle.std.proofs.Common.{ℕ, List, Option, arith}
use Rattle.rv_isa.specs.declared.{lines.Arrival.Arrival, values.Values.Values}
use Rattle.rv_passage.proofs.OneRun.{one_run}
use Rattle.rv_causes.specs.Account.{Accounted}
use Rattle.rv_source.specs.Listing.{Listed}
use Rattle.rv_explain.specs.declared.figures.Figures.{Figures}
use Rattle.rv_explain.specs.Explanation.{IsExplanation}
use Rattle.rv_view.specs.Run.{HasOneText}

-- of a run of described hardware there is one explanation
pub one_explanation : (arrivals : List Arrival) (limit : ℕ) (figures : Figures) (values : Values)
    (path : Option Accounted) (listing : Listed) →
    HasOneText limit (IsExplanation arrivals limit figures values path listing)
one_explanation arrivals limit figures values path listing h predictor new new' stop stop' text text' within is is' =
    grind (arith, one_run)
