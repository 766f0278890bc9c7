-- There is one log of a run that a described predictor guides.
use Rattle.std.proofs.Common.{◌∙◌, ℕ, List, ap, sym}
use Rattle.rv_isa.specs.declared.lines.Arrival.{Arrival}
use Rattle.rv_log.specs.Log.{IsLog, log_text}
use Rattle.rv_passage.proofs.OneRun.{one_run}
use Rattle.rv_source.specs.Listing.{Listed}
use Rattle.rv_view.specs.Run.{HasOneText}

-- of a run of described hardware there is one log
pub one_log : (arrivals : List Arrival) (limit : ℕ) (listing : Listed) → HasOneText limit (IsLog arrivals limit listing)
one_log arrivals limit listing h predictor new new' stop stop' text text' within log log' =
    let same = one_run within log.run log'.run in
    (same.reasons, log.text_is ∙ ap (log_text listing h) same.moments_are ∙ sym log'.text_is)
