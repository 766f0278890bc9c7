-- Of hardware that a described predictor guides there is one path.
use Rattle.std.proofs.Common.{◌≡◌, ◌∙◌, ℕ, List, length, ap, sym}
use Rattle.rv_isa.specs.declared.lines.Arrival.{Arrival}
use Rattle.rv_passage.proofs.OneRun.{one_run}
use Rattle.rv_causes.specs.Path.{account_of_run}
use Rattle.rv_path.specs.Run.{IsPath}
use Rattle.rv_causes.specs.Lines.{account_text}
use Rattle.rv_source.specs.Listing.{Listed}
use Rattle.rv_view.specs.Run.{HasOneText}

-- of a run of described hardware there is one text of its path
pub one_path : (arrivals : List Arrival) (limit : ℕ) (listing : Listed) →
    HasOneText limit (IsPath arrivals limit listing)
one_path arrivals limit listing h predictor new new' stop stop' text text' within is is' =
    let one = is.accounted in
    let other = is'.accounted in
    let same = one_run within one.run other.run in
    let cycles : is.cycles ≡ is'.cycles = one.cycles_are ∙ ap length same.moments_are ∙ sym other.cycles_are in
    let account : is.account ≡ is'.account = one.account_is ∙ ap (account_of_run h) same.moments_are
    ∙ sym other.account_is in
    (same.reasons, is.text_is ∙ (λ i. account_text listing (cycles i) (account i)) ∙ sym is'.text_is)
