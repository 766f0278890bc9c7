-- Of hardware that a described predictor guides there is one profile.
use Rattle.std.proofs.Common.{◌≡◌, ◌∙◌, ℕ, List, Option, ap, subst, sym}
use Rattle.rv_isa.specs.declared.{lines.Arrival.Arrival, values.Values.Values}
use Rattle.rv_hardware.specs.History.{Moment}
use Rattle.rv_passage.proofs.OneRun.{one_run}
use Rattle.rv_causes.specs.Account.{Accounted}
use Rattle.rv_source.specs.Listing.{Listed}
use Rattle.rv_counts.specs.Head.{heads_of}
use Rattle.rv_counts.specs.Left.{passages_of_run}
use Rattle.rv_counts.specs.Load.{costs_of}
use Rattle.rv_counts.specs.Profile.{IsProfileOf}
use Rattle.rv_counts.proofs.OneProfile.{counted_once}
use Rattle.rv_profile.specs.Run.{IsProfile}
use Rattle.rv_profile.specs.Text.{table_text}
use Rattle.rv_view.specs.Run.{HasOneText}

-- of a run of described hardware there is one profile
pub one_profile : (arrivals : List Arrival) (limit : ℕ) (values : Values) (path : Option Accounted) (listing : Listed) →
    HasOneText limit (IsProfile arrivals limit values path listing)
one_profile arrivals limit values path listing h predictor new new' stop stop' text text' within is is' =
    let same = one_run within is.counts.run is'.counts.run in
    let counted = subst (λ (moments : List Moment). IsProfileOf (costs_of values) (passages_of_run h moments)
    (heads_of moments) is.words) same.moments_are is.counts.counted in
    let words : is.words ≡ is'.words = counted_once is.words is'.words counted is'.counts.counted in
    (same.reasons, is.text_is ∙ ap (table_text listing path) words ∙ sym is'.text_is)
