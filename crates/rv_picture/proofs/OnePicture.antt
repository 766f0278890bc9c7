-- Of hardware that a described predictor guides there is one picture of a view.
use Rattle.std.proofs.Common.{◌+◌, ◌∙◌, List, Option, sym}
use Rattle.rv_isa.specs.declared.lines.Arrival.{Arrival}
use Rattle.rv_drawing.specs.Over.{over_of}
use Rattle.rv_drawing.specs.declared.mark.Mark.{Mark}
use Rattle.rv_passage.proofs.OneRun.{one_run}
use Rattle.rv_picture.specs.Picture.{IsPicture, view_text}
use Rattle.rv_picture.specs.Recording.{recorded_after}
use Rattle.rv_picture.specs.declared.picture.View.{View}
use Rattle.rv_source.specs.Listing.{Listed}
use Rattle.rv_view.specs.Run.{HasOneText}

-- of a run of described hardware there is one picture
pub one_picture : (arrivals : List Arrival) (view : View) (marks : Option (List Mark)) (listing : Listed) →
    HasOneText (view.from + view.cycles) (IsPicture arrivals view marks listing)
one_picture arrivals view marks listing h predictor new new' end end' text text' within is is' =
    let same = one_run within is.run is'.run in
    let over = is.over_is ∙ (λ i. over_of (recorded_after view.from h (same.moments_are i) (same.reasons i)).window)
    ∙ sym is'.over_is in (
      λ i. record { stop = same.reasons i; over = over i },
      is.text_is ∙ (λ i. view_text view marks listing
          (recorded_after view.from h (same.moments_are i) (same.reasons i))) ∙ sym is'.text_is,
    )
