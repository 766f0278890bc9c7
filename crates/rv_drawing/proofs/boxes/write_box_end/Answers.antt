use Rattle.std.proofs.Common.{◌∙◌, ap}
use Rattle.std.specs.Prelude.{decimal}
use Rattle.rv_drawing.specs.SvgBoxes.{box_end}
use Rattle.rv_text.proofs.Saying.{says_same}
use Rattle.rv_drawing.proofs.boxes.write_box_end.Goals as goal

pub returns : goal.returns
unfolding box_end
returns g c =
    let cycle = c.digits-cycle.ensures ∙ ap decimal c.from.ensures in
    let middle = c.box_middle-middle.ensures in
    let letter = c.letter-letter.ensures in
    says_same (λ i. box_end (cycle i) (middle i) (letter i)) c.put_all.ensures
