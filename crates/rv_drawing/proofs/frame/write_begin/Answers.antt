use Rattle.std.proofs.Common.{◌∙◌, ap}
use Rattle.std.specs.Prelude.{decimal}
use Rattle.rv_drawing.specs.SvgFrame.{svg_begin, svg_sized}
use Rattle.rv_text.proofs.Saying.{says_same}
use Rattle.rv_drawing.proofs.frame.write_begin.Goals as goal

pub returns : goal.returns
unfolding svg_begin svg_sized
returns g c =
    let wide = c.digits-wide.ensures ∙ ap decimal c.width.ensures in
    let high = c.digits-high.ensures ∙ ap decimal c.height.ensures in
    says_same (λ i. svg_sized (wide i) (high i)) c.put_all.ensures
