use Rattle.rv_drawing.specs.SvgLegend.{svg_legend}
use Rattle.rv_text.proofs.Saying.{says_both, says_same}
use Rattle.rv_drawing.proofs.legend.write_legend.Goals as goal

pub returns : goal.returns
unfolding svg_legend
returns g c = says_both c.write_letters.ensures
    (says_both (says_same c.mark_entry.ensures c.put.ensures) c.put-2.ensures)
