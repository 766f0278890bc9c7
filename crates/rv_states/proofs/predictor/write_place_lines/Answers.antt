use Rattle.std.proofs.Common.{arith}
use Rattle.rv_states.specs.Predictor.{place_line, place_lines}
use Rattle.rv_text.proofs.Saying.{says_below, says_nothing}
use Rattle.rv_text.proofs.Writing.{texts_below}
use Rattle.rv_states.proofs.predictor.write_place_lines.Goals as goal

pub loop-place-init : goal.loop-place-init
unfolding texts_below
loop-place-init g c = says_nothing _

pub loop-place-preserved : goal.loop-place-preserved
loop-place-preserved g c = says_below (place_line c.args.tables.now) c.loop-place.place c.loop-place.invariant
    c.write_place_line.ensures

pub returns : goal.returns
unfolding texts_below place_lines
returns g c = grind arith
