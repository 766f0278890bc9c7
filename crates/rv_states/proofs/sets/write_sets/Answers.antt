use Rattle.std.proofs.Common.{arith}
use Rattle.rv_states.specs.Sets.{set_line, set_lines}
use Rattle.rv_text.proofs.Saying.{says_below, says_nothing}
use Rattle.rv_text.proofs.Writing.{texts_below}
use Rattle.rv_states.proofs.sets.write_sets.Goals as goal

pub loop-set-init : goal.loop-set-init
unfolding texts_below
loop-set-init g c = says_nothing _

pub loop-set-preserved : goal.loop-set-preserved
loop-set-preserved g c = says_below (set_line c.args.hardware.now) c.loop-set.set c.loop-set.invariant
    c.write_set_line.ensures

pub returns : goal.returns
unfolding texts_below set_lines
returns g c = grind arith
