use Rattle.std.proofs.Common.{ap, arith}
use Rattle.rv_states.specs.Memory.{memory_line, memory_lines}
use Rattle.rv_states.specs.Place.{word_address}
use Rattle.rv_text.proofs.Saying.{says_below, says_nothing, says_same}
use Rattle.rv_text.proofs.Writing.{texts_below}
use Rattle.rv_states.proofs.memory.write_memory.Goals as goal

pub loop-number-init : goal.loop-number-init
unfolding texts_below
loop-number-init g c = says_nothing _

pub loop-number-preserved : goal.loop-number-preserved
loop-number-preserved g c =
    let line = says_same (ap (memory_line c.args.hardware.now) c.word_address.ensures) c.write_memory_line.ensures in
    says_below (λ number. memory_line c.args.hardware.now (word_address c.values-values.result.now.ram_base number))
    c.loop-number.number c.loop-number.invariant line

pub returns : goal.returns
unfolding texts_below memory_lines
returns g c = grind arith
