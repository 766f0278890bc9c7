use Rattle.std.proofs.Common.{arith}
use Rattle.rv_hardware.specs.Seen.{layout_of, seen}
use Rattle.rv_report.specs.Memory.{seen_memory_lines}
use Rattle.rv_report.proofs.MemoryLines.{line_in, line_is}
use Rattle.rv_text.proofs.Writing.{texts_below}
use Rattle.rv_text.proofs.Saying.{says_below, says_nothing, says_same}
use Rattle.rv_report.proofs.memory.write_memory.Goals as goal

pub loop-number-init : goal.loop-number-init
unfolding texts_below
loop-number-init g c = says_nothing _

pub loop-number-preserved : goal.loop-number-preserved
loop-number-preserved g c =
    let layout = layout_of c.args.hardware.now.values in
    let ram = (seen c.args.hardware.now).ram in
    let is = line_is layout ram c.args.address c.loop-number.number c.word_at.result c.word_at.ensures in
    says_below (line_in layout ram c.args.address) c.loop-number.number c.loop-number.invariant
    (says_same is c.write_word.ensures)

pub returns : goal.returns
unfolding texts_below seen_memory_lines
returns g c = grind arith
