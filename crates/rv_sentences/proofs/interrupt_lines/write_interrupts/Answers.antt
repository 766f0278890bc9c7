use Rattle.rv_sentences.specs.Interrupt.{interrupts_text}
use Rattle.rv_text.proofs.Saying.{says_both}
use Rattle.rv_sentences.proofs.interrupt_lines.write_interrupts.Goals as goal

pub returns : goal.returns
unfolding interrupts_text
returns g c = says_both c.write_line.ensures (says_both c.write_line-2.ensures c.write_line-3.ensures)
