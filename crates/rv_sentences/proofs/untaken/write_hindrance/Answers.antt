use Rattle.rv_sentences.specs.Untaken.{hindrance_text}
use Rattle.rv_sentences.proofs.untaken.write_hindrance.Goals as goal

pub returns-else-global : goal.returns-else-global
unfolding hindrance_text
returns-else-global g c = rw (c.if-enabled.false, c.if-global.false) c.write_bit-else-global.ensures
