use Rattle.rv_sentences.specs.Exception.{others_text}
use Rattle.rv_text.proofs.Saying.{says_same}
use Rattle.rv_sentences.proofs.Cases.{otherwise}
use Rattle.rv_sentences.proofs.kind_lines.write_others.Goals as goal

pub returns : goal.returns
unfolding others_text
returns g c = says_same (otherwise c.args.count 0 _ _ c.if-count-eq0.false) c.write_counted.ensures
