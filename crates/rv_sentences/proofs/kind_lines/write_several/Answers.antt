use Rattle.rv_sentences.specs.Exception.{several_text}
use Rattle.rv_text.proofs.Saying.{says_both, says_same}
use Rattle.rv_sentences.proofs.Cases.{otherwise}
use Rattle.rv_sentences.proofs.kind_lines.write_several.Goals as goal

pub returns : goal.returns
unfolding several_text
returns g c =
    says_same (otherwise c.args.all.now.count 1 _ _ c.if-all-eq1.false)
    (says_both c.write_taken.ensures c.write_kinds.ensures)
