use Rattle.rv_sentences.specs.Work.{work_text}
use Rattle.rv_text.proofs.Saying.{says_both}
use Rattle.rv_sentences.proofs.work.write_work.Goals as goal

pub returns : goal.returns
unfolding work_text
returns g c = says_both c.write_part.ensures c.write_branches.ensures
