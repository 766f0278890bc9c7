use Rattle.std.proofs.Common.{eq-eqb, ne_eqb}
use Rattle.rv_sentences.specs.Work.{branches_text}
use Rattle.rv_sentences.proofs.work.write_branches.Goals as goal

pub returns : goal.returns
unfolding branches_text
returns g c = rw (ne_eqb c.args.work.now.branches 0 c.if-work-eq0.false) c.write_part.ensures
