use Rattle.std.proofs.Common.{arith}
use Rattle.rv_sentences.proofs.OutcomesGrow.{no_load}
use Rattle.rv_sentences.proofs.outcomes.count_in.Goals as goal

pub returns-in-None : goal.returns-in-None
returns-in-None c = grind (arith, no_load)
