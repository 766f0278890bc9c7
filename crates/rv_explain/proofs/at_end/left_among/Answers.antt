use Rattle.std.proofs.Common.{arith}
use Rattle.rv_explain.proofs.AtEnd.{first_left}
use Rattle.rv_explain.proofs.at_end.left_among.Goals as goal

pub returns-then-have_left-clause-left : goal.returns-then-have_left-clause-left
returns-then-have_left-clause-left c = grind (arith, first_left)
