use Rattle.std.proofs.Common.{arith}
use Rattle.rv_text.proofs.Saying.{says_same}
use Rattle.rv_explain.proofs.explanation.write_untaken_lines.Goals as goal

pub returns : goal.returns
returns g c = grind (arith, says_same)
