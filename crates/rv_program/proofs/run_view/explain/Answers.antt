use Rattle.std.proofs.Common.{arith}
use Rattle.rv_program.proofs.Viewed.{shown_whole}
use Rattle.rv_program.proofs.run_view.explain.Goals as goal

pub returns : goal.returns
returns g c = grind (arith, shown_whole)
