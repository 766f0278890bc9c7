use Rattle.std.proofs.Common.{arith}
use Rattle.rv_program.proofs.Viewed.{shown_whole}
use Rattle.rv_program.proofs.run_view.write_view.Goals as goal

pub returns-in-Log : goal.returns-in-Log
returns-in-Log g c = grind (arith, shown_whole)

pub returns-in-States : goal.returns-in-States
returns-in-States g c = grind (arith, shown_whole)

pub returns-in-Path : goal.returns-in-Path
returns-in-Path g c = grind (arith, shown_whole)
