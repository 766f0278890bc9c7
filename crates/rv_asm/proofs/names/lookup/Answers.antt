use Rattle.std.proofs.Common.{arith}
use Rattle.std.proofs.lemmas.List.{drop_all}
use Rattle.rv_asm.proofs.Named.{named-here, named-after}
use Rattle.rv_asm.specs.Names.{named}
use Rattle.rv_asm.proofs.names.lookup.Goals as goal

pub loop-row-preserved : goal.loop-row-preserved
loop-row-preserved g c = grind (arith, named-after)

pub returns-then-eq : goal.returns-then-eq
returns-then-eq g c = grind (arith, named-here)

pub returns : goal.returns
returns g c = grind (arith, named, drop_all)
