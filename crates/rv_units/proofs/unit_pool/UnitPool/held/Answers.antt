-- In the cycle of the latest starts all of them hold a unit, in another one none does.
use Rattle.std.proofs.Common.{arith}
use Rattle.std.proofs.lemmas.List.{length-replicate}
use Rattle.rv_units.proofs.PoolLemmas.{holding-now, holding-then}
use Rattle.rv_units.proofs.unit_pool.UnitPool.held.Goals as goal

pub returns-then-self-cycle : goal.returns-then-self-cycle
returns-then-self-cycle c =
    grind (arith, holding-now, length-replicate)

pub returns-else-self-cycle : goal.returns-else-self-cycle
returns-else-self-cycle c =
    grind (arith, holding-then)
