use Rattle.std.proofs.Common.{arith}
use Rattle.rv_core.proofs.Ties.Queue.{answered-other}
use Rattle.rv_core.proofs.broadcast.fill_store.Goals as goal

pub returns-then-not-is_store : goal.returns-then-not-is_store
returns-then-not-is_store c = grind (arith, answered-other)
