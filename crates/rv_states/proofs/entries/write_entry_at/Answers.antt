use Rattle.std.proofs.Common.{arith}
use Rattle.rv_states.proofs.Status.{entry_at}
use Rattle.rv_states.proofs.entries.write_entry_at.Goals as goal

pub returns : goal.returns
returns g c = grind (arith, entry_at)
