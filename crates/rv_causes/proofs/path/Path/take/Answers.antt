use Rattle.std.proofs.Common.{arith}
use Rattle.rv_causes.proofs.path.Path.take.Goals as goal

pub returns-clause-known : goal.returns-clause-known
returns-clause-known c events = grind arith

pub returns-clause-window : goal.returns-clause-window
returns-clause-window c = grind arith
