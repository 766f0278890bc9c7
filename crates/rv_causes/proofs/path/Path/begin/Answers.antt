use Rattle.std.proofs.Common.{inr}
use Rattle.rv_causes.specs.Window.{kept_events}
use Rattle.rv_causes.proofs.Walks.{beyond-none}
use Rattle.rv_causes.proofs.path.Path.begin.Goals as goal

-- the beginning of the run is the first event
pub returns-clause-passes : goal.returns-clause-passes
returns-clause-passes c = c.push.ensures.new (inr (beyond-none (kept_events c.in_ok-window.window)))
