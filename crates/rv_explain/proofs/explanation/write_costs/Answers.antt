use Rattle.rv_explain.specs.Explanation.{cost_text}
use Rattle.rv_text.proofs.Saying.{says_both}
use Rattle.rv_explain.proofs.explanation.write_costs.Goals as goal

pub returns : goal.returns
unfolding cost_text
returns g c =
    says_both c.write_cycles.ensures (says_both c.write_dispatches.ensures (says_both c.write_work.ensures
    (says_both c.write_worst.ensures (says_both c.write_stays.ensures (says_both c.write_loads.ensures
    (says_both c.write_drains.ensures c.write_hotspots.ensures))))))
