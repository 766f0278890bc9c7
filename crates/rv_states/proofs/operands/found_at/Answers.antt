use Rattle.std.proofs.Common.{◌∙◌}
use Rattle.rv_rob.proofs.Places.{entry_of-distance}
use Rattle.rv_states.proofs.operands.found_at.Goals as goal

pub returns : goal.returns
returns c = c.get.ensures ∙ entry_of-distance _ _ _ _ c.number_at.ensures
