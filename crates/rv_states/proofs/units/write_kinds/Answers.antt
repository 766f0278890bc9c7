use Rattle.rv_states.specs.Units.{units_json}
use Rattle.rv_text.proofs.Saying.{says_both}
use Rattle.rv_states.proofs.units.write_kinds.Goals as goal

pub returns : goal.returns
unfolding units_json
returns g c =
    says_both c.write_first.ensures
    (says_both c.write_array_member.ensures
    (says_both c.write_array_member-2.ensures (says_both c.write_array_member-3.ensures c.put.ensures)))
