use Rattle.rv_describe.specs.Fault.{first_place}
use Rattle.rv_describe.proofs.faults.first_place.Goals as goal

pub returns : goal.returns
unfolding first_place
returns c = rw (← c.all_keys.ensures) c.first_among.ensures
