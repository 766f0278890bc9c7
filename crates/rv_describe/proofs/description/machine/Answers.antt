use Rattle.rv_describe.proofs.Legal.{faultless, values_of-legal}
use Rattle.rv_describe.proofs.description.machine.Goals as goal

pub unwrap-requires : goal.unwrap-requires
unwrap-requires c = c.new.ensures.keys.1 (rw c.values.ensures (values_of-legal _ (faultless _ c.requires)))
