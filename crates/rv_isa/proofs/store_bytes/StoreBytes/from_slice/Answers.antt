use Rattle.rv_isa.proofs.Padded.{padded_fits}
use Rattle.rv_isa.proofs.store_bytes.StoreBytes.from_slice.Goals as goal

pub invariant_of-result : goal.invariant_of-result
invariant_of-result c = rw c.copy_from_slice.ensures.after (padded_fits c.args.bytes.now c.requires)
