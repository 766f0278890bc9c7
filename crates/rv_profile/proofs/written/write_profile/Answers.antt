use Rattle.rv_profile.proofs.OneProfile.{one_profile}
use Rattle.rv_profile.proofs.written.write_profile.Goals as goal

-- whatever was written
pub returns-in_default-clause-one_profile : goal.returns-in_default-clause-one_profile
returns-in_default-clause-one_profile g c =
    one_profile c.args.arrivals.now c.args.limit c.args.description.now _ c.args.listing.now

pub returns-in-Ok-write_table-clause-one_profile : goal.returns-in-Ok-write_table-clause-one_profile
returns-in-Ok-write_table-clause-one_profile g c =
    one_profile c.args.arrivals.now c.args.limit c.args.description.now _ c.args.listing.now

pub returns-clause-one_profile : goal.returns-clause-one_profile
returns-clause-one_profile g c =
    one_profile c.args.arrivals.now c.args.limit c.args.description.now _ c.args.listing.now
