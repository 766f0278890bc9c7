use Rattle.std.proofs.Common.{arith}
use Rattle.rv_hardware.proofs.Always.Sound.{sound}
use Rattle.rv_states.proofs.OneText.{one_text}
use Rattle.rv_states.proofs.states.write_states.Goals as goal

pub new-requires : goal.new-requires
new-requires g c = grind (arith, sound)

-- whatever was written
pub returns-in_default-clause-one_text : goal.returns-in_default-clause-one_text
returns-in_default-clause-one_text g c =
    one_text c.args.arrivals.now c.args.from c.args.limit c.args.form c.args.listing.now

pub returns-in_default-new-clause-one_text : goal.returns-in_default-new-clause-one_text
returns-in_default-new-clause-one_text g c =
    one_text c.args.arrivals.now c.args.from c.args.limit c.args.form c.args.listing.now

pub returns-then-shown-clause-one_text : goal.returns-then-shown-clause-one_text
returns-then-shown-clause-one_text g c =
    one_text c.args.arrivals.now c.args.from c.args.limit c.args.form c.args.listing.now

pub returns-else-shown-clause-one_text : goal.returns-else-shown-clause-one_text
returns-else-shown-clause-one_text g c =
    one_text c.args.arrivals.now c.args.from c.args.limit c.args.form c.args.listing.now

pub returns-in_default-with_capacity-clause-one_text : goal.returns-in_default-with_capacity-clause-one_text
returns-in_default-with_capacity-clause-one_text g c =
    one_text c.args.arrivals.now c.args.from c.args.limit c.args.form c.args.listing.now
