use Rattle.std.proofs.Common.{arith}
use Rattle.rv_states.specs.Listing.{listing_lines, numbered_line}
use Rattle.rv_text.proofs.Saying.{says_below, says_nothing}
use Rattle.rv_text.proofs.Writing.{texts_below}
use Rattle.rv_states.proofs.listing.write_listing.Goals as goal

pub loop-number-init : goal.loop-number-init
unfolding texts_below
loop-number-init g c = says_nothing _

pub loop-number-preserved : goal.loop-number-preserved
loop-number-preserved g c =
    says_below (numbered_line c.args.listing.now c.args.values.now.ram_base) c.loop-number.number
    c.loop-number.invariant c.write_numbered.ensures

pub returns : goal.returns
unfolding texts_below listing_lines
returns g c = grind arith
