use Rattle.std.proofs.Common.{append_assoc, append-nil, arith, sym}
use Rattle.std.proofs.lemmas.List.{take_all}
use Rattle.rv_asm.proofs.listing.push_section.Goals as goal

pub loop-rest-preserved : goal.loop-rest-preserved
loop-rest-preserved c = grind (arith, take_all, append_assoc)

pub returns : goal.returns
returns c = rw (sym (take_all 0 c.loop-rest.rest.now (omega arith)), append-nil) at c.loop-rest.invariant
