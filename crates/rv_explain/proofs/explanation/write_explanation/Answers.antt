use Rattle.std.proofs.Common.{arith}
use Rattle.rv_explain.proofs.Explained.{can_be_written, explained}
use Rattle.rv_explain.proofs.OneExplanation.{one_explanation}
use Rattle.rv_explain.proofs.explanation.write_explanation.Goals as goal

pub run_tallied-tallied-requires-clause-of_no_cycle : goal.run_tallied-tallied-requires-clause-of_no_cycle
run_tallied-tallied-requires-clause-of_no_cycle g c = c.in-Ok.ensures.of_no_cycle

pub write_run_text-written-requires : goal.write_run_text-written-requires
write_run_text-written-requires g c = rw c.shown.ensures (can_be_written c.run_tallied-tallied.ensures (omega arith))

pub returns-in-Ok-written-clause-written : goal.returns-in-Ok-written-clause-written
returns-in-Ok-written-clause-written g c = grind (arith, explained)

pub returns-in-Err-WriteFailed-clause-written : goal.returns-in-Err-WriteFailed-clause-written
returns-in-Err-WriteFailed-clause-written g c = grind (arith, explained)

-- whatever was written
pub returns-in_default-clause-one_explanation : goal.returns-in_default-clause-one_explanation
returns-in_default-clause-one_explanation g c =
    one_explanation c.args.arrivals.now c.args.limit c.args.figures c.args.description.now _ c.args.listing.now

pub returns-in-Ok-written-clause-one_explanation : goal.returns-in-Ok-written-clause-one_explanation
returns-in-Ok-written-clause-one_explanation g c =
    one_explanation c.args.arrivals.now c.args.limit c.args.figures c.args.description.now _ c.args.listing.now

pub returns-in-Err-WriteFailed-clause-one_explanation : goal.returns-in-Err-WriteFailed-clause-one_explanation
returns-in-Err-WriteFailed-clause-one_explanation g c =
    one_explanation c.args.arrivals.now c.args.limit c.args.figures c.args.description.now _ c.args.listing.now
