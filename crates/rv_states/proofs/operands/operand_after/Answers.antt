use Rattle.rv_watch.specs.Registers.{values_in}
use Rattle.rv_states.proofs.Status.{given_more}
use Rattle.rv_states.proofs.operands.operand_after.Goals as goal

pub loop-place-preserved : goal.loop-place-preserved
loop-place-preserved c =
    given_more (values_in c.args.registers.now) c.args.buffer.now _ c.loop-place.place _ c.args.register _ _
    c.number_at.ensures c.entry_at-entry.ensures c.loop-place.invariant c.given_with-operand.ensures
