use Rattle.std.proofs.Common.{arith, append_assoc}
use Rattle.rv_causes.proofs.moving.move_all.Goals as goal

pub move_at-requires : goal.move_at-requires
move_at-requires c = grind arith

pub loop-place-preserved : goal.loop-place-preserved
loop-place-preserved c = grind (arith, append_assoc)
