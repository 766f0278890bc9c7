use Rattle.std.proofs.Common.{◌<◌, length, arith}
use Rattle.rv_states.proofs.Arrays.{says_value}
use Rattle.rv_states.proofs.array.write_values.Goals as goal

pub loop-place-preserved : goal.loop-place-preserved
loop-place-preserved g c =
    let here : c.loop-place.place < length (g.T.Values.values c.args.values.now) = omega arith in
    says_value _ _ here c.loop-place.invariant c.write_after_comma.ensures
