use Rattle.std.proofs.Common.{◌∙◌, ◌-◌, arith, length, length-take}
use Rattle.rv_drawing.proofs.FewerMarks.{is_marked-take}
use Rattle.rv_drawing.proofs.mark.up_to_last.Goals as goal

pub loop-rest-preserved : goal.loop-rest-preserved
loop-rest-preserved c =
    let rest = c.loop-rest.rest.now in
    record {
      same = is_marked-take rest c.args.number _ (omega (arith, c.in-len1-up.len_at_least)) c.if-last-number.false
          ∙ c.loop-rest.invariant.same;
      few = omega (arith, length-take (length rest - 1) rest, c.loop-rest.invariant.few);
    }
