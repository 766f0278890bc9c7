use Rattle.std.proofs.Common.{◌∙◌, arith}
use Rattle.rv_drawing.proofs.FewerMarks.{is_marked-drop}
use Rattle.rv_drawing.proofs.mark.from_first.Goals as goal

pub loop-rest-preserved : goal.loop-rest-preserved
loop-rest-preserved c =
    is_marked-drop c.loop-rest.rest.now c.args.number _ (omega (arith, c.in-len1-up.len_at_least))
    c.if-first-number.false ∙ c.loop-rest.invariant
