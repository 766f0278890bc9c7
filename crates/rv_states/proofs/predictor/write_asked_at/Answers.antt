use Rattle.std.proofs.Common.{sym, ap, arith}
use Rattle.rv_states.specs.Json.{values_from}
use Rattle.rv_states.specs.Predictor.{asked_in}
use Rattle.rv_states.proofs.Arrays.{missing_given}
use Rattle.rv_text.proofs.Saying.{says_nothing, says_same}
use Rattle.rv_states.proofs.predictor.write_asked_at.Goals as goal

pub returns-in-None-clause-said : goal.returns-in-None-clause-said
returns-in-None-clause-said g c =
    let values = asked_in c.args.predictor.now c.args.cycle in
    says_same (ap (values_from c.args.written)
    (missing_given values c.args.front.now.entries _ (sym c.in-None.ensures))) (says_nothing _)

pub returns-in-None-clause-count : goal.returns-in-None-clause-count
returns-in-None-clause-count g c = grind (arith, missing_given)
