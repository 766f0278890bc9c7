-- Each kind answers the next word.
use Rattle.std.proofs.Common.{sym, ◌∙◌}
use Rattle.rv_front.proofs.Elsewhere.{answer-sequential}
use Rattle.rv_front.proofs.predictors.DescribedPredictorPredictor.predict.Goals as goal

pub returns-then-not-leads_elsewhere : goal.returns-then-not-leads_elsewhere
returns-then-not-leads_elsewhere c =
    sym (answer-sequential c.args.self.now c.args.pc c.args.word c.ranges.word.fits (sym c.leads_elsewhere.ensures
    ∙ c.if-not-leads_elsewhere.true))
