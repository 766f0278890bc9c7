-- No kind learns anything.
use Rattle.std.proofs.Common.{sym, ◌∙◌}
use Rattle.rv_front.proofs.Elsewhere.{taught-sequential}
use Rattle.rv_front.proofs.predictors.DescribedPredictorPredictor.learn.Goals as goal

pub returns-else-leads_elsewhere : goal.returns-else-leads_elsewhere
returns-else-leads_elsewhere c =
    sym (taught-sequential c.args.self.now c.args.pc c.args.word c.args.next c.ranges.word.fits
    (sym c.leads_elsewhere.ensures ∙ c.if-leads_elsewhere.false))
