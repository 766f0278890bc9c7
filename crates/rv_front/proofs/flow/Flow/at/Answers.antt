-- No other opcode leads anywhere but to the next word.
use Rattle.std.proofs.Common.{sym, ◌∙◌}
use Rattle.rv_front.proofs.Elsewhere.{flow_at-sequential}
use Rattle.rv_front.proofs.flow.Flow.at.Goals as goal

pub returns-then-not-leads_elsewhere : goal.returns-then-not-leads_elsewhere
returns-then-not-leads_elsewhere c =
    sym (flow_at-sequential c.args.pc c.args.word c.ranges.word.fits
    (sym c.leads_elsewhere.ensures ∙ c.if-not-leads_elsewhere.true))
