use Rattle.rv_report.proofs.speculation.take_step.Goals as goal

pub returns-in-Retired-clause-wrong : goal.returns-in-Retired-clause-wrong
returns-in-Retired-clause-wrong c = rw c.in-Retired.is (c.take_wrong.ensures.wrong c.in-Retired.field-0)
