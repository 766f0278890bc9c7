use Rattle.std.proofs.Common.{rules}
use Rattle.std.proofs.lemmas.Fn.{filter_same}
use Rattle.rv_causes.specs.Holding.{goes_beyond}
use Rattle.rv_causes.proofs.holding.drop_ended.Goals as goal

pub returns-clause-items : goal.returns-clause-items
returns-clause-items c = filter_same _ (goes_beyond c.args.number) _ (λ x b f' k. search rules) _ _
    c.retain.ensures.filtered
