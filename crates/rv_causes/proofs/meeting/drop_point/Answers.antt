use Rattle.std.proofs.Common.{rules}
use Rattle.std.specs.Prelude.{not}
use Rattle.std.proofs.lemmas.Fn.{filter_same}
use Rattle.rv_causes.specs.Point.{is_point}
use Rattle.rv_causes.specs.declared.point.Point.{Point}
use Rattle.rv_causes.proofs.meeting.drop_point.Goals as goal

pub returns-clause-items : goal.returns-clause-items
returns-clause-items c =
    filter_same _ (λ (point : Point). not (is_point c.args.at.now point)) _
    (λ x b f' k. search rules) _ _ c.retain.ensures.filtered
