-- One more start of the cycle, or one more that holds a unit.
use Rattle.std.proofs.Common.{rules, arith, ◌≡◌}
use Rattle.std.proofs.lemmas.Fn.{filter_same}
use Rattle.std.proofs.lemmas.Bool.{ltb-true}
use Rattle.rv_units.specs.Pool.{holding, holds_unit}
use Rattle.rv_units.proofs.PoolLemmas.{started-pipelined}
use Rattle.rv_units.proofs.unit_pool.UnitPool.start.Goals as goal

pub returns-then-self : goal.returns-then-self
returns-then-self c =
    let held = rw (← c.self.view_is, c.if-self.true) at c.held.ensures in
    rw (← c.self.view_is)
    (rw (c.if-self.true, held)
    (started-pipelined c.self.inside.units c.args.cost c.args.cycle c.self.inside.latest c.self.inside.count))

kept : (c : goal.After-push_reserved) → c.retain.new.self.items ≡ holding c.args.cycle c.self.inside.starts.items
kept c = filter_same _ (holds_unit c.args.cycle) _ (λ x b f' k. search rules) _ _ c.retain.ensures.filtered

pub push_reserved-requires : goal.push_reserved-requires
push_reserved-requires c =
    let kept : c.retain.new.self.items ≡ holding c.args.cycle c.self.inside.starts.items =
    filter_same _ (holds_unit c.args.cycle) _ (λ x b f' k. search rules) _ _ c.retain.ensures.filtered in
    grind (arith, kept, ltb-true)

pub returns : goal.returns
returns c =
    grind (arith, kept)
