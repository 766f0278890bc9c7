use Rattle.std.proofs.Common.{◌∙◌, Some, append-nil, ap, sym, arith}
use Rattle.std.specs.Prelude.{slice_set}
use Rattle.rv_causes.specs.Setting.{made_of, setting_of}
use Rattle.rv_causes.specs.Way.{with_stage}
use Rattle.rv_causes.specs.declared.{event.Event.Event, way.Way.Way}
use Rattle.rv_causes.proofs.Moves.{moved_here, new_here, new_if, none_at, way_at}
use Rattle.rv_causes.proofs.moving.move_on.Goals as goal

pub returns-in_default-clause-items : goal.returns-in_default-clause-items
returns-in_default-clause-items c = grind (arith, none_at, append-nil)

pub returns-in_default-advance_of-clause-ways : goal.returns-in_default-advance_of-clause-ways
returns-in_default-advance_of-clause-ways c = grind (arith, moved_here)

pub returns-in_default-advance_of-clause-items : goal.returns-in_default-advance_of-clause-items
returns-in_default-advance_of-clause-items c = grind (arith, new_here, append-nil)

pub returns-clause-ways : goal.returns-clause-ways
returns-clause-ways c =
    let s = setting_of c.args.scene.now in
    let ways = c.args.ways.now in
    let j = c.in-Some.found in
    let here =
    moved_here s c.args.leaving.now c.args.place ways j c.in-Some.ensures _ _ c.row-row.ensures c.way-way.ensures
    (Some c.in-Some-advance_of.advance) c.in-Some-advance_of.ensures in
    let view = c.advance.view_is in
    let set =
    c.set.ensures
    ∙ ap (λ (w : Way). with_stage c.advance.inside.stage c.made_of-event.result w)
    (way_at c.args.place s.rows ways j c.in-Some.ensures _)
    ∙ ap (λ (e : Event). with_stage c.advance.inside.stage e j.way) c.made_of-event.ensures
    ∙ (λ i. with_stage (view i).stage (made_of s (view i).stage (c.row-row.ensures i) (view i).waited) j.way) in
    ap (λ (w : Way). slice_set ways c.args.place w) set ∙ sym here

pub returns-clause-items : goal.returns-clause-items
returns-clause-items c = grind (arith, new_here, new_if)
