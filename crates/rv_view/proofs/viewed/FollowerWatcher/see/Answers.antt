use Rattle.std.proofs.Common.{arith, rules}
use Rattle.rv_text.proofs.Saying.{says_extends}
use Rattle.rv_view.proofs.Viewing.{can_follow, few_now, rows_now, still_on, viewing_on}
use Rattle.rv_view.proofs.viewed.FollowerWatcher.see.Goals as goal

pub follow_on-requires-clause-ready : goal.follow_on-requires-clause-ready
follow_on-requires-clause-ready g c =
    let (start, seen, before, shown, viewing) = c.requires.shown in
    can_follow g.V.View.has_seen g.V.View.text shown viewing

pub follow_on-requires-clause-still : goal.follow_on-requires-clause-still
follow_on-requires-clause-still g c =
    let (start, seen, before, shown, viewing) = c.requires.shown in
    still_on g.V.View.has_seen g.V.View.text shown viewing

pub see-requires-clause-shown : goal.see-requires-clause-shown
see-requires-clause-shown g c =
    let (start, seen, before, shown, viewing) = c.requires.shown in (
      start.view,
      seen,
      record {
        shown = shown;
        rows_are = rows_now g.V.View.has_seen g.V.View.text shown viewing c.follow_on.ensures
            c.rows.result.now c.rows.ensures;
        few = few_now g.V.View.has_seen g.V.View.text shown viewing c.follow_on.ensures
            c.rows.result.now c.rows.ensures;
      },
      viewing.sees,
    )

pub returns : goal.returns
returns g c start seen before shown viewing =
    let rows_are = rows_now g.V.View.has_seen g.V.View.text shown viewing c.follow_on.ensures
    c.rows.result.now c.rows.ensures in
    let few = few_now g.V.View.has_seen g.V.View.text shown viewing c.follow_on.ensures
    c.rows.result.now c.rows.ensures in
    let (more, says, text_is) =
    c.see.ensures.said start.view seen (record { shown = shown; rows_are = rows_are; few = few }) viewing.sees in
    viewing_on g.V.View.has_seen g.V.View.text shown viewing c.follow_on.ensures c.drop_ended.ensures.opened
    (omega (arith, c.drop_ended.ensures.rows)) (omega (arith, c.drop_ended.ensures.interrupts))
    (c.see.ensures.seen start.view seen (record { shown = shown; rows_are = rows_are; few = few }) viewing.sees)
    (says_extends c.after-out.ensures.failed c.after-out.ensures.known c.has_failed-self.ensures
    (search rules) says) text_is
