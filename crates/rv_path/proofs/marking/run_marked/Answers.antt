use Rattle.std.proofs.Common.{◌≡◌, ◌∙◌, ◌≤◌, ap, arith, length, refl, rules}
use Rattle.rv_passage.proofs.Followed.{if_ok_by}
use Rattle.rv_passage.specs.Table.{table_at}
use Rattle.rv_view.proofs.EndedView.{ended_by}
use Rattle.rv_view.proofs.HasRun.{has_not_run, has_run, on_err}
use Rattle.rv_causes.proofs.Followed.{pathing_nothing}
use Rattle.rv_path.proofs.MarkedRun.{marked_run, marking_nothing}
use Rattle.rv_path.proofs.marking.run_marked.Goals as goal

pub run_view-view-requires-clause-ready : goal.run_view-view-requires-clause-ready
run_view-view-requires-clause-ready g c =
    let begun = c.in_ok-path.ensures in
    let numbered = c.in_ok-numbering.ensures in
    let rows = c.rows-rows.result.now in
    let rows_are : rows ≡ (table_at (g.S.Simulated.hardware c.args.pipeline.now)).rows = search rules in
    let few : length rows ≤ 576 = omega (arith, ap length c.rows-rows.ensures, c.in_ok-following.ensures.table.few) in
    let path = pathing_nothing (g.S.Simulated.hardware c.args.pipeline.now) c.in_ok-path.path rows rows_are begun.ways
    begun.holds begun.before begun.window begun.passes in
    (marking_nothing _ _ _ rows rows_are few path refl numbered.numbers numbered.fetched, refl)

pub returns-in_err-following-clause-run : goal.returns-in_err-following-clause-run
returns-in_err-following-clause-run g c = on_err _ (has_not_run c.args.arrivals.now _)

pub returns-in_err-numbering-clause-run : goal.returns-in_err-numbering-clause-run
returns-in_err-numbering-clause-run g c = on_err _ (has_not_run c.args.arrivals.now _)

pub returns-in_err-path-clause-run : goal.returns-in_err-path-clause-run
returns-in_err-path-clause-run g c = on_err _ (has_not_run c.args.arrivals.now _)

pub returns-in_err-stop-clause-run : goal.returns-in_err-stop-clause-run
returns-in_err-stop-clause-run g c = on_err _ (has_run c.run_view-view.ensures.passes)

pub returns-in_err-path-2-clause-run : goal.returns-in_err-path-2-clause-run
returns-in_err-path-2-clause-run g c = on_err _ (has_run c.run_view-view.ensures.passes)

pub returns-clause-marked : goal.returns-clause-marked
returns-clause-marked g c =
    let run = c.run_view-view.ensures in
    let ended = ended_by run c.in_ok-stop.field-0 c.in_ok-stop.was in
    let path_is = c.as_slice.ensures.value ∙ c.in_ok-path-2.ensures in
    if_ok_by c.marks_of.result (λ marks is.
    marked_run c.run_view-view.result.view c.as_slice.result.now marks.items run.viewed.sees.0 run.viewed.sees.1
    ended c.limit_of.ensures.exact c.limit_of.ensures.beyond c.is_exhausted.ensures.within path_is
    is) c.marks_of.ensures

pub returns-clause-run : goal.returns-clause-run
returns-clause-run g c = on_err c.marks_of.result (has_run c.run_view-view.ensures.passes)
