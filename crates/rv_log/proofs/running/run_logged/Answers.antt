use Rattle.std.proofs.Common.{◌∙◌, ap, refl}
use Rattle.rv_passage.specs.Table.{Passages}
use Rattle.rv_view.proofs.EndedView.{ended_by}
use Rattle.rv_log.proofs.Logging.{logged_to_the_end}
use Rattle.rv_log.proofs.running.run_logged.Goals as goal

pub run_view-viewed-requires-clause-ready : goal.run_view-viewed-requires-clause-ready
run_view-viewed-requires-clause-ready g c = record {
  same = refl;
  began = c.cycles_done-first.ensures.number;
  stalled = refl;
}

pub returns : goal.returns
returns g c =
    let run = c.run_view-viewed.ensures in
    let rows_are = c.rows.ensures ∙ ap (λ (t : Passages). t.rows) c.requires.table.passages in
    logged_to_the_end (ended_by run c.in-Ok.stop c.in-Ok.is) c.cycles_done-first.ensures.number rows_are
    c.begin-has_failed.ensures run.viewed.said
