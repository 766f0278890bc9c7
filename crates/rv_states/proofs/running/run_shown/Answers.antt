use Rattle.std.proofs.Common.{ap, ◌∙◌}
use Rattle.rv_watch.proofs.Shown.{stops_by}
use Rattle.rv_watch.specs.declared.progress.Progress.{Progress}
use Rattle.rv_passage.specs.Table.{Passages}
use Rattle.rv_states.proofs.Showing.{showing_nothing, shown_to_the_end}
use Rattle.rv_states.proofs.running.run_shown.Goals as goal

pub watch-ended-requires-clause-ready : goal.watch-ended-requires-clause-ready
watch-ended-requires-clause-ready g c = (
  g.W.Write.contents c.begin-has_failed.new.writer,
  showing_nothing c.args.from c.args.untaught
      c.begin-has_failed.result _ c.requires.begins,
)

pub returns : goal.returns
returns g c =
    let run = c.watch-ended.ensures in
    let shown = run.seen (g.W.Write.contents c.begin-has_failed.new.writer)
    (showing_nothing c.args.from c.args.untaught c.begin-has_failed.result _ c.requires.begins) in
    let rows_are = c.rows.ensures ∙ ap (λ (t : Passages). t.rows) c.requires.begins.passages in
    shown_to_the_end c.args.form (record { passes = run.passes; stops = stops_by run c.in-Ok.stop c.in-Ok.is })
    c.requires.untaught rows_are (ap (λ (p : Progress). p.cycles) run.counted)
    c.begin-has_failed.ensures shown.said c.end.ensures
