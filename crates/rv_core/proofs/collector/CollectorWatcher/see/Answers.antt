use Rattle.rv_core.proofs.Words.{◌++◌, sym, ◌∙◌}
use Rattle.rv_watch.proofs.Shown.{shown_steps-push}
use Rattle.rv_core.proofs.collector.CollectorWatcher.see.Goals as goal

pub returns : goal.returns
returns g c start seen before shown collected =
    c.add.ensures ∙ (λ i. collected i ++ shown.steps_are i) ∙ sym (shown_steps-push seen.moments _)
