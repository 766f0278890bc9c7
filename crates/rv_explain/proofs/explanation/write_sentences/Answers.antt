use Rattle.std.proofs.Common.{◌∙◌, ap}
use Rattle.rv_text.proofs.Saying.{says_both, says_same}
use Rattle.rv_explain.specs.Crash.{lone_crash}
use Rattle.rv_explain.specs.Explanation.{run_text}
use Rattle.rv_explain.proofs.explanation.write_sentences.Goals as goal

pub returns : goal.returns
returns g c =
    let crash = c.lone_crash-crash.ensures ∙ ap (lone_crash c.args.figures c.args.run.now.stop) c.all.ensures in
    says_both c.write_path.ensures
    (says_same (ap (λ crash. run_text crash c.args.listing.now c.args.hardware.now c.args.run.now)
    crash) c.write_run.ensures)
