use Rattle.std.proofs.Common.{◌≡◌, ◌∙◌, true, sym}
use Rattle.rv_drawing.specs.Stopped.{is_stopped}
use Rattle.rv_drawing.specs.Title.{stale_title, title_of_row}
use Rattle.rv_text.proofs.Saying.{says_same}
use Rattle.rv_drawing.proofs.title.write_title_of_row.Goals as goal

pub returns-then-is_stopped : goal.returns-then-is_stopped
unfolding title_of_row stale_title
returns-then-is_stopped g c =
    let stopped : true ≡ is_stopped c.args.window c.args.row.now = sym c.if-is_stopped.true ∙ c.is_stopped.ensures in
    says_same (λ i. title_of_row (stopped i) c.args.row.now) c.put.ensures
