use Rattle.std.proofs.Common.{◌≡◌, ◌∙◌, true, sym}
use Rattle.rv_drawing.specs.Label.{written_by}
use Rattle.rv_drawing.specs.Stopped.{is_stopped}
use Rattle.rv_drawing.specs.TextPicture.{outcome_field}
use Rattle.rv_text.proofs.Saying.{says_same}
use Rattle.rv_drawing.proofs.text.write_outcome_field.Goals as goal

pub returns-then-is_stopped : goal.returns-then-is_stopped
unfolding outcome_field
returns-then-is_stopped g c =
    let stopped : true ≡ is_stopped c.args.window c.args.row.now = sym c.if-is_stopped.true ∙ c.is_stopped.ensures in
    says_same (λ i. outcome_field (stopped i) (written_by c.args.row.now.ending)) c.put.ensures
