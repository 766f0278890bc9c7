use Rattle.rv_drawing.specs.Title.{predicted_title, prediction_title}
use Rattle.rv_text.proofs.Saying.{says_same}
use Rattle.rv_drawing.proofs.title.write_prediction.Goals as goal

pub returns-in-Some : goal.returns-in-Some
unfolding prediction_title predicted_title
returns-in-Some g c =
    says_same (λ i. predicted_title (c.in-Some.ensures i) (c.correction.ensures i)) c.put_correction.ensures
