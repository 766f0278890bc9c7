use Rattle.std.proofs.Common.{◌∙◌, ◌++◌, List, ℕ, ap, append-nil, codes, sym}
use Rattle.rv_drawing.specs.Title.{correction_text}
use Rattle.rv_text.specs.Line.{word_text}
use Rattle.rv_text.proofs.Saying.{says_same}
use Rattle.rv_log.proofs.details.write_known.Goals as goal

pub returns-in-None : goal.returns-in-None
unfolding correction_text
returns-in-None g c =
    let word = word_text c.args.predicted in
    let whole = ap (λ (end : List ℕ). codes ", predicted " ++ end) (sym (append-nil word)) in
    says_same (whole ∙ ap (λ next. codes ", predicted " ++ (word ++ correction_text next)) (sym c.in-None.is))
    c.write_prediction_alone.ensures

pub returns-in-Some : goal.returns-in-Some
returns-in-Some g c =
    says_same (ap (λ (end : List ℕ). codes ", predicted " ++ (word_text c.args.predicted ++ end))
    (append-nil (correction_text c.args.correction))) c.put_correction.ensures
