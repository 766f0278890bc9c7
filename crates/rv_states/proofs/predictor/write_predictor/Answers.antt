use Rattle.rv_states.specs.Predictor.{asked_text, predictor_text}
use Rattle.rv_text.proofs.Saying.{says_both, says_same}
use Rattle.rv_states.proofs.predictor.write_predictor.Goals as goal

pub returns : goal.returns
unfolding predictor_text
returns g c =
    says_both c.write_learned.ensures
    (says_same (λ i. asked_text c.args.predictor.now c.args.cycle (c.front.ensures i).entries)
    c.write_asked_words.ensures)
