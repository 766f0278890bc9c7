use Rattle.std.proofs.Common.{◌∙◌, ap, append-nil}
use Rattle.std.specs.Prelude.{decimal}
use Rattle.rv_drawing.specs.Over.{over_sentence, over_text}
use Rattle.rv_text.proofs.Saying.{says_same}
use Rattle.rv_drawing.proofs.over.write_over.Goals as goal

pub returns-in-Some : goal.returns-in-Some
unfolding over_sentence over_text
returns-in-Some g c =
    let before = c.args.before.now in
    let after = c.args.after.now in
    let count = c.digits-count.ensures ∙ ap decimal c.from.ensures in
    says_same ((λ i. over_sentence before (count i) (append-nil after i))
    ∙ (λ i. over_text before after (c.in-Some.ensures i))) c.put_all.ensures
