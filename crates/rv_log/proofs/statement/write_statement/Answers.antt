use Rattle.std.proofs.Common.{◌∙◌, ◌++◌, ap, take, drop}
use Rattle.rv_text.specs.Plain.{plain_text}
use Rattle.rv_text.proofs.Saying.{says_both, says_same}
use Rattle.rv_log.proofs.Printing.{plain-front}
use Rattle.rv_log.proofs.statement.write_statement.Goals as goal

pub returns : goal.returns
returns g c =
    let text = c.statement_of-statement.result.now in
    let count = c.printing_length.ensures.length in
    let front = c.split_at.ensures.front ∙ ap (λ n. take n text) count in
    let rest = c.split_at.ensures.back ∙ ap (λ n. drop n text) count in
    let shown = ap plain_text c.statement_of-statement.ensures.statement in
    says_same ((λ i. front i ++ plain_text (rest i)) ∙ plain-front text ∙ shown)
    (says_both c.put.ensures c.put_plain.ensures)
