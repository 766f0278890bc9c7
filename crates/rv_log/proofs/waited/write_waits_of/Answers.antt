use Rattle.std.proofs.Common.{◌≡◌, ◌∙◌, ◌∷◌, [], ap, codes}
use Rattle.rv_log.specs.Waited.{issue_awaited, or_left, wait, waits_of, waits_text}
use Rattle.rv_log.specs.declared.wait.Wait.{Wait}
use Rattle.rv_passage.specs.Result.{issued_in}
use Rattle.rv_text.proofs.Saying.{says_both, says_same}
use Rattle.rv_log.proofs.Waits.{waits-after, waits-last}
use Rattle.rv_log.proofs.waited.write_waits_of.Goals as goal

pub returns : goal.returns
returns g c =
    let row = c.args.row.now in
    let left = c.args.left in
    let first = c.args.first in
    let dispatch = c.dispatch_wait-dispatch.result in
    let operand = c.result_wait-operand.result in
    let issue = c.issue_wait-issue.result in
    let bus = c.bus_wait-bus.result in
    let head = c.head_wait-head.result in
    let words = codes ", waited " in
    let written =
    waits-after words dispatch (operand ∷ issue ∷ bus ∷ head ∷ []) c.write_next-words.ensures.next
    (waits-after c.write_next-words.result.now operand (issue ∷ bus ∷ head ∷ []) c.write_next-words-2.ensures.next
    (waits-after c.write_next-words-2.result.now issue (bus ∷ head ∷ []) c.write_next-words-3.ensures.next
    (waits-after c.write_next-words-3.result.now bus (head ∷ []) c.write_next-words-4.ensures.next
    (waits-last c.write_next-words-4.result.now head)))) in
    let issue_is = c.issue_wait-issue.ensures
    ∙ ap (λ (w : Wait). wait w.until (or_left left (issued_in row)) (issue_awaited first row))
    c.result_wait-operand.ensures in
    let waits : dispatch ∷ operand ∷ issue ∷ bus ∷ head ∷ [] ≡ waits_of first left row =
    λ i. c.dispatch_wait-dispatch.ensures i ∷ c.result_wait-operand.ensures i ∷ issue_is i ∷ c.bus_wait-bus.ensures i
    ∷ c.head_wait-head.ensures i ∷ [] in
    says_same (written ∙ ap (waits_text words) waits)
    (says_both c.write_next-words.ensures.said
    (says_both c.write_next-words-2.ensures.said
    (says_both c.write_next-words-3.ensures.said
    (says_both c.write_next-words-4.ensures.said c.write_next.ensures.said))))
