-- At most `commit_width` steps come in a cycle.
use Rattle.rv_hardware.proofs.Words.{List, ◌==◌, arith, Values, Hardware, NeverMoreThan, stamp_of, Step, count-count_by}
use Rattle.rv_hardware.proofs.Marks.History.{History}
use Rattle.rv_hardware.proofs.Laws.StepsInOrder.Steps.{history_has_steps}

-- the field `commit_width` of `Laws`, over every history
pub law_of_commit_width : {v : Values} {steps : List Step} {h : Hardware} → History v steps h →
    NeverMoreThan v.commit_width (λ c step. stamp_of step == c) steps
law_of_commit_width {v} {steps} history c =
    let same = count-count_by (λ step. stamp_of step == c) steps in let le = (history_has_steps history).width c in
    omega (arith, same, le)
