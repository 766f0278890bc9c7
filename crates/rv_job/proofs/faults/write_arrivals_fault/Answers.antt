use Rattle.std.proofs.Common.{◌≡◌, ◌∙◌, [], append_assoc, arith, decimal}
use Rattle.std.proofs.lemmas.Grind.{common_steps}
use Rattle.rv_describe.specs.FaultName.{number_text}
use Rattle.rv_job.specs.Fault.{arrivals_line}
use Rattle.rv_job.proofs.faults.write_arrivals_fault.Goals as goal

pub returns-in-WrongKind : goal.returns-in-WrongKind
unfolding arrivals_line number_text
returns-in-WrongKind g c =
    let kind_is = c.as_bytes-kind.ensures.value ∙ c.kind.ensures in
    let number_is = c.as_bytes-number.ensures.value ∙ c.format.ensures.text in
    let named : number_text c.args.error ≡ decimal c.in-WrongKind.entry = grind (arith, common_steps) in
    rw (append_assoc, ← kind_is, named, ← number_is) c.put_all-in-WrongKind.ensures

pub returns-in_default : goal.returns-in_default
unfolding arrivals_line number_text
returns-in_default g c =
    let kind_is = c.as_bytes-kind.ensures.value ∙ c.kind.ensures in
    let none : number_text c.args.error ≡ [] = grind (arith, common_steps) in
    rw (append_assoc, ← kind_is, none) c.put_all.ensures
