use Rattle.std.proofs.Common.{◌≡◌, ◌<◌, [], Ok, length, rules}
use Rattle.rv_describe.specs.Description.{description_of}
use Rattle.rv_job.specs.Comparison.{Compares, RefusesDescriptions}
use Rattle.rv_job.proofs.Compared.{compares_alone}
use Rattle.rv_job.proofs.comparison.read_machines.Goals as goal
use Rattle.rv_job.proofs.comparison.read_machines.Goals.{then-is_empty+in-Ok+in-Ok-push, else-is_empty}

pub returns-in_default-clause-refused : goal.returns-in_default-clause-refused
returns-in_default-clause-refused c = RefusesDescriptions.memory

pub returns-in_default-push-clause-refused : goal.returns-in_default-push-clause-refused
returns-in_default-push-clause-refused c = RefusesDescriptions.memory

pub returns-clause-machines : goal.returns-clause-machines
returns-clause-machines c =
    let front = c.in_ok-descriptions.ensures.machines in
    let last = c.in_ok-descriptions.ensures.last in
    elim c.if-is_empty.branch [
      | then-is_empty+in-Ok+in-Ok-push w ↦
          let none : length c.in_ok-descriptions.descriptions.items ≡ 0 = search rules in
          let described : description_of [] ≡ Ok w.in-Ok.standard = search rules in
          rw (w.descriptions-is, w.in-Ok-push.ensures.items) (compares_alone _ _ _ _ front none last described)
      | else-is_empty w ↦
          let some : 0 < length c.in_ok-descriptions.descriptions.items = search rules in
          rw w.descriptions-is (Compares.described front last some)
    ]
