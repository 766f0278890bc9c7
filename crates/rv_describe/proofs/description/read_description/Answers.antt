use Rattle.rv_describe.proofs.Legal.{described-legal}
use Rattle.rv_describe.proofs.description.read_description.Goals as goal

pub returns-in-Ok-Some-clause-legal : goal.returns-in-Ok-Some-clause-legal
returns-in-Ok-Some-clause-legal c _ =
    described-legal c.args.bytes.now _ _ (rw c.in-Ok-Some.field-0-is at c.in-Ok-Some.ensures.read) c.described.ensures
