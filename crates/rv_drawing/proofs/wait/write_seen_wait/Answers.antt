use Rattle.rv_text.proofs.Saying.{says_same}
use Rattle.rv_drawing.specs.Wait.{operand_wait}
use Rattle.rv_drawing.proofs.wait.write_seen_wait.Goals as goal

pub returns : goal.returns
returns g c =
    says_same (λ i. operand_wait (c.kind-kind.ensures i) (c.awaited-first.ensures i) (c.awaited-second.ensures i))
    c.write_operand_wait.ensures
