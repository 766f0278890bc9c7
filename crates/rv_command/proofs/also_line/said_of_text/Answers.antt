use Rattle.std.proofs.Common.{append_assoc}
use Rattle.rv_command.proofs.also_line.said_of_text.Goals as goal

pub returns : goal.returns
returns c =
    let appended = rw c.in_ok-line.ensures.ok at c.in_ok-add_hint.ensures in
    simp append_assoc at appended
