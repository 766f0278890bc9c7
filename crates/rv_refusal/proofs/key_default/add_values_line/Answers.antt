use Rattle.std.proofs.Common.{append_assoc}
use Rattle.rv_refusal.specs.KeyDefault.{values_line}
use Rattle.rv_refusal.proofs.key_default.add_values_line.Goals as goal

pub returns : goal.returns
unfolding values_line
returns c =
    let appended = rw (
      c.in_ok-add_key_default.ensures,
      c.in_ok-add_text.ensures,
      c.in_ok-add_key_range.ensures,
      c.in_ok-add_all.ensures,
      c.text_of.ensures,
    ) at c.add_text-2.ensures in
    simp append_assoc at appended
