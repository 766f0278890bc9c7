use Rattle.rv_command.specs.AlsoLine.{hint_of}
use Rattle.rv_command.proofs.also_line.add_hint.Goals as goal

pub returns-in_ok-keys-in-UnknownKey : goal.returns-in_ok-keys-in-UnknownKey
unfolding hint_of
returns-in_ok-keys-in-UnknownKey c =
    let added = rw (
      c.as_slice.ensures.value,
      c.in_ok-keys-in-UnknownKey.ensures,
      c.name_in.ensures,
      c.as_bytes.ensures.value,
    ) at c.add_near.ensures in
    rw c.in-UnknownKey.is added
