use Rattle.std.proofs.Common.{◌≡◌, ◌++◌, take}
use Rattle.rv_command.specs.AlsoLine.{other_keys}
use Rattle.rv_command.proofs.also_line.add_others.Given as goal

-- the keys so far are appended
abbrev pub invariant-loop-key : goal.invariant-loop-key
invariant-loop-key l = l.line.bytes.items ≡ l.initial.line.bytes.items ++ other_keys (take l.key-index l.keys)
