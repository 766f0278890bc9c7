use Rattle.std.proofs.Common.{◌≡◌, ◌+◌, drop}
use Rattle.std.specs.List.{prefix_len}
use Rattle.rv_refusal.specs.NameOn.{is_name_byte}
use Rattle.rv_refusal.proofs.name_on.name_size.Given as goal

-- bytes of a name alone so far
abbrev pub invariant-loop-count : goal.invariant-loop-count
invariant-loop-count l = prefix_len is_name_byte l.text ≡ l.count + prefix_len is_name_byte (drop l.count l.text)
