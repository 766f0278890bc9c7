use Rattle.std.proofs.Common.{◌≡◌, ◌+◌, drop}
use Rattle.std.specs.List.{prefix_len}
use Rattle.rv_refusal.specs.KeyHint.{is_undotted}
use Rattle.rv_refusal.proofs.key_hint.size_to_dot.Given as goal

-- no dot so far
abbrev pub invariant-loop-count : goal.invariant-loop-count
invariant-loop-count l = prefix_len is_undotted l.name ≡ l.count + prefix_len is_undotted (drop l.count l.name)
