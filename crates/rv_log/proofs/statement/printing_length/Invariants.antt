use Rattle.std.proofs.Common.{◌≡◌, ◌+◌, drop}
use Rattle.std.specs.List.{prefix_len}
use Rattle.rv_log.specs.Statement.{is_printing}
use Rattle.rv_log.proofs.statement.printing_length.Given as goal

-- each byte so far is one
abbrev pub invariant-loop-count : goal.invariant-loop-count
invariant-loop-count l = prefix_len is_printing l.text ≡ l.count + prefix_len is_printing (drop l.count l.text)
