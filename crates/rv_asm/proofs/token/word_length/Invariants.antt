use Rattle.std.proofs.Common.{◌≡◌, ◌+◌, drop}
use Rattle.std.specs.List.{prefix_len}
use Rattle.rv_asm.specs.Token.{is_name_byte}
use Rattle.rv_asm.proofs.token.word_length.Given as goal

-- each byte so far is one of names
abbrev pub invariant-loop-count : goal.invariant-loop-count
invariant-loop-count l = prefix_len is_name_byte l.bytes ≡ l.count + prefix_len is_name_byte (drop l.count l.bytes)
