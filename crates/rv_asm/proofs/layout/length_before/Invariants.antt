use Rattle.std.proofs.Common.{◌≡◌, ◌+◌, ◌==◌, drop}
use Rattle.std.specs.List.{position_or_len}
use Rattle.rv_asm.proofs.layout.length_before.Given as goal

-- no such byte yet
abbrev pub invariant-loop-count : goal.invariant-loop-count
invariant-loop-count l = position_or_len (λ byte. byte == l.end) l.text ≡ l.count
    + position_or_len (λ byte. byte == l.end) (drop l.count l.text)
