use Rattle.std.proofs.Common.{◌≡◌, ◌++◌, replicate}
use Rattle.rv_refusal.proofs.caret.add_blanks.Given as goal

-- the blanks so far are appended
abbrev pub invariant-loop-blank : goal.invariant-loop-blank
invariant-loop-blank l = l.out.items ≡ l.initial.out.items ++ replicate l._blank 32
