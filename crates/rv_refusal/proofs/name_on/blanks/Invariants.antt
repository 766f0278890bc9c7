use Rattle.std.proofs.Common.{◌≡◌, ◌+◌, drop}
use Rattle.rv_refusal.specs.NameOn.{blanks}
use Rattle.rv_refusal.proofs.name_on.blanks.Given as goal

-- blanks alone so far
abbrev pub invariant-loop-count : goal.invariant-loop-count
invariant-loop-count l = blanks l.text ≡ l.count + blanks (drop l.count l.text)
