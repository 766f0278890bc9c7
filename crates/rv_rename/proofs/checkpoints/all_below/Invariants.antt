use Rattle.std.proofs.Common.{ℕ, ◌<◌, get_or}
use Rattle.rv_rename.proofs.checkpoints.all_below.Given as goal

-- the numbers so far are below
abbrev pub invariant-loop-number : goal.invariant-loop-number
invariant-loop-number l = (k d : ℕ) → k < l.number-index → get_or l.numbers k d < l.seq
