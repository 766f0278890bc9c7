use Rattle.std.proofs.Common.{◌≡◌, ℕ, ◌+◌, ◌<◌, ◌++◌, get_or}
use Rattle.rv_parts_tests.proofs.halves.HalvesBacking.read_block.Given as goal

abbrev pub invariant-loop-i : goal.invariant-loop-i
invariant-loop-i l = (k : ℕ) → k < l.i →
    get_or l.block k 0 ≡ get_or (l.self.low.items ++ l.self.high.items) (l.offset + k) 0
