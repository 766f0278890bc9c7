use Rattle.std.proofs.Common.{◌≡◌, ◌++◌, take}
use Rattle.rv_memory.specs.Bytes.{overwritten}
use Rattle.rv_parts_tests.proofs.halves.HalvesBacking.write_block.Given as goal

abbrev pub invariant-loop-i : goal.invariant-loop-i
invariant-loop-i l = l.self.low.items ++ l.self.high.items
    ≡ overwritten (l.initial.self.low.items ++ l.initial.self.high.items) l.offset (take l.i l.block)
