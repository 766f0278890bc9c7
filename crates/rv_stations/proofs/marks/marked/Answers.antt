-- A bit is set by `|`, and cleared by `&` with all others.
use Rattle.std.proofs.Common.{w64}
use Rattle.std.proofs.lemmas.Nat.Bits.{bit_at_set_same, bit_at_set_other, bit_at_clear_same, bit_at_clear_other}
use Rattle.rv_stations.proofs.marks.marked.Goals as goal

pub returns-then-is_set-clause-bit : goal.returns-then-is_set-clause-bit
returns-then-is_set-clause-bit c = rw c.if-is_set.true (bit_at_set_same w64 c.args.mask c.args.place c.requires)

pub returns-then-is_set-clause-others : goal.returns-then-is_set-clause-others
returns-then-is_set-clause-others c = λ other low apart. bit_at_set_other w64 c.args.mask c.args.place
    c.requires other apart

pub returns-else-is_set-clause-bit : goal.returns-else-is_set-clause-bit
returns-else-is_set-clause-bit c = rw c.if-is_set.false (bit_at_clear_same w64 c.args.mask c.args.place c.requires)

pub returns-else-is_set-clause-others : goal.returns-else-is_set-clause-others
returns-else-is_set-clause-others c = λ other low apart. bit_at_clear_other w64 c.args.mask c.args.place
    c.requires other low apart
