-- A bit stays where the other mask has none.
use Rattle.std.proofs.Common.{min, ap, ◌∙◌, arith, w64}
use Rattle.std.proofs.lemmas.Nat.Bits.{bit_at-lt, bit_at_and, bit_at_not}
use Rattle.std.specs.Int.{bit_at}
use Rattle.rv_stations.proofs.marks.unmarked.Goals as goal

pub returns-clause-kept : goal.returns-clause-kept
returns-clause-kept c = λ place lt none.
    bit_at_and c.args.mask _ place
    ∙ ap (min (bit_at c.args.mask place)) (bit_at_not w64 c.args.other place (omega arith) lt)
    ∙ omega (arith, none, bit_at-lt c.args.mask place)

pub returns-clause-cleared : goal.returns-clause-cleared
returns-clause-cleared c = λ place lt set.
    let both = bit_at_and c.args.mask _ place
    ∙ ap (min (bit_at c.args.mask place)) (bit_at_not w64 c.args.other place (omega arith) lt) in
    omega (arith, set, both, bit_at-lt c.args.other place)
