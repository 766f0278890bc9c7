-- One more group is woken.
use Rattle.std.proofs.Common.{◌≡◌, ap, inl, inr, arith, w64}
use Rattle.std.specs.Int.{bit_at, trailing_zeros}
use Rattle.std.proofs.lemmas.Bool.{cases_eq}
use Rattle.std.proofs.lemmas.Nat.Bits.{bit_at-trailing_zeros, bit_at-zero}
use Rattle.rv_stations.proofs.WakingLemmas.{Waking-next, Waking-end}
use Rattle.rv_stations.proofs.column.OperandColumn.wake_groups.Goals as goal

pub returns-then-len-start : goal.returns-then-len-start
returns-then-len-start c =
    let lowest = bit_at-trailing_zeros w64 c.loop-left.left (omega arith) c.loop-left.invariant.0 in
    Waking-end c.args.seq c.args.value c.loop-left.left c.args.self.now c.loop-left.self
    (λ i lt. lowest.2 i (omega (
      arith,
      c.if-len-start.true,
      c.len.ensures.len,
      c.loop-left.invariant.1.long,
      lt,
      c.first_eight-start.ensures,
    )))
    c.loop-left.invariant.1

pub loop-left-smaller : goal.loop-left-smaller
loop-left-smaller c =
    let lowest = bit_at-trailing_zeros w64 c.loop-left.left (omega arith) c.loop-left.invariant.0 in
    let place = trailing_zeros w64 c.loop-left.left in
    let gone : bit_at c.without_eight-left.result place ≡ 0 =
    c.without_eight-left.ensures.eight place (omega (arith, c.first_eight-start.ensures))
    (omega (arith, c.first_eight-start.ensures)) in
    elim (cases_eq c.without_eight-left.result c.loop-left.left) [
      | inl same ↦ absurd (let both = ap (λ n. bit_at n place) same in omega (arith, both, gone, lowest.1))
      | inr other ↦ omega (arith, c.without_eight-left.ensures.fewer)
    ]

pub loop-left-preserved : goal.loop-left-preserved
loop-left-preserved c =
    let i = c.loop-left.invariant.1 in (
      omega (arith, c.without_eight-left.ensures.fewer, c.loop-left.invariant.0),
      rw c.wake_eight.ensures
          (Waking-next c.args.seq c.args.value c.loop-left.left c.without_eight-left.result c.first_eight-start.result
          c.args.self.now c.loop-left.self
          (omega (arith, i.long, c.len.ensures.len, c.len.ensures.few))
          (omega (
            arith,
            i.long,
            c.len.ensures.len,
            c.len.ensures.eights,
            c.if-len-start.false,
            c.first_eight-start.ensures,
          ))
          c.without_eight-left.ensures.before c.without_eight-left.ensures.after i),
    )

pub returns : goal.returns
returns c =
    Waking-end c.args.seq c.args.value 0 c.args.self.now c.loop-left.self (λ i lt. bit_at-zero i)
    (rw c.loop-left-test.false at c.loop-left.invariant.1)
