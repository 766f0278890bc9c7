-- The numbers rise, so those below one stand in front of the last that is.
use Rattle.std.proofs.Common.{◌≡◌, ◌<◌, ◌-◌, length, inl, inr, arith}
use Rattle.std.proofs.lemmas.Bool.{cases_lt}
use Rattle.rv_isa.proofs.Numbered.{below-prefix}
use Rattle.rv_stations.specs.Waiting.{seq_of}
use Rattle.rv_stations.proofs.PoolLemmas.{seq-in_place}
use Rattle.rv_stations.proofs.pool.StationPool.count_below.Goals as goal

pub returns-else-seq_at-from-clause-below : goal.returns-else-seq_at-from-clause-below
returns-else-seq_at-from-clause-below c =
    let ws = c.args.self.now.waiting in
    let i = c.loop-count.invariant in
    let last = c.loop-count.count - 1 in
    let within : last < length ws = omega (arith, c.loop-count-test.true, i.0) in
    below-prefix seq_of c.args.from c.loop-count.count ws i.0
    (λ k d lt. elim (cases_lt k last) [
      | inl before ↦
          omega (
            arith,
            c.len-count.ensures.in_order k last d before within,
            seq-in_place ws last d c.seq_at.result c.seq_at.ensures within,
            c.if-seq_at-from.false,
          )
      | inr here ↦ let same : k ≡ last = omega arith in
          rw same (omega
          (arith, seq-in_place ws last d c.seq_at.result c.seq_at.ensures within, c.if-seq_at-from.false))
    ])
    i.1

pub returns-after-loop-count-clause-below : goal.returns-after-loop-count-clause-below
returns-after-loop-count-clause-below c = grind (arith, below-prefix)
