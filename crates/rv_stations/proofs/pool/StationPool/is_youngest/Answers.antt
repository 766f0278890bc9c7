-- The last number is the greatest.
use Rattle.std.proofs.Common.{◌≡◌, ◌-◌, ◌+◌, ◌<◌, ◌≤◌, get_or, length, arith}
use Rattle.std.proofs.lemmas.Bool.{lt-ltb, ltb-true}
use Rattle.std.proofs.lemmas.Option.{slice_get-get_or}
use Rattle.rv_isa.proofs.Numbered.{AreBelow-last}
use Rattle.rv_stations.specs.PoolFields.{some_waiting}
use Rattle.rv_stations.specs.Waiting.{seq_of}
use Rattle.rv_stations.proofs.PoolLemmas.{seq-in_place}
use Rattle.rv_stations.proofs.pool.StationPool.is_youngest.Goals as goal

pub returns-else-count-eq0 : goal.returns-else-count-eq0
returns-else-count-eq0 c =
    let ws = c.args.self.now.waiting in
    let last = c.len-count.result - 1 in
    let within : last < length ws = omega (arith, c.len-count.ensures.len, c.if-count-eq0.false) in
    let is : (get_or ws last some_waiting).seq ≡ c.seq_at.result =
    seq-in_place ws last some_waiting c.seq_at.result c.seq_at.ensures within in (
      (λ low.
          let end : length ws ≤ last + 1 = omega (arith, c.len-count.ensures.len) in
          let below : seq_of (get_or ws last some_waiting) < c.args.seq = omega (arith, is, ltb-true _ _ low) in
          AreBelow-last seq_of c.args.seq last ws _ c.len-count.ensures.in_order end
          (slice_get-get_or ws last some_waiting within) below),
      (λ youngest. lt-ltb _ _ (omega (arith, is, youngest last some_waiting within))),
    )
