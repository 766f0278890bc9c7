-- Where no place is marked, no instruction has its operands.
use Rattle.std.proofs.Common.{false, refl, get_or, length, arith}
use Rattle.rv_stations.specs.PoolFields.{pool}
use Rattle.rv_stations.proofs.PoolLemmas.{length-pool}
use Rattle.rv_stations.proofs.MarkLemmas.{unasked}
use Rattle.rv_stations.proofs.SearchLemmas.{passed_unasked, passed_whole}
use Rattle.rv_stations.proofs.pool.StationPool.may_be_ready.Goals as goal

pub returns : goal.returns
returns c = λ none test.
    let p = c.self.inside in
    let ws = (pool p).waiting in
    rw (← c.self.view_is)
    (passed_whole test (length ws) ws
    (passed_unasked test ws 0 (length ws) false
    (λ at from low.
    unasked p c.self.invariant at (omega (arith, low, length-pool p c.self.invariant))
    c.waiting.result c.waiting-2.result
    c.unmarked.result c.waiting.ensures c.waiting-2.ensures false c.unmarked.ensures.kept
    (c.marks_any.ensures none (get_or p.places.items at 0)))
    (λ wait. cc wait) refl)
    (omega arith)).0
