-- The first place that is marked is the first whose instruction is asked.
use Rattle.std.proofs.Common.{◌≡◌, ◌<◌, ◌∙◌, ℕ, List, get_or, sym, ap, arith}
use Rattle.std.specs.Int.{bit_at}
use Rattle.rv_stations.proofs.PoolLemmas.{length-pool}
use Rattle.rv_stations.proofs.MarkLemmas.{asked, unasked}
use Rattle.rv_stations.proofs.pool.StationPool.next_asked.Goals as goal

pub returns-clause-asked : goal.returns-clause-asked
returns-clause-asked c = λ within.
    let p = c.self.inside in
    let low : c.first_marked.result < p.count =
    omega (arith, rw (← c.self.view_is) at within, length-pool p c.self.invariant) in
    let set : bit_at c.unmarked.result (get_or p.places.items c.first_marked.result 0) ≡ 1 =
    ap (λ (l : List ℕ). bit_at c.unmarked.result (get_or l c.first_marked.result 0)) (sym c.as_slice.ensures.value)
    ∙ c.first_marked.ensures.marked low in
    rw (← c.self.view_is)
    (asked p c.self.invariant c.first_marked.result low c.waiting.result c.waiting-2.result c.unmarked.result
    c.waiting.ensures c.waiting-2.ensures c.args.loads_wait
    (λ k few idle. c.unmarked.ensures.kept k few idle ∙ ap (λ m. bit_at m k) c.one_of-asked.ensures)
    c.unmarked.ensures.cleared set)

pub returns-clause-others : goal.returns-clause-others
returns-clause-others c = λ at from lt.
    let p = c.self.inside in
    let low : at < p.count = omega (arith, lt, c.first_marked.ensures.within) in
    let unset : bit_at c.unmarked.result (get_or p.places.items at 0) ≡ 0 =
    ap (λ (l : List ℕ). bit_at c.unmarked.result (get_or l at 0)) (sym c.as_slice.ensures.value)
    ∙ c.first_marked.ensures.others at from lt in
    rw (← c.self.view_is)
    (unasked p c.self.invariant at low c.waiting.result c.waiting-2.result c.unmarked.result c.waiting.ensures
    c.waiting-2.ensures c.args.loads_wait
    (λ k few idle. c.unmarked.ensures.kept k few idle ∙ ap (λ m. bit_at m k) c.one_of-asked.ensures)
    unset)
