-- What is not ready, or does not pass, is passed by.
use Rattle.std.proofs.Common.{true, false, List, ◌+◌, ◌<◌, ◌≤◌, length, ap, sym, ◌∙◌, arith}
use Rattle.std.proofs.lemmas.Fn.{says_at}
use Rattle.std.proofs.lemmas.Bool.{and_from, and_right}
use Rattle.rv_stations.specs.declared.waiting.Waiting.{Waiting}
use Rattle.rv_stations.specs.declared.waiting.Verdict.TheVariants.{Goes, Waits, LoadsWait}
use Rattle.rv_stations.specs.Pool.{Pool}
use Rattle.rv_stations.proofs.PoolLemmas.{is_ready-in_place}
use Rattle.rv_stations.proofs.SearchLemmas.{passed_next, passed_unasked, passed_whole, ready-asked, LoadsFail-after}
use Rattle.rv_stations.proofs.SearchLemmas.{LoadsFail-from, LoadsFail-later, Searching-from, Searching-found}
use Rattle.rv_stations.proofs.pool.StationPool.place_of_oldest_ready.Goals as goal
use Rattle.rv_stations.proofs.pool.StationPool.place_of_oldest_ready.Goals.{in-Waits, in-LoadsWait}

pub loop-at-init : goal.loop-at-init
loop-at-init g c =
    let ws = c.args.self.now.waiting in (
      (λ low. ready-asked false _ (c.next_asked-at.ensures.asked low)),
      (λ test search. passed_unasked test ws c.args.passed c.next_asked-at.result false c.next_asked-at.ensures.others
          (λ wait. cc wait) search.1),
      λ test search wait. cc wait,
    )

pub returns-in-Goes-clause-oldest : goal.returns-in-Goes-clause-oldest
returns-in-Goes-clause-oldest g c = λ test search.
    let ws = c.args.self.now.waiting in
    let low : c.loop-at.at < length ws = omega (arith, c.loop-at-test.true, c.len-end.ensures.len) in
    let ready = is_ready-in_place ws c.loop-at.at c.ready_at.result true c.ready_at.ensures
    (c.loop-at.invariant.0 low) in
    let passes = search.0 c.ready_at.result Goes (says_at g.F.Fn c.filter.ensures c.in-Goes.is) in
    (Searching-found test ws c.loop-at.at c.ready_at.result c.ready_at.ensures (and_from _ _ ready passes)
    (Searching-from test c.loop-at.at ws (c.loop-at.invariant.1 test search))).0

pub returns-in-Goes-clause-others : goal.returns-in-Goes-clause-others
returns-in-Goes-clause-others g c = λ test search.
    let ws = c.args.self.now.waiting in
    let low : c.loop-at.at < length ws = omega (arith, c.loop-at-test.true, c.len-end.ensures.len) in
    let ready = is_ready-in_place ws c.loop-at.at c.ready_at.result true c.ready_at.ensures
    (c.loop-at.invariant.0 low) in
    let passes = search.0 c.ready_at.result Goes (says_at g.F.Fn c.filter.ensures c.in-Goes.is) in
    let pool : List Waiting → Pool = λ ws. record { waiting = ws; capacity = c.args.self.now.capacity } in
    ap pool (Searching-found test ws c.loop-at.at c.ready_at.result c.ready_at.ensures (and_from _ _ ready passes)
    (Searching-from test c.loop-at.at ws (c.loop-at.invariant.1 test search))).1

pub loop-at-preserved : goal.loop-at-preserved
loop-at-preserved g c =
    let ws = c.args.self.now.waiting in
    let at = c.loop-at.at in
    let low : at < length ws = omega (arith, c.loop-at-test.true, c.len-end.ensures.len) in
    let next = c.next_asked-at-in-loop-at.result in
    let later : at + 1 ≤ next = c.next_asked-at-in-loop-at.ensures.later (omega (arith, low)) in (
      (λ low. ready-asked _ _ (c.next_asked-at-in-loop-at.ensures.asked low)),
      (λ test search. elim c.match-filter.branch [
        | in-Waits w ↦
            let waits = search.0 c.ready_at.result Waits (says_at g.F.Fn c.filter.ensures w.in-Waits.is) in
            passed_unasked test ws (at + 1) next _ c.next_asked-at-in-loop-at.ensures.others
            (λ wait. LoadsFail-later test ws at (c.loop-at.invariant.2 test search (sym w.loads_wait-is ∙ wait)))
            (passed_next test ws at c.ready_at.result c.ready_at.ensures (and_right _ _ waits)
            (c.loop-at.invariant.1 test search))
        | in-LoadsWait w ↦
            let wait = search.0 c.ready_at.result LoadsWait (says_at g.F.Fn c.filter.ensures w.in-LoadsWait.is) in
            passed_unasked test ws (at + 1) next _ c.next_asked-at-in-loop-at.ensures.others
            (λ waits. LoadsFail-after test ws at c.ready_at.result c.len-end.ensures.in_order c.ready_at.ensures wait)
            (passed_next test ws at c.ready_at.result c.ready_at.ensures (and_right _ _ wait.0)
            (c.loop-at.invariant.1 test search))
      ]),
      λ test search. elim c.match-filter.branch [
        | in-Waits w ↦
            λ wait. LoadsFail-from test ws (at + 1) next later
            (LoadsFail-later test ws at (c.loop-at.invariant.2 test search (sym w.loads_wait-is ∙ wait)))
        | in-LoadsWait w ↦ λ wait.
            LoadsFail-from test ws (at + 1) next later
            (LoadsFail-after test ws at c.ready_at.result c.len-end.ensures.in_order c.ready_at.ensures
            (search.0 c.ready_at.result LoadsWait (says_at g.F.Fn c.filter.ensures w.in-LoadsWait.is)))
      ],
    )

pub returns-clause-others : goal.returns-clause-others
returns-clause-others g c = grind (arith, passed_whole)
