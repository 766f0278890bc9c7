use Rattle.std.proofs.Common.{◌≡◌, [], filter, length, ap, arith}
use Rattle.rv_passage.specs.Passage.{in_buffers, is_in_flight}
use Rattle.rv_passage.specs.Table.{Passages, passages_of, with_steps}
use Rattle.rv_passage.proofs.Dropped.{buffers-open}
use Rattle.rv_passage.proofs.MovesOn.{as_many-moves, moves_on}
use Rattle.rv_passage.proofs.table.Table.follow_as.Goals as goal

-- as many are in flight as the buffers hold
counted : (c : goal.After-count_in_flight-self) →
    c.count_in_flight-self.result ≡ length (filter is_in_flight (passages_of c.follow_in_space.new.self).rows)
counted c =
    let now = in_buffers c.args.rob.now c.args.front.now in
    let ended = with_steps c.args.steps.now c.args.pc (passages_of c.clear_space.new.self) in
    let opened = ap (λ (t : Passages). length (filter is_in_flight t.rows)) c.follow_in_space.ensures.followed in
    let many = as_many-moves (moves_on c.args.cycle ended.fetched [] ended.rows now)
    (buffers-open c.args.rob.now c.args.front.now) in
    omega (arith, opened, many, c.count_in_flight-self.ensures.count)

pub invariant_of-self-clause-known : goal.invariant_of-self-clause-known
invariant_of-self-clause-known c = omega (arith, counted c)

pub returns-clause-counted : goal.returns-clause-counted
returns-clause-counted c = counted c.before

pub returns-clause-followed : goal.returns-clause-followed
returns-clause-followed c = grind arith
