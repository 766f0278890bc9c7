use Rattle.std.proofs.Common.{◌≡◌, [], filter, length, ap, arith}
use Rattle.std.proofs.lemmas.List.{length-map}
use Rattle.rv_passage.specs.Numbers.{Numbers}
use Rattle.rv_passage.specs.Passage.{in_buffers, is_in_flight}
use Rattle.rv_passage.specs.Table.{after_steps, passages_of, with_steps}
use Rattle.rv_passage.specs.declared.passage.Passage.{Passage}
use Rattle.rv_passage.proofs.Dropped.{buffers-open}
use Rattle.rv_passage.proofs.MovesOn.{as_many-moves, moves_on}
use Rattle.rv_passage.proofs.Numbers.{open-again}
use Rattle.rv_passage.proofs.table.Table.follow_numbers.Goals as goal

-- as many are in flight as the buffers hold
counted : (c : goal.After-count_in_flight-self) →
    c.count_in_flight-self.result ≡ length (filter is_in_flight (passages_of c.renew_numbers.new.self).rows)
counted c =
    let now = in_buffers c.args.rob.now c.args.front.now in
    let old = passages_of c.args.self.now in
    let ended = with_steps c.args.steps.now c.args.pc old in
    let after = (after_steps c.args.cycle c.args.steps.now c.args.rob.now c.args.front.now c.args.pc old).rows in
    let number = λ (p : Passage). p.number in
    let known = ap (λ (n : Numbers). length n.in_flight) c.renew_numbers.ensures.followed in
    let many = as_many-moves (moves_on c.args.cycle ended.fetched [] ended.rows now)
    (buffers-open c.args.rob.now c.args.front.now) in
    omega (
      arith,
      known,
      length-map (filter is_in_flight (passages_of c.renew_numbers.new.self).rows) number,
      length-map (filter is_in_flight (filter is_in_flight after)) number,
      ap length (open-again after),
      many,
      c.count_in_flight-self.ensures.count,
    )

pub invariant_of-self-clause-known : goal.invariant_of-self-clause-known
invariant_of-self-clause-known c = omega (arith, counted c)

pub returns-clause-counted : goal.returns-clause-counted
returns-clause-counted c = counted c.before

pub returns-clause-followed : goal.returns-clause-followed
returns-clause-followed c = grind arith
