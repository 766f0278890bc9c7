use Rattle.std.proofs.Common.{rules, arith}
use Rattle.std.proofs.lemmas.List.Sorted.{IsNonDecreasingBy-from_all_adjacent}
use Rattle.rv_isa.proofs.arrivals.is_in_order.Goals as goal

pub returns : goal.returns
returns c = (
  λ _. IsNonDecreasingBy-from_all_adjacent (λ a. a.cycle) c.args.items.now
      (λ k d lt. c.loop-i.invariant k d (omega (arith, c.loop-i-test.false))),
  λ _. search rules,
)
