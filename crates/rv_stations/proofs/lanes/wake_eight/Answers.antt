-- One more lane is woken where its tag is the number.
use Rattle.std.proofs.Common.{arith}
use Rattle.std.proofs.lemmas.List.{length-map}
use Rattle.std.proofs.lemmas.Simd.{mask_l-lt}
use Rattle.rv_stations.proofs.GiveLemmas.{lowest_lane, no_like, Giving-next, given-tags, given-values, given-bits}
use Rattle.rv_stations.proofs.lanes.wake_eight.Goals as goal

pub loop-left-init : goal.loop-left-init
loop-left-init c = grind (arith, length-map, mask_l-lt, no_like)

pub wake_one-is_woken-requires-clause-tags : goal.wake_one-is_woken-requires-clause-tags
wake_one-is_woken-requires-clause-tags c =
    omega (arith, (lowest_lane c.loop-left.left (omega arith) c.loop-left.invariant.0).0, c.loop-left.invariant.1)

pub wake_one-is_woken-requires-clause-values : goal.wake_one-is_woken-requires-clause-values
wake_one-is_woken-requires-clause-values c =
    omega (arith, (lowest_lane c.loop-left.left (omega arith) c.loop-left.invariant.0).0, c.loop-left.invariant.2)

pub without-left-requires-clause-marked : goal.without-left-requires-clause-marked
without-left-requires-clause-marked c = (lowest_lane c.loop-left.left (omega arith) c.loop-left.invariant.0).1

pub loop-left-preserved : goal.loop-left-preserved
loop-left-preserved c = grind (arith, lowest_lane, Giving-next)

pub returns-clause-woken : goal.returns-clause-woken
returns-clause-woken c = grind (arith, given-bits)

pub returns-clause-tags : goal.returns-clause-tags
returns-clause-tags c = grind (arith, given-tags)

pub returns-clause-values : goal.returns-clause-values
returns-clause-values c = grind (arith, given-values)
