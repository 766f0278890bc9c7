use Rattle.std.proofs.Common.{◌≡◌, [], replicate}
use Rattle.rv_cache.proofs.cache.empty_sets.Given as goal

abbrev pub invariant-loop : goal.invariant-loop
invariant-loop l = l.sets.items ≡ replicate l.counter []
