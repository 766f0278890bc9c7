use Rattle.std.proofs.Common.{◌/◌, ◌*◌, ◌≡◌, ap, arith}
use Rattle.std.proofs.lemmas.List.{length-replicate}
use Rattle.rv_memory.specs.Stale.{StaleWords}
use Rattle.rv_memory.proofs.MarkedWords.{none_are_covered, words_of-none}
use Rattle.rv_memory.proofs.stale.StaleMap.new.Goals as goal

-- no word was marked in round 1
pub returns-clause-fresh : goal.returns-clause-fresh
returns-clause-fresh c =
    let cleared = c.in_ok-vec.ensures.items_if_clones_equal (λ y e. e) in
    let whole : c.args.size / 4 * 4 ≡ c.args.size = omega arith in
    rw (cleared, words_of-none, length-replicate, whole)

pub returns-clause-covered : goal.returns-clause-covered
returns-clause-covered c = none_are_covered _ (ap (λ (v : StaleWords). v.words) (returns-clause-fresh c))
