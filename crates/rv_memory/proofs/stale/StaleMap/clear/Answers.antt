use Rattle.std.proofs.Common.{◌/◌, ◌+◌, ◌<◌, ◌≤◌, ap, arith}
use Rattle.std.proofs.lemmas.List.{length-replicate}
use Rattle.std.proofs.lemmas.List.Elements.{All-weaker}
use Rattle.rv_memory.specs.Stale.{StaleWords}
use Rattle.rv_memory.proofs.MarkedWords.{none_are_covered, words_of-later, words_of-none}
use Rattle.rv_memory.proofs.stale.StaleMap.clear.Goals as goal

-- after the last round no mark is left
pub returns-then-self-clause-cleared : goal.returns-then-self-clause-cleared
returns-then-self-clause-cleared c =
    let wiped = c.fill.ensures.items (λ y e. e) in
    rw (← c.self.view_is, wiped, words_of-none, length-replicate) (cc (c.self.inside.marked.ok.0))

pub returns-then-self-clause-covered : goal.returns-then-self-clause-covered
returns-then-self-clause-covered c =
    none_are_covered _ (ap (λ (v : StaleWords). v.words) (returns-then-self-clause-cleared c))

-- no word was marked in the round that begins
pub returns-clause-cleared : goal.returns-clause-cleared
returns-clause-cleared c =
    let s = c.self.inside in
    let fresh = words_of-later (s.base / 4) (s.round + 1) s.marked.items
    (All-weaker (λ r. r ≤ s.round) (λ r. r < s.round + 1) (λ r at_most. omega arith) s.marked.items
    c.self.invariant.3) in
    rw (← c.self.view_is, fresh)

pub returns-clause-covered : goal.returns-clause-covered
returns-clause-covered c = none_are_covered _ (ap (λ (v : StaleWords). v.words) (returns-clause-cleared c))
