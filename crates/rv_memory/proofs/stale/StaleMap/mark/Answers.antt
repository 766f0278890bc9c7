use Rattle.std.proofs.Common.{◌/◌, ◌-◌, ap, arith, length-set, set}
use Rattle.rv_memory.specs.Stale.{StaleWords}
use Rattle.rv_memory.proofs.MarkedWords.{covered_parts, insert_word, words_of-within}
use Rattle.rv_memory.proofs.stale.StaleMap.mark.Goals as goal

-- one more mark, at the word's number less the first one's
pub returns-clause-marked : goal.returns-clause-marked
returns-clause-marked c =
    let s = c.self.inside in
    let same_base = ap (λ (v : StaleWords). v.base) c.self.view_is in
    let same_size = ap (λ (v : StaleWords). v.size) c.self.view_is in
    let parts = covered_parts c.args.self.now c.args.address c.requires in
    let words = insert_word (s.base / 4) s.round s.marked.items ((c.args.address - s.base) / 4) (c.args.address / 4)
    (omega (arith, parts, same_base, same_size)) (omega (arith, parts, same_base)) in
    let length_after = length-set s.marked.items ((c.args.address - s.base) / 4) s.round in
    rw (← c.self.view_is, ← words) (cc (length_after))

pub returns-clause-covered : goal.returns-clause-covered
returns-clause-covered c =
    let s = c.self.inside in
    λ word found.
    let within = words_of-within (s.base / 4) s.round
    (set s.marked.items ((c.args.address - s.base) / 4) s.round) word found in
    (omega (arith, within), omega (arith, within))
