use Rattle.std.proofs.Common.{◌/◌, ◌-◌, ◌∙◌, sym, ap, nat_eq, arith}
use Rattle.std.proofs.lemmas.List.{get_or_read}
use Rattle.std.proofs.lemmas.Bool.{le-ltb}
use Rattle.rv_memory.proofs.MarkedWords.{contains_word_below, contains_word_at, contains_word_past}
use Rattle.rv_memory.proofs.stale.StaleMap.is_stale.Goals as goal

pub returns-then-address-self-clause-stale : goal.returns-then-address-self-clause-stale
returns-then-address-self-clause-stale c =
    let s = c.self.inside in
    rw (← c.self.view_is) (sym
    (contains_word_below (s.base / 4) s.round s.marked.items (c.args.address / 4) (omega arith)))

pub returns-then-word-len-clause-stale : goal.returns-then-word-len-clause-stale
returns-then-word-len-clause-stale c =
    let s = c.self.inside in
    let word = (c.args.address - s.base) / 4 in
    let read = get_or_read s.marked.items word _ (omega arith) c.index.ensures 0 in
    rw (← c.self.view_is)
    (ap (λ r. nat_eq r s.round) read
    ∙ sym (contains_word_at (s.base / 4) s.round s.marked.items word (c.args.address / 4)
    (omega arith) (omega arith)))

pub returns-else-word-len-clause-stale : goal.returns-else-word-len-clause-stale
returns-else-word-len-clause-stale c =
    let s = c.self.inside in
    let word = (c.args.address - s.base) / 4 in
    rw (← c.self.view_is)
    (le-ltb word _ (omega arith)
    ∙ sym (contains_word_past (s.base / 4) s.round s.marked.items word (c.args.address / 4)
    (omega arith) (omega arith)))
