use Rattle.std.proofs.Common.{◌∙◌}
use Rattle.std.proofs.lemmas.List.{take_at}
use Rattle.rv_cache.proofs.Steps.{memory_written, consistent_cleaned}
use Rattle.rv_cache.proofs.cache.Cache.write_back_all.Goals as goal

pub invariant_of-self : goal.invariant_of-self
invariant_of-self g c =
    let s = c.self.inside in
    let memory = g.M.Backing.bytes s.backing in
    let all_seen = memory_written s.base s.values s.bytes.items memory s.sets.items c.self.invariant in
    let same_count = c.write_back_sets.auto.sets ∙ c.deref_mut.ensures.len in
    rw (
      take_at c.write_back_sets.new.sets _ s.sets.len same_count,
      c.write_back_sets.ensures.cleaned,
      c.write_back_sets.ensures.written,
      c.deref_mut.ensures.value,
      c.deref.ensures.value,
    )
    (consistent_cleaned s.base s.values s.bytes.items memory s.sets.items c.self.invariant _ all_seen)

pub returns-clause-written : goal.returns-clause-written
returns-clause-written g c =
    let s = c.self.inside in
    let memory = g.M.Backing.bytes s.backing in
    rw (c.write_back_sets.ensures.written, c.deref_mut.ensures.value, c.deref.ensures.value, ← c.self.view_is)
    (memory_written s.base s.values s.bytes.items memory s.sets.items c.self.invariant)
