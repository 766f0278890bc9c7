use Rattle.std.proofs.Common.{ℕ, ◌≤◌, ◌+◌, List, length, get_or, ap, sym, inl, inr, ◌∙◌, arith}
use Rattle.std.proofs.lemmas.List.{take_at}
use Rattle.rv_cache.specs.Cache.{Contents}
use Rattle.rv_cache.proofs.Steps.{consistent_written, written_elsewhere, dirty_after_access}
use Rattle.rv_cache.proofs.cache.Cache.write.Goals as goal

pub invariant_of-self : goal.invariant_of-self
invariant_of-self g c =
    let s = c.self.inside in
    let memory = g.M.Backing.bytes s.backing in
    let tie = c.self.view_is ∙ c.access-cost.ensures.accessed in
    let same_base = ap (λ (v : Contents _). v.base) tie in
    let same_bytes = ap (λ (v : Contents _). v.bytes) tie in
    let access = c.requires.access in
    let above : s.base ≤ c.args.address = omega (arith, same_base, access.1.0) in
    let below : c.args.address + length c.args.bytes.now ≤ s.base + length s.bytes.items =
    omega (arith, same_base, ap length same_bytes, access.1.1) in
    let dirty = dirty_after_access s.base s.values s.bytes.items memory s.sets.items c.self.invariant c.args.self.now
    c.args.address (ap (λ (v : Contents _). v.values) tie) (ap (λ (v : Contents _). v.sets) tie) in
    let same_count = c.overwrite.auto.bytes ∙ c.deref_mut.ensures.len in
    rw (take_at c.overwrite.new.bytes _ s.bytes.len same_count, c.overwrite.ensures, c.deref_mut.ensures.value)
    (consistent_written s.base s.values s.bytes.items memory s.sets.items c.self.invariant c.args.address
    c.args.bytes.now access.0.0 access.0.1 above below dirty)

pub returns-clause-updated : goal.returns-clause-updated
returns-clause-updated g c i =
    let s = c.self.inside in
    let memory = g.M.Backing.bytes s.backing in
    let tie = c.self.view_is ∙ c.access-cost.ensures.accessed in
    let same_base = ap (λ (v : Contents _). v.base) tie in
    let same_line = ap (λ (v : Contents _). v.values.line) tie in
    let same_bytes = ap (λ (v : Contents _). v.bytes) tie in
    let access = c.requires.access in
    let above : s.base ≤ c.args.address = omega (arith, same_base, access.1.0) in
    let below : c.args.address + length c.args.bytes.now ≤ s.base + length s.bytes.items =
    omega (arith, same_base, ap length same_bytes, access.1.1) in
    let same_count = c.overwrite.auto.bytes ∙ c.deref_mut.ensures.len in
    let elsewhere = rw (← c.self.view_is) at c.access-cost.ensures.elsewhere i in
    rw (
      take_at c.overwrite.new.bytes _ s.bytes.len same_count,
      c.overwrite.ensures,
      c.deref_mut.ensures.value,
    ) (elim elsewhere [
      | inl stays ↦ inl stays
      | inr seen ↦
          let stays = written_elsewhere s.base s.values s.bytes.items memory s.sets.items c.self.invariant
          c.args.address c.args.bytes.now access.0.0 access.0.1 above below i
          (λ own. seen.1 (cc (own, same_base, same_line))) in
          inr (seen.0 ∙ ap (λ (xs : List ℕ). get_or xs i 0) (sym same_bytes) ∙ stays)
    ])
