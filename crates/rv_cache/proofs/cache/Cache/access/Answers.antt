use Rattle.std.proofs.Common.{[], ◌≡◌, ◌/◌, ◌%◌, get_or}
use Rattle.std.proofs.lemmas.List.{get_or_read}
use Rattle.rv_cache.proofs.Steps.{place_in, dropped_inside, updated_elsewhere, consistent_after}
use Rattle.rv_cache.proofs.cache.Cache.access.Goals as goal
use Rattle.rv_cache.proofs.cache.Cache.access.Goals.{After-index_mut}
use Rattle.rv_cache.proofs.cache.Cache.access.Given.{Over}

-- the set that is accessed is the one at the place of the line
set_is : (g : Over) (c : After-index_mut g) → c.index_mut.result.now
    ≡ get_or c.self.inside.sets.items (c.args.address / c.self.inside.values.line % c.self.inside.values.sets) []
set_is g c =
    let s = c.self.inside in
    let number = c.args.address / s.values.line in
    get_or_read s.sets.items (number % s.values.sets) c.index_mut.result.now
    (place_in s.base s.values s.bytes.items (g.M.Backing.bytes s.backing) s.sets.items c.self.invariant number)
    c.index_mut.ensures.value []

pub write_back_victim-requires-clause-inside : goal.write_back_victim-requires-clause-inside
write_back_victim-requires-clause-inside g c =
    let s = c.self.inside in
    let read = set_is g (goal.at.write_back_victim-requires-clause-inside g c).After-index_mut in
    rw (c.access-access.ensures.victim, c.deref.ensures.value, read)
    (dropped_inside s.base s.values s.bytes.items (g.M.Backing.bytes s.backing) s.sets.items c.self.invariant
    (c.args.address / s.values.line))

pub invariant_of-self : goal.invariant_of-self
invariant_of-self g c =
    let s = c.self.inside in
    let cached = rw (← c.self.view_is) at c.requires.cached in
    let read = set_is g (goal.at.invariant_of-self g c).After-index_mut in
    rw (
      c.access-access.ensures.lines,
      c.write_back_victim.ensures.written,
      c.access-access.ensures.victim,
      c.deref.ensures.value,
      read,
    ) (consistent_after s.base s.values s.bytes.items (g.M.Backing.bytes s.backing) s.sets.items
    c.self.invariant c.args.address cached.0 cached.1 c.args.writes)

pub returns-clause-elsewhere : goal.returns-clause-elsewhere
returns-clause-elsewhere g c i =
    let s = c.self.inside in
    let cached = rw (← c.self.view_is) at c.requires.cached in
    let read = set_is g (goal.at.returns-clause-elsewhere g c).After-index_mut in
    rw (
      c.write_back_victim.ensures.written,
      c.access-access.ensures.victim,
      c.deref.ensures.value,
      read,
      ←
          c.self.view_is,
    )
    (updated_elsewhere s.base s.values s.bytes.items (g.M.Backing.bytes s.backing) s.sets.items c.self.invariant
    c.args.address cached.0 cached.1 c.args.writes i)
