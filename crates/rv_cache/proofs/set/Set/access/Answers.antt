use Rattle.std.proofs.Common.{◌≡◌, rules}
use Rattle.arrayvec.proofs.ArrayVecLemmas.{filter-from_retain}
use Rattle.rv_cache.specs.Replacement.{without}
use Rattle.rv_cache.proofs.Replacement.{accessed-first}
use Rattle.rv_cache.proofs.set.Set.access.Goals as goal

pub returns : goal.returns
returns c =
    let lines = c.self.inside.lines.items in
    let others : c.retain.new.self.items ≡ without c.args.number lines =
    filter-from_retain _ _ _ (λ line keeps f' after called. search rules) _ _ c.retain.ensures.filtered in
    let first = accessed-first c.args.ways c.args.number lines c.args.writes c.requires.ways.0 in
    search rules
