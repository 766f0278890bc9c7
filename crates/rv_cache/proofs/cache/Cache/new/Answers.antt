use Rattle.std.proofs.Common.{◌≡◌, ◌<◌, ◌∙◌, arith}
use Rattle.std.proofs.lemmas.List.{take_all, take_at}
use Rattle.rv_cache.proofs.Steps.{consistent_new}
use Rattle.rv_cache.proofs.Divided.{line_divides, base_divides}
use Rattle.rv_cache.proofs.cache.Cache.new.Goals as goal

pub invariant_of-result : goal.invariant_of-result
invariant_of-result g c =
    let memory = g.M.Backing.bytes c.args.backing in
    let cache = c.values.ensures.legal.cache in
    let shape = cache.0 in
    let divides = line_divides c.values.result.cache.line shape.line.0 shape.line.1 shape.line_power in
    let positive : 0 < c.values.result.cache.line = omega (arith, shape.line.0) in
    let same_count = c.read_block.auto.block ∙ c.deref_mut.ensures.len in
    let whole : c.read_block.new.block ≡ memory = c.read_block.ensures
    ∙ take_all _ memory (omega (arith, c.deref_mut.ensures.len, c.in_ok-bytes.ensures.len, c.size.ensures)) in
    rw (take_at c.read_block.new.block _ c.in_ok-bytes.bytes.len same_count, whole, c.in_ok-sets.ensures)
    (consistent_new c.args.base c.values.result.cache memory record {
      legal = cache;
      words = divides.0;
      base_aligned = base_divides c.args.base c.values.result.cache.line positive divides.1 c.requires.base.1;
      whole_lines = rw c.values.ensures.values c.requires.lines;
      reach = c.requires.reach;
    })
