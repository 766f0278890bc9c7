use Rattle.rv_core.proofs.Words.{◌≡◌, ◌%◌, ◌<◌, length, sym, ap, ◌∙◌, arith, base_divides, line_divides}
use Rattle.rv_core.proofs.Ties.Reset.{image_over_zeros}
use Rattle.rv_core.proofs.parts.cache_at_reset.Goals as goal

pub new-requires-2-clause-lines : goal.new-requires-2-clause-lines
new-requires-2-clause-lines c =
    let sized : length c.load.new.self.bytes ≡ c.load.new.self.layout.size = c.load.ensures.sized in
    let kept : c.load.new.self.layout.size ≡ c.in_ok-ram.ram.layout.size =
    ap (λ m. m.layout.size) c.load.ensures.loaded in
    let made : c.in_ok-ram.ram.layout.size ≡ c.values-values.result.ram_size =
    ap (λ m. m.layout.size) c.in_ok-ram.ensures in
    let legal = c.values-values.ensures.legal in
    let shape = legal.cache.0 in
    let values = c.values-values.result in
    let line = values.cache.line in
    let divides : 4096 % line ≡ 0 = (line_divides line shape.line.0 shape.line.1 shape.line_power).1 in
    let positive : 0 < line = omega arith in
    let whole : values.ram_size % line ≡ 0 = base_divides values.ram_size line positive divides legal.memory.size.2 in
    ap (λ n. n % c.args.description.now.cache.line) (sized ∙ kept ∙ made)
    ∙ (ap (λ v. values.ram_size % v.cache.line) (sym c.values-values.ensures.values) ∙ whole)

pub returns : goal.returns
returns c = grind (arith, image_over_zeros)
