use Rattle.std.proofs.Common.{arith, ◌≡◌, ◌/◌, ◌*◌, fold, take, get_or, ◌<◌, ◌≤◌, ap, length}
use Rattle.rv_isa.specs.declared.line_levels.TheConstants.{BLOCK, BLOCKS}
use Rattle.rv_isa.specs.Arrivals.{no_lines}
use Rattle.rv_isa.specs.Levels.{line_set}
use Rattle.rv_isa.proofs.Levels.{lines_at-from}
use Rattle.rv_isa.proofs.arrivals.Arrivals.at.Goals as goal

pub count_until-count-requires : goal.count_until-count-requires
count_until-count-requires c = rw c.as_slice-items.ensures.value c.self.invariant.0.order

pub returns : goal.returns
returns c =
    let same = c.as_slice-items.ensures.value in
    let count = c.count_until-count.result in
    let split = c.count_until-count.ensures in
    let full : count / BLOCK < BLOCKS = omega (arith, split.within, ap length same, c.self.invariant.0.count) in
    let levels : get_or c.self.inside.levels (count / BLOCK) no_lines
    ≡ fold line_set no_lines (take (count / BLOCK * BLOCK) c.as_slice-items.result.now) =
    rw same (c.self.invariant.1 (count / BLOCK) no_lines full) in
    let whole : count / BLOCK * BLOCK ≤ count = omega arith in
    rw (c.lines_after.ensures, ← c.self.view_is, ← same)
    (lines_at-from c.as_slice-items.result.now c.args.cycle count (count / BLOCK * BLOCK)
    (get_or c.self.inside.levels (count / BLOCK) no_lines) whole split.not_later levels)
