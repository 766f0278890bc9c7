use Rattle.std.proofs.Common.{arith, ◌≡◌, ◌+◌, ◌*◌, ◌∙◌, ap, fold, take}
use Rattle.std.proofs.lemmas.Grind.{common_steps}
use Rattle.std.proofs.lemmas.List.{drop-drop, drop_min, take_min}
use Rattle.rv_isa.specs.Arrivals.{no_lines}
use Rattle.rv_isa.specs.Levels.{line_set}
use Rattle.rv_isa.specs.declared.line_levels.TheConstants.{BLOCK}
use Rattle.rv_isa.proofs.Levels.{fold-more, table_more}
use Rattle.rv_isa.proofs.line_levels.levels_of.Goals as goal

pub loop-block-preserved : goal.loop-block-preserved
loop-block-preserved c =
    let next : (c.loop-block.block + 1) * BLOCK ≡ c.loop-block.block * BLOCK + BLOCK = omega arith in
    let here = c.loop-block.invariant.2 in (
      grind (arith, common_steps),
      grind (arith, common_steps, drop-drop, drop_min, next, c.split_at.ensures.back),
      let count : take c.min.result c.loop-block.rest.now ≡ take BLOCK c.loop-block.rest.now =
          grind (arith, c.min.ensures, take_min BLOCK c.loop-block.rest.now) in
          rw (c.lines_after-lines.ensures, c.split_at.ensures.front, next)
          (fold-more no_lines c.loop-block.lines c.args.items.now (take c.min.result c.loop-block.rest.now)
          (c.loop-block.block * BLOCK) BLOCK (count ∙ ap (take BLOCK) c.loop-block.invariant.1) here),
      table_more (λ k. fold line_set no_lines (take (k * BLOCK) c.args.items.now)) c.loop-block.levels _ _
          (omega (arith, c.loop-block.invariant.0, c.loop-block-test.true)) here c.loop-block.invariant.3,
    )
