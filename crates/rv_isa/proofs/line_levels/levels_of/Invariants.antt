use Rattle.std.proofs.Common.{◌≡◌, ℕ, ◌*◌, ◌<◌, drop, fold, take, length, slice_index_or}
use Rattle.rv_isa.specs.Arrivals.{no_lines}
use Rattle.rv_isa.specs.Levels.{line_set}
use Rattle.rv_isa.specs.declared.line_levels.TheConstants.{BLOCK, BLOCKS}
use Rattle.rv_isa.specs.declared.lines.Lines.{Lines}
use Rattle.rv_isa.proofs.line_levels.levels_of.Given as goal

abbrev pub invariant-loop-block : goal.invariant-loop-block
invariant-loop-block l =
    (length l.levels ≡ BLOCKS)
    × (l.rest ≡ drop (l.block * BLOCK) l.items)
    × (l.lines ≡ fold line_set no_lines (take (l.block * BLOCK) l.items))
    × ((k : ℕ) (d : Lines) → k < l.block → slice_index_or l.levels k d
    ≡ fold line_set no_lines (take (k * BLOCK) l.items))
