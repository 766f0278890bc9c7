-- The levels that are kept after each block of arrivals: no public clause names them.
use Rattle.std.specs.Prelude.{◌≡◌, ℕ, ◌*◌, ◌<◌, cond, List, fold, take, slice_index_or}
use Rattle.rv_isa.specs.declared.lines.Line.TheVariants.{Software, Timer, External}
use Rattle.rv_isa.specs.declared.{lines.Lines.Lines, lines.Arrival.Arrival}
use Rattle.rv_isa.specs.declared.{line_levels.TheConstants.BLOCK, line_levels.TheConstants.BLOCKS}
use Rattle.rv_isa.specs.Arrivals.{is_line, no_lines}

-- an arrival gives its line its level
abbrev pub line_set : Lines → Arrival → Lines
line_set lines a =
    record {
      software = cond (is_line Software a.line) a.level lines.software;
      timer = cond (is_line Timer a.line) a.level lines.timer;
      external = cond (is_line External a.line) a.level lines.external;
    }

-- place k holds the levels after the first k blocks
abbrev pub HoldsLevels : List Arrival → List Lines → Type 0
HoldsLevels arrivals levels =
    (k : ℕ) (d : Lines) → k < BLOCKS → slice_index_or levels k d ≡ fold line_set no_lines (take (k * BLOCK) arrivals)
