-- The line of a set of the cache.
use Rattle.std.specs.Prelude.{ℕ, List, ◌++◌, codes, map}
use Rattle.rv_cache.specs.declared.line.CacheLine.{CacheLine}
use Rattle.rv_states.specs.Json.{Json, also, array, begins, numeral, truth}

-- a line: its address divided by the bytes of a line, and whether it was written since it was last the memory's
unfoldable pub line_json : CacheLine → Json
line_json line =
    begins (codes "line") (numeral line.number) ++ (also (codes "dirty") (truth line.dirty) ++ codes "}")

-- the number of a set and its lines, most recently used first
unfoldable pub lines_text : ℕ → List CacheLine → List ℕ
lines_text set lines =
    begins (codes "set") (numeral set) ++ (also (codes "lines") (array (map line_json lines)) ++ codes "}\n")
