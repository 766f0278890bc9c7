-- The lines of the sets of the cache.
use Rattle.std.specs.Prelude.{ℕ, List, [], ◌∷◌, get_or}
use Rattle.std.specs.List.{flat_map, range_with_len}
use Rattle.rv_cache.specs.declared.line.CacheLine.{CacheLine}
use Rattle.rv_hardware.specs.Hardware.{Hardware}
use Rattle.rv_states.specs.Set.{lines_text}

-- the line of a set, but for one that holds no line
abbrev pub lines_if : ℕ → List CacheLine → List ℕ
lines_if set [] = []
lines_if set (line ∷ lines) = lines_text set (line ∷ lines)

-- the line of a set by its number
abbrev pub set_line : Hardware → ℕ → List ℕ
set_line h set = lines_if set (get_or h.cache.sets set [])

-- those of so many sets
unfoldable pub set_lines : Hardware → ℕ → List ℕ
set_lines h count = flat_map (set_line h) (range_with_len 0 count)
