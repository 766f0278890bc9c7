use Rattle.std.specs.Prelude.{ℕ, List}
use Rattle.std.specs.List.{flat_map, range_with_len}
use Rattle.rv_drawing.specs.declared.window.Window.{Window}

-- one text for each column of a window
unfoldable pub columns : Window → (ℕ → List ℕ) → List ℕ
columns window text = flat_map text (range_with_len 0 window.cycles)
