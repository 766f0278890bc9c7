-- The lines of a set, most recently used first.
use Rattle.std.specs.Prelude.{ℕ, ◌+◌, Bool, false, ◌&&◌, ◌==◌, if◌then◌else◌, List, [], ◌∷◌}
use Rattle.std.specs.List.{list_any}
use Rattle.rv_cache.specs.declared.line.CacheLine.{CacheLine}

-- whether a set holds a line
abbrev pub is_held : ℕ → List CacheLine → Bool
is_held number lines = list_any (λ line. line.number == number) lines

-- whether a set holds a line that is dirty
abbrev pub is_dirty : ℕ → List CacheLine → Bool
is_dirty number lines = list_any (λ line. line.number == number && line.dirty) lines

-- a line that was written back, and stays
abbrev pub cleaned : CacheLine → CacheLine
cleaned line = record line { dirty = false }

-- how many lines are dirty
abbrev pub dirty_count : List CacheLine → ℕ
dirty_count [] = 0
dirty_count (line ∷ lines) = (if line.dirty then 1 else 0) + dirty_count lines

-- how many lines of these sets are dirty
abbrev pub dirty_total : List (List CacheLine) → ℕ
dirty_total [] = 0
dirty_total (lines ∷ sets) = dirty_count lines + dirty_total sets
