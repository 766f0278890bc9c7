-- The rule of replacement: a set drops the line that was used least recently.
use Rattle.std.specs.Prelude.{ℕ, ◌-◌, Bool, not, ◌||◌, ◌==◌, List, ◌∷◌, filter, take, slice_get, Option}
use Rattle.rv_cache.specs.declared.line.CacheLine.{CacheLine}
use Rattle.rv_cache.specs.Line.{is_dirty}

-- the other lines of a set
abbrev pub without : ℕ → List CacheLine → List CacheLine
without number lines = filter (λ line. not (line.number == number)) lines

-- an access moves its line to the front or puts it there, a write makes it dirty, and a set that is full drops its last line
abbrev pub accessed : ℕ → ℕ → Bool → List CacheLine → List CacheLine
accessed ways number writes lines =
    take ways (record { number = number; dirty = writes || is_dirty number lines } ∷ without number lines)

-- the line that an access drops, if there is one
abbrev pub victim : ℕ → ℕ → List CacheLine → Option CacheLine
victim ways number lines = slice_get (without number lines) (ways - 1)
