-- What the backing holds once lines were written to it.
use Rattle.std.specs.Prelude.{ℕ, ◌+◌, ◌-◌, ◌*◌, ◌≤◌, if◌then◌else◌, List, [], ◌∷◌, slice_range, Option, Some, None}
use Rattle.rv_memory.specs.Bytes.{overwritten}
use Rattle.rv_cache.specs.declared.line.CacheLine.{CacheLine}

-- each element has a property
abbrev pub Each : {X : Type 0} → (X → Type 0) → List X → Type 0
Each P [] = Unit {0}
Each P (x ∷ xs) = P x × Each P xs

module _ (base line_bytes : ℕ) where
  -- the whole line lies in a range of this many bytes
  abbrev pub IsInside : ℕ → ℕ → Type 0
  IsInside size number = (base ≤ number * line_bytes) × (number * line_bytes + line_bytes ≤ base + size)

  -- so do these lines
  abbrev pub AreInside : ℕ → List CacheLine → Type 0
  AreInside size lines = Each (λ line. IsInside size line.number) lines

  -- how many bytes lie before a line
  abbrev pub offset_of : ℕ → ℕ
  offset_of number = number * line_bytes - base

  -- a dirty line's bytes, as a program sees them, replace those that memory has there
  abbrev pub line_written : List ℕ → CacheLine → List ℕ → List ℕ
  line_written bytes line memory =
      if line.dirty
      then overwritten memory (offset_of line.number)
      (slice_range bytes (offset_of line.number) (offset_of line.number + line_bytes)) else memory

  -- memory once the line that a set dropped was written, if it dropped one
  abbrev pub victim_written : List ℕ → Option CacheLine → List ℕ → List ℕ
  victim_written bytes None memory = memory
  victim_written bytes (Some line) memory = line_written bytes line memory

  -- memory once the dirty ones of these lines were written
  abbrev pub lines_written : List ℕ → List CacheLine → List ℕ → List ℕ
  lines_written bytes [] memory = memory
  lines_written bytes (line ∷ lines) memory = lines_written bytes lines (line_written bytes line memory)

  -- memory once the dirty lines of these sets were written
  abbrev pub sets_written : List ℕ → List (List CacheLine) → List ℕ → List ℕ
  sets_written bytes [] memory = memory
  sets_written bytes (lines ∷ sets) memory = sets_written bytes sets (lines_written bytes lines memory)
