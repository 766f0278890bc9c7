-- What is read of the input.
use Rattle.std.specs.Prelude.{◌≡◌, ℕ, ◌+◌, List, Option, IfSome, take}
use Rattle.std.specs.Io.KnownBytes.{Consumes}

-- the most bytes that a job may have
abbrev pub most_bytes : ℕ
most_bytes = 33554432

-- the bytes of a reader, where they are known: all of them, or the first of them up to one more than a job may have
abbrev pub IsInputOf : Option (List ℕ) → List ℕ → Type 0
IsInputOf remaining input = IfSome remaining (λ bytes. input ≡ take (most_bytes + 1) bytes)

-- some of the bytes that a reader had left were read, and nothing else
abbrev pub HasRead : Option (List ℕ) → Option (List ℕ) → Type 0
HasRead old new = (read : List ℕ) × Consumes old new read
