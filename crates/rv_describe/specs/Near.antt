-- The known names, and the keys, that are near an unknown name.
use Rattle.std.specs.Prelude.{ℕ, ◌+◌, ◌==◌, List, ◌++◌, Bool, ◌&&◌, length, nat_eq, nat_le, nat_lt, take}
use Rattle.std.specs.List.{filter}
use Rattle.strsim.specs.Edits.{levenshtein_row}
use Rattle.rv_isa.specs.Key.{order, text_of}
use Rattle.rv_isa.specs.declared.keys.Key.{Key}

-- how many insertions, deletions and substitutions of a byte lead from one name to another at least: their Levenshtein distance
abbrev pub edits : List ℕ → List ℕ → ℕ
edits name other = levenshtein_row nat_eq name other (length other)

-- a known name is so many edits away, which are fewer than the unknown name has bytes; one of more than 64 bytes is not compared
abbrev pub is_near : ℕ → List ℕ → List ℕ → Bool
is_near distance name other =
    nat_lt distance (length name)
    && (nat_le (length name) 64 && (nat_le (length other) (length name + distance) && edits name other == distance))

-- those of some keys that are so many edits away
abbrev pub near_keys : ℕ → List ℕ → List Key → List Key
near_keys distance name keys = filter (λ k. is_near distance name (text_of k)) keys

-- the keys that are one edit away, and then those that are two away; at most three
abbrev pub nearest_keys : List ℕ → List Key
nearest_keys name = take 3 (near_keys 1 name order ++ near_keys 2 name order)
