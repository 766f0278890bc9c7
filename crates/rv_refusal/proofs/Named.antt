-- The names that slices hold.
use Rattle.std.proofs.Common.{◌≡◌, ℕ, Bor, List, map, sym, take}
use Rattle.std.specs.List.{take-map}

-- the first three names of a list
pub named_three : (names : List (Bor (List ℕ))) → map (λ name. name.now) (take 3 names)
    ≡ take 3 (map (λ name. name.now) names)
named_three names = sym (take-map (λ name. name.now) 3 names)
