-- Lists of things that have sequence numbers; `seq` gives the number of one.
use Rattle.std.specs.Prelude.{ℕ, ◌<◌, List, filter, nat_lt}
use Rattle.std.specs.List.{All, AllPairs}

-- those whose number is below n
abbrev pub below : {X : Type 0} → (X → ℕ) → ℕ → List X → List X
below seq n xs = filter (λ x. nat_lt (seq x) n) xs

-- every number is below n
abbrev pub AreBelow : {X : Type 0} → (X → ℕ) → ℕ → List X → Type 0
AreBelow seq n xs = All (λ x. seq x < n) xs

-- each number is below all later ones
abbrev pub IsInOrder : {X : Type 0} → (X → ℕ) → List X → Type 0
IsInOrder seq xs = AllPairs (λ x y. seq x < seq y) xs
