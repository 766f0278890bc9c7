-- What holds of no text, and of one text after another, holds of the texts of items.
use Rattle.std.proofs.Common.{ℕ, List, [], ◌∷◌, ◌++◌}
use Rattle.std.specs.List.{flat_map}

-- of those one after the other, where it holds of each
pub each_of : {X : Type 0} (P : List ℕ → Type 0) → P [] → ((xs ys : List ℕ) → P xs → P ys → P (xs ++ ys)) →
    (text : X → List ℕ)
    → ((x : X) → P (text x)) → (xs : List X) → P (flat_map text xs)
each_of P none both text are [] = none
each_of P none both text are (x ∷ xs) = both (text x) (flat_map text xs) (are x) (each_of P none both text are xs)
