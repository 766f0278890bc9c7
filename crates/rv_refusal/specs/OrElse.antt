-- A list, or else another one.
use Rattle.std.specs.Prelude.{List, [], ◌∷◌}

-- a list that has items, or else another one
abbrev pub or_else : {X : Type 0} → List X → List X → List X
or_else [] others = others
or_else (first ∷ rest) others = first ∷ rest
