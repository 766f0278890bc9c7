-- What a branch predictor holds and answers, as JSON.
use Rattle.std.specs.Prelude.{ℕ, ◌++◌, codes, Option}
use Rattle.rv_states.specs.Json.{Json, also, also_some, begins, numeral}

-- a place of the tables: its counter, and the last target that a JALR of the place had, if there was one
unfoldable pub place_json : ℕ → ℕ → Option ℕ → Json
place_json place counter target =
    begins (codes "place") (numeral place) ++
    ((also (codes "counter") (numeral counter) ++ also_some (codes "target") target) ++ codes "}")

-- a word that a predictor was asked of: its address, its place in the tables, where there are tables, and the answer
unfoldable pub asked_json : ℕ → Option ℕ → ℕ → Json
asked_json pc place answer =
    begins (codes "pc") (numeral pc) ++
    ((also_some (codes "place") place ++ also (codes "answer") (numeral answer)) ++ codes "}")
