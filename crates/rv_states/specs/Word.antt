-- The line of a word of memory.
use Rattle.std.specs.Prelude.{ℕ, Bool, List, ◌++◌, codes}
use Rattle.rv_states.specs.Json.{Json, also, begins, numeral, truth}

-- an address, the word there, and whether it was stored to since the last FENCE.I
unfoldable pub word_json : ℕ → ℕ → Bool → Json
word_json address word stale =
    begins (codes "memory") (numeral address) ++
    ((also (codes "word") (numeral word) ++ also (codes "stale") (truth stale)) ++ codes "}")

-- the line of it
unfoldable pub word_text : ℕ → ℕ → Bool → List ℕ
word_text address word stale = word_json address word stale ++ codes "\n"
