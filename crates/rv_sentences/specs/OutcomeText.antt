-- What loads or stores cost, in words.
use Rattle.std.specs.Prelude.{ℕ, ◌==◌, ◌&&◌, Bool, not, if◌then◌else◌, List}
use Rattle.std.specs.Prelude.{[], ◌++◌, codes, decimal, Option, Some, None}
use Rattle.rv_sentences.specs.declared.outcomes.Outcomes.{Outcomes}

-- there is one
abbrev pub has_any : Outcomes → Bool
has_any outcomes = not ((outcomes.hits == 0) && (outcomes.misses == 0))

-- how many of the hits were forwarded at another cost, if any were
unfoldable pub forwarded_text : ℕ → List ℕ
forwarded_text forwarded = if forwarded == 0 then [] else codes ", of them forwarded " ++ decimal forwarded

-- how many hit and missed, after what they are
unfoldable pub outcomes_text : List ℕ → Outcomes → List ℕ
outcomes_text name outcomes =
    name ++ (codes ": hits " ++ (decimal outcomes.hits ++ (forwarded_text outcomes.forwarded ++ (codes ", misses " ++
    (decimal outcomes.misses ++ (codes ", write-backs " ++ decimal outcomes.write_backs))))))

-- the same in brackets, where there is one
unfoldable pub outcomes_aside : List ℕ → Outcomes → List ℕ
outcomes_aside name outcomes = if has_any outcomes then outcomes_text name outcomes ++ codes ")" else []

-- the loads in a word that retired
unfoldable pub loads_aside : Option Outcomes → List ℕ
loads_aside None = []
loads_aside (Some outcomes) = outcomes_aside (codes " (its loads") outcomes

-- the stores in a word that began to drain
unfoldable pub stores_aside : Outcomes → List ℕ
stores_aside outcomes = outcomes_aside (codes " (its stores") outcomes
