-- What stands beside a statement.
use Rattle.std.specs.Prelude.{ℕ, Bool, true, false, List, codes, Option}
use Rattle.rv_drawing.specs.Label.{written_text}

-- what an instruction wrote, or that its word is stale, where that ended the run
unfoldable pub outcome_text : Bool → Option (ℕ × ℕ) → List ℕ
outcome_text true written = codes "stale"
outcome_text false written = written_text written
