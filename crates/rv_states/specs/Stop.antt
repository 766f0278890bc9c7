-- The line of the end of a run.
use Rattle.std.specs.Prelude.{ℕ, List, ◌++◌, codes}
use Rattle.rv_arch.specs.declared.outcome.Stop.{Stop as StopOf}
use Rattle.rv_arch.specs.declared.outcome.Stop.TheVariants.{Limit, Breakpoint, Stale, Exhausted}
use Rattle.rv_states.specs.Json.{Json, also, begins, numeral, quoted}

-- why a run ended
abbrev pub stop_name : StopOf → List ℕ
stop_name Limit = codes "limit"
stop_name Breakpoint = codes "breakpoint"
stop_name (Stale pc) = codes "stale"
stop_name Exhausted = codes "exhausted"

-- after how many cycles it ended, and why
unfoldable pub stop_json : ℕ → StopOf → Json
stop_json cycles stop =
    begins (codes "cycles") (numeral cycles) ++ (also (codes "stop") (quoted (stop_name stop)) ++ codes "}")

-- the line that says so
unfoldable pub stop_line : ℕ → StopOf → List ℕ
stop_line cycles stop = stop_json cycles stop ++ codes "\n"
