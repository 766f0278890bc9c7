-- The drains of a run by what they cost: the accesses by which retired stores go into the cache. One is counted when it begins.
use Rattle.std.specs.Prelude.{ℕ, ◌==◌, List, []}
use Rattle.std.specs.Prelude.{◌∷◌, ◌++◌, codes, length, Option, Some, None, count_by}
use Rattle.std.specs.Option.{option_to_list}
use Rattle.std.specs.FinSet as set
use Rattle.rv_isa.specs.Arrivals.{lines_at}
use Rattle.rv_isa.specs.declared.lines.Arrival.{Arrival}
use Rattle.rv_hardware.specs.Cycle.{commit_with}
use Rattle.rv_hardware.specs.Draining.{drain_cost}
use Rattle.rv_hardware.specs.Hardware.{Hardware}
use Rattle.rv_sentences.specs.Access.{access_text}
use Rattle.rv_hardware.specs.History.{Moment}
use Rattle.rv_sentences.specs.declared.accesses.Accesses.{Accesses}

-- what the access costs that the drain phase of a cycle begins, which comes after the commit phase, if it begins one
abbrev pub drain_in : List Arrival → Hardware → Option ℕ
drain_in arrivals h = drain_cost (commit_with set.contains (lines_at arrivals h.cycle) h).hardware

-- what the accesses cost that begin in some cycles
abbrev pub drains_of : List Arrival → Hardware → List Moment → List ℕ
drains_of arrivals h [] = []
drains_of arrivals h (moment ∷ moments) =
    option_to_list (drain_in arrivals h) ++ drains_of arrivals moment.after moments

-- drains by what each cost, and what a hit costs
abbrev pub drains_by : ℕ → List ℕ → Accesses
drains_by hit costs = record { all = length costs; quick = count_by (λ cost. cost == hit) costs }

-- the line on the drains of a run
unfoldable pub drain_text : Accesses → List ℕ
drain_text drains = access_text (codes "drains: ") (codes " at the cost of a hit, ") drains
