-- The loads by what they cost.
use Rattle.std.specs.Prelude.{ℕ, ◌+◌, ◌==◌, ◌&&◌, ◌||◌, Bool, false, nat_lt, not, if◌then◌else◌, Option, Some, None}
use Rattle.std.specs.Option.{option_map}
use Rattle.rv_isa.specs.Instruction.{is_load}
use Rattle.rv_isa.specs.declared.{issues.Issue.Issue, values.Values.Values}
use Rattle.rv_passage.specs.declared.passage.Passage.{Passage}
use Rattle.rv_counts.specs.declared.loads.LoadCosts.{LoadCosts}

-- the cycles from a load's issue until its result could be broadcast
abbrev pub load_cost : Passage → Option ℕ
load_cost p =
    if is_load p.instruction then option_map (λ (issue : Issue). issue.cost) p.issue else None

-- what loads cost: a hit, bytes that all come from the store queue, and a miss that writes no dirty line back
abbrev pub costs_of : Values → LoadCosts
costs_of values =
    record { hit = values.cache.hit; forward = values.forward; clean_miss = values.cache.hit + values.cache.miss }

-- the cost of a load that need not go to memory
abbrev pub is_quick : LoadCosts → ℕ → Bool
is_quick costs cost = (cost == costs.hit) || (cost == costs.forward)

-- a load at such a cost
abbrev pub is_hit : LoadCosts → Option ℕ → Bool
is_hit costs None = false
is_hit costs (Some cost) = is_quick costs cost

-- a load at any other cost
abbrev pub is_miss : LoadCosts → Option ℕ → Bool
is_miss costs None = false
is_miss costs (Some cost) = not (is_quick costs cost)

-- the cost of a miss that writes a dirty line back, where that costs anything
abbrev pub is_slow : LoadCosts → ℕ → Bool
is_slow costs cost = not (is_quick costs cost) && nat_lt costs.clean_miss cost
