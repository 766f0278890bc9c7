-- The result of an instruction on its way to the common data bus.
use Rattle.std.specs.Prelude.{ℕ, ◌+◌, ◌&&◌, Bool, false, not, nat_le, Option, None, Some}
use Rattle.std.specs.Option.{option_map}
use Rattle.rv_isa.specs.declared.issues.Issue.{Issue}
use Rattle.rv_passage.specs.declared.passage.Passage.{Passage}

-- the cycle in which its execution began
abbrev pub issued_in : Passage → Option ℕ
issued_in p = option_map (λ (issue : Issue). issue.cycle) p.issue

-- the first cycle in which its result can be broadcast
abbrev pub ready_in : Passage → Option ℕ
ready_in p = option_map (λ (issue : Issue). issue.cycle + issue.cost) p.issue

-- something came in this cycle or before
abbrev pub has_come : ℕ → Option ℕ → Bool
has_come cycle None = false
has_come cycle (Some stamp) = nat_le stamp cycle

-- it waits for the bus: its result is ready, and was not broadcast yet
abbrev pub waits_for_bus : Passage → ℕ → Bool
waits_for_bus p cycle = has_come cycle (ready_in p) && not (has_come cycle p.broadcast)
