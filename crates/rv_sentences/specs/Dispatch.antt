-- The cycles that dispatched something that retired.
use Rattle.std.specs.Prelude.{ℕ, ◌+◌, ◌-◌, ◌==◌, Bool, false, if◌then◌else◌, List}
use Rattle.std.specs.Prelude.{[], ◌∷◌, ◌++◌, codes, decimal, Option, Some, None}
use Rattle.rv_hardware.specs.declared.step.Step.{Step}
use Rattle.rv_hardware.specs.declared.step.Step.TheVariants.{Retired, Trap, Interrupt}
use Rattle.rv_sentences.specs.declared.dispatches.Dispatches.{Dispatches}

-- of no step
abbrev pub none_dispatched : Dispatches
none_dispatched = record { cycles = 0; last = None }

-- a cycle is the last of those so far
abbrev pub is_last : Option ℕ → ℕ → Bool
is_last None cycle = false
is_last (Some last) cycle = last == cycle

-- with the cycle in which an instruction was dispatched
abbrev pub with_cycle : ℕ → Dispatches → Dispatches
with_cycle cycle d = if is_last d.last cycle then d else record { cycles = d.cycles + 1; last = Some cycle }

-- with one more step: dispatch is in program order, so that what retires of one cycle's instructions retires in a row
abbrev pub dispatched_with : Step → Dispatches → Dispatches
dispatched_with (Retired row) d = with_cycle row.dispatched d
dispatched_with (Trap pc cause value cycle) d = d
dispatched_with (Interrupt pc cause cycle) d = d

-- with more steps
abbrev pub dispatched_after : List Step → Dispatches → Dispatches
dispatched_after [] d = d
dispatched_after (step ∷ steps) d = dispatched_after steps (dispatched_with step d)

-- the line on the busy cycles
unfoldable pub dispatches_text : ℕ → ℕ → List ℕ
dispatches_text busy useful =
    codes "of the busy cycles " ++ (decimal useful ++ (codes " dispatched something that retired, " ++
    (decimal (busy - useful) ++ codes " only what did not\n")))
