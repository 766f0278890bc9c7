-- The retired stores that wait for their drains, oldest first: each by its address, or by none where it retired before the run.
-- Stores drain in the order in which they retired, and the store queue has at most 64 places.
use Rattle.std.specs.Prelude.{ℕ, nat_lt, Bool, if◌then◌else◌, List, [], ◌∷◌, ◌++◌, drop, length, Option, Some, None}
use Rattle.rv_isa.specs.Instruction.{is_store}
use Rattle.rv_decode.specs.Decodes.{instruction_of}
use Rattle.rv_hardware.specs.declared.step.Step.{Step}
use Rattle.rv_hardware.specs.declared.step.Step.TheVariants.{Retired, Trap, Interrupt}
use Rattle.rv_stores.specs.declared.store.Store.{Store}
use Rattle.rv_causes.specs.Before.{is_waiting}

-- one more waits, after all others
abbrev pub entered : Option ℕ → List (Option ℕ) → List (Option ℕ)
entered address waiting = if nat_lt (length waiting) 64 then waiting ++ address ∷ [] else waiting

-- with a store of the queue when a run begins, if it waits
abbrev pub with_queued : Option Store → List (Option ℕ) → List (Option ℕ)
with_queued store waiting = if is_waiting store then entered None waiting else waiting

-- with all of them
abbrev pub with_queue : List Store → List (Option ℕ) → List (Option ℕ)
with_queue [] waiting = waiting
with_queue (store ∷ stores) waiting = with_queue stores (with_queued (Some store) waiting)

-- the address of the store that retires in a step, if one does
abbrev pub store_in : Step → Option ℕ
store_in (Retired row) = if is_store (instruction_of row.word) then Some row.pc else None
store_in (Trap pc cause value cycle) = None
store_in (Interrupt pc cause cycle) = None

-- with that one
abbrev pub with_retired : Option ℕ → List (Option ℕ) → List (Option ℕ)
with_retired None waiting = waiting
with_retired (Some address) waiting = entered (Some address) waiting

-- with those that retire in some steps
abbrev pub with_steps : List Step → List (Option ℕ) → List (Option ℕ)
with_steps [] waiting = waiting
with_steps (step ∷ steps) waiting = with_steps steps (with_retired (store_in step) waiting)

-- the address of the oldest, which drains first
abbrev pub oldest : List (Option ℕ) → Option ℕ
oldest [] = None
oldest (address ∷ waiting) = address

-- those that wait on after a cycle with these steps, whose drain phase, in which the oldest may begin to drain, comes
-- after its commit phase
abbrev pub still_waiting : List Step → Bool → List (Option ℕ) → List (Option ℕ)
still_waiting steps drains waiting = if drains then drop 1 (with_steps steps waiting) else with_steps steps waiting
