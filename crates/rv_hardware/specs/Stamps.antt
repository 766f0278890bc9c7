-- What the laws say of reported steps, by their stamps alone.
use Rattle.std.specs.Prelude.{◌≡◌, ℕ, ◌+◌, ◌==◌, ◌&&◌, not, nat_le, nat_lt, Bool, true, false}
use Rattle.std.specs.Prelude.{if◌then◌else◌, List, [], ◌∷◌, ◌++◌, filter, Option, Some, None}
use Rattle.std.specs.Option.{option_map, unwrap_or}
use Rattle.rv_decode.specs.Decodes.{instruction_of}
use Rattle.rv_isa.specs.Instruction.{is_serialising, is_fence_i, is_load, is_store, kind_of_word}
use Rattle.rv_isa.specs.Instruction.{is_of_kind, sources_of_word, target_of_word, is_target}
use Rattle.rv_isa.specs.declared.{causes.Cause.Cause, instructions.Instr.Instr, operations.Kind.Kind}
use Rattle.rv_isa.specs.declared.causes.Cause.TheVariants.{InstructionAccessFault, IllegalInstruction}
use Rattle.rv_isa.specs.declared.causes.Cause.TheVariants.{Breakpoint, EnvironmentCall}
use Rattle.rv_hardware.specs.Step.{stamp_of}
use Rattle.rv_hardware.specs.declared.step.{Execution.Execution, Row.Row, Step.Step}
use Rattle.rv_hardware.specs.declared.step.Step.TheVariants.{Retired, Trap, Interrupt}

-- the retirements among some steps
abbrev pub rows_of : List Step → List Row
rows_of [] = []
rows_of (Retired row ∷ steps) = row ∷ rows_of steps
rows_of (Trap pc cause value cycle ∷ steps) = rows_of steps
rows_of (Interrupt pc cause cycle ∷ steps) = rows_of steps

-- the steps of the cycles below c, and those of cycle c
abbrev pub steps_below : ℕ → List Step → List Step
steps_below c steps = filter (λ step. nat_lt (stamp_of step) c) steps

-- the steps of a cycle
abbrev pub steps_in : ℕ → List Step → List Step
steps_in c steps = filter (λ step. stamp_of step == c) steps

-- P of each element and of those before it, in order
abbrev pub EachAfter : {X : Type 0} → (List X → X → Type 0) → List X → Type 0
EachAfter {X} P xs = (before after : List X) (x : X) → xs ≡ before ++ x ∷ after → P before x

-- R of each element and the one that comes next
abbrev pub EachNext : {X : Type 0} → (X → X → Type 0) → List X → Type 0
EachNext {X} R xs = (before after : List X) (x y : X) → xs ≡ before ++ x ∷ y ∷ after → R x y

-- the last element that passes a test
abbrev pub last_from : {X : Type 0} → Option X → (X → Bool) → List X → Option X
last_from found test [] = found
last_from found test (x ∷ xs) = last_from (if test x then Some x else found) test xs

-- the last one that passes a test
abbrev pub last_that : {X : Type 0} → (X → Bool) → List X → Option X
last_that test xs = last_from None test xs

-- the instruction of a row
abbrev pub instruction_of_row : Row → Option Instr
instruction_of_row row = instruction_of row.word

-- the row is a store
abbrev pub is_store_row : Row → Bool
is_store_row row = is_store (instruction_of_row row)

-- the row is a load
abbrev pub is_load_row : Row → Bool
is_load_row row = is_load (instruction_of_row row)

-- the row is FENCE.I
abbrev pub is_fence_i_row : Row → Bool
is_fence_i_row row = is_fence_i (instruction_of_row row)

-- the cycle in which its result is known: that of its broadcast, or of its dispatch where it uses no unit
abbrev pub known_in : Row → ℕ
known_in row = unwrap_or (option_map (λ (execution : Execution). execution.broadcast) row.execution) row.dispatched

-- a fault that no unit finds: of the fetch, of an illegal instruction, of EBREAK and ECALL
abbrev pub needs_no_unit : Cause → Bool
needs_no_unit InstructionAccessFault = true
needs_no_unit IllegalInstruction = true
needs_no_unit Breakpoint = true
needs_no_unit EnvironmentCall = true
needs_no_unit _ = false

-- the kind of unit that a row used, if it used one
abbrev pub kind_of_row : Row → Option Kind
kind_of_row row = kind_of_word (instruction_of_row row)

-- the row used a unit of a kind
abbrev pub is_row_of_kind : Kind → Row → Bool
is_row_of_kind kind row = is_of_kind kind (kind_of_row row)

-- the registers that it read
abbrev pub sources_of_row : Row → List (Option ℕ)
sources_of_row row = sources_of_word (instruction_of_row row)

-- the row writes a register
abbrev pub writes_register : ℕ → Row → Bool
writes_register register row = is_target register (target_of_word (instruction_of_row row))

-- the last of some rows that writes a register
abbrev pub producer_among : List Row → Option ℕ → Option Row
producer_among rows None = None
producer_among rows (Some register) = last_that (writes_register register) rows

-- a step after which everything is fetched anew: a trap, an interrupt, a serialising instruction
abbrev pub flushes : Step → Bool
flushes (Retired row) = is_serialising (instruction_of_row row)
flushes (Trap pc cause value cycle) = true
flushes (Interrupt pc cause cycle) = true

-- the execution of a row passes a test, where it has one
abbrev pub passes : (Execution → Bool) → Option Execution → Bool
passes test None = false
passes test (Some execution) = test execution

-- its word was fetched in a cycle
abbrev pub is_fetched_in : ℕ → Row → Bool
is_fetched_in cycle row = row.fetched == cycle

-- it was dispatched in a cycle
abbrev pub is_dispatched_in : ℕ → Row → Bool
is_dispatched_in cycle row = row.dispatched == cycle

-- it left for a unit of a kind in a cycle
abbrev pub is_issued_in : Kind → ℕ → Row → Bool
is_issued_in kind cycle row = is_row_of_kind kind row && passes (λ execution. execution.issued == cycle) row.execution

-- its result was broadcast in a cycle
abbrev pub is_broadcast_in : ℕ → Row → Bool
is_broadcast_in cycle row = passes (λ execution. execution.broadcast == cycle) row.execution

-- at the end of a cycle the word is in the fetch buffer
abbrev pub is_buffered_in : ℕ → Row → Bool
is_buffered_in cycle row = nat_le row.fetched cycle && nat_lt cycle row.dispatched

-- at the end of a cycle the instruction is in the reorder buffer
abbrev pub is_in_flight_in : ℕ → Row → Bool
is_in_flight_in cycle row = nat_le row.dispatched cycle && nat_lt cycle row.retired

-- at the end of a cycle it waits in a station of a kind
abbrev pub is_stationed_in : Kind → ℕ → Row → Bool
is_stationed_in kind cycle row =
    is_row_of_kind kind row && nat_le row.dispatched cycle
    && passes (λ execution. nat_lt cycle execution.issued) row.execution

-- in a cycle it executes on a unit of a kind
abbrev pub is_executing_in : Kind → ℕ → Row → Bool
is_executing_in kind cycle row =
    is_row_of_kind kind row &&
    passes (λ execution. nat_le execution.issued cycle
    && nat_lt cycle (execution.issued + execution.cost)) row.execution

-- at the end of a cycle the store is in the store queue, where its access takes at least so many cycles
abbrev pub is_queued_in : ℕ → ℕ → Row → Bool
is_queued_in hit cycle row = is_store_row row && nat_le row.dispatched cycle && nat_lt cycle (row.retired + hit)

-- it is a load that takes its bytes from the cache, as its cost shows
abbrev pub uses_port : ℕ → Row → Bool
uses_port forward row = is_load_row row && passes (λ execution. not (execution.cost == forward)) row.execution
