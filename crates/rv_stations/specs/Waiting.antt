-- Instructions that wait for their operands, in order of their sequence numbers.
use Rattle.std.specs.Prelude.{◌≡◌, ℕ, ◌^◌, ◌<◌, Bool, true, false, not, ◌&&◌, ◌==◌, List, []}
use Rattle.std.specs.Prelude.{◌∷◌, take, option_and_then, Option, Some, None, if◌then◌else◌}
use Rattle.rv_stations.specs.declared.waiting.{Operand.Operand, Ready.Ready, Taken.Taken}
use Rattle.rv_stations.specs.declared.waiting.{Verdict.Verdict, Waiting.Waiting}
use Rattle.std.specs.Option.{option_map}
use Rattle.rv_stations.specs.declared.waiting.Operand.TheVariants.{Value, Tag}
use Rattle.rv_stations.specs.declared.waiting.Verdict.TheVariants.{Goes, Waits, LoadsWait}
use Rattle.rv_isa.specs.Instruction.{is_load}

-- the sequence number of an instruction
abbrev pub seq_of : Waiting → ℕ
seq_of w = w.seq

-- the value is there
abbrev pub has_value : Operand → Bool
has_value (Value value) = true
has_value (Tag tag) = false

-- a tag is a sequence number
abbrev pub IsOperand : Operand → Type 0
IsOperand (Value value) = Unit {0}
IsOperand (Tag tag) = tag < 2 ^ 44

-- both operands have their values
abbrev pub is_ready : Waiting → Bool
is_ready w = has_value w.first && has_value w.second

-- an instruction with the values of its operands, where both are there
abbrev pub ready_with : Waiting → Operand → Operand → Option Ready
ready_with w (Value first) (Value second) =
    Some (record { seq = w.seq; pc = w.pc; instruction = w.instruction; first = first; second = second })
ready_with w (Value first) (Tag tag) = None
ready_with w (Tag tag) second = None

-- the same with the operands that it has
abbrev pub ready_of : Waiting → Option Ready
ready_of w = ready_with w w.first w.second

-- an operand once the value of the producer with a number is broadcast
abbrev pub woken_operand : ℕ → ℕ → Operand → Operand
woken_operand seq value (Value held) = Value held
woken_operand seq value (Tag tag) = if tag == seq then Value value else Tag tag

-- the same of both operands of an instruction
abbrev pub woken : ℕ → ℕ → Waiting → Waiting
woken seq value w = record w { first = woken_operand seq value w.first; second = woken_operand seq value w.second }

-- the instruction loads
abbrev pub loads : Waiting → Bool
loads w = is_load (Some w.instruction)

-- an instruction is ready, and is none of the loads where these wait
abbrev pub is_asked : Bool → Waiting → Bool
is_asked loads_wait w = is_ready w && not (loads_wait && loads w)

-- What is said of an instruction is what a test says of it. Where all loads wait, the test fails each that is younger.
abbrev pub IsVerdict : (Waiting → Bool) → Waiting → Verdict → Type 0
IsVerdict test w Goes = test w ≡ true
IsVerdict test w Waits = test w ≡ false
IsVerdict test w LoadsWait =
    (test w ≡ false) × ((younger : Waiting) → w.seq < younger.seq → loads younger ≡ true → test younger ≡ false)

-- the oldest instruction that is ready and passes a test
abbrev pub oldest_ready : (Waiting → Bool) → List Waiting → Option Waiting
oldest_ready test [] = None
oldest_ready test (w ∷ ws) = if is_ready w && test w then Some w else oldest_ready test ws

-- what issues of the oldest instruction that is ready and passes a test
abbrev pub next_ready : (Waiting → Bool) → List Waiting → Option Ready
next_ready test ws = option_and_then ready_of (oldest_ready test ws)

-- the others
abbrev pub without_oldest_ready : (Waiting → Bool) → List Waiting → List Waiting
without_oldest_ready test [] = []
without_oldest_ready test (w ∷ ws) = if is_ready w && test w then ws else w ∷ without_oldest_ready test ws

-- of the oldest so many instructions, none is ready and passes a test
abbrev pub ArePassedBy : (Waiting → Bool) → ℕ → List Waiting → Type 0
ArePassedBy test passed ws = oldest_ready test (take passed ws) ≡ None

-- the instruction that a search took, if any
abbrev pub ready_taken : Option Taken → Option Ready
ready_taken taken = option_map (λ t. t.ready) taken
