-- What was predicted after a branch or a jump, and whether that was wrong.
use Rattle.std.specs.Prelude.{ℕ, ◌==◌, if◌then◌else◌, Bool, false, not, Option, Some, None}
use Rattle.rv_isa.specs.Instruction.{is_branch_or_jump}
use Rattle.rv_passage.specs.declared.passage.{Ending.Ending, Passage.Passage}
use Rattle.rv_passage.specs.declared.passage.Ending.TheVariants.{InFlight, Retired, Trapped, Squashed}

-- where the program went on after it, if it retired
abbrev pub next_of : Ending → Option ℕ
next_of (Retired order cycle written next) = Some next
next_of InFlight = None
next_of (Trapped cycle cause) = None
next_of (Squashed cycle) = None

-- two pcs that are not the same, where both are there
abbrev pub differ : Option ℕ → Option ℕ → Bool
differ None next = false
differ (Some predicted) None = false
differ (Some predicted) (Some next) = not (next == predicted)

-- the pc that was predicted to come after a branch or a jump
abbrev pub prediction_of : Passage → Option ℕ
prediction_of p = if is_branch_or_jump p.instruction then p.predicted else None

-- a branch or a jump retired, and the program did not go on where that was predicted at its fetch
abbrev pub is_mispredicted : Passage → Bool
is_mispredicted p = differ (prediction_of p) (next_of p.ending)

-- where the program went on, if that was predicted wrongly
abbrev pub correction_of : Passage → Option ℕ
correction_of p = if is_mispredicted p then next_of p.ending else None
