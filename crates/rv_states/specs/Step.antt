-- A step as JSON.
use Rattle.std.specs.Prelude.{ℕ, ◌++◌, codes}
use Rattle.rv_isa.specs.Cause.{code_of}
use Rattle.rv_isa.specs.declared.causes.Cause.{Cause}
use Rattle.rv_hardware.specs.declared.step.Step.{Step}
use Rattle.rv_hardware.specs.declared.step.Step.TheVariants.{Retired, Trap, Interrupt}
use Rattle.rv_states.specs.Json.{Json, also, begins, numeral, quoted}

-- the instruction at a pc retired
unfoldable pub retirement_json : ℕ → Json
retirement_json pc = begins (codes "pc") (numeral pc) ++ (also (codes "step") (quoted (codes "retired")) ++ codes "}")

-- it trapped
unfoldable pub trap_json : ℕ → Cause → ℕ → Json
trap_json pc cause value =
    begins (codes "pc") (numeral pc) ++
    ((also (codes "step") (quoted (codes "trap")) ++
    (also (codes "cause") (numeral (code_of cause)) ++
    also (codes "value") (numeral value))) ++
    codes "}")

-- an interrupt came before it
unfoldable pub interrupt_json : ℕ → ℕ → Json
interrupt_json pc cause =
    begins (codes "pc") (numeral pc) ++
    ((also (codes "step") (quoted (codes "interrupt")) ++ also (codes "cause") (numeral cause)) ++ codes "}")

-- a step
abbrev pub step_json : Step → Json
step_json (Retired row) = retirement_json row.pc
step_json (Trap pc cause value cycle) = trap_json pc cause value
step_json (Interrupt pc cause cycle) = interrupt_json pc cause
