-- What a turn of the commit phase leaves, as the code returns it.
use Rattle.std.specs.Prelude.{◌≡◌, ◌+◌, ◌≤◌, ℕ, if◌then◌else◌, List, [], ◌∷◌, ◌++◌, Option, Some, None}
use Rattle.std.specs.FinSet as set
use Rattle.rv_isa.specs.declared.instructions.Instr.{Instr}
use Rattle.rv_isa.specs.declared.instructions.Instr.TheVariants as instr
use Rattle.rv_arch.specs.declared.outcome.Stop.{Stop}
use Rattle.rv_arch.specs.declared.outcome.Stop.TheVariants as stop
use Rattle.rv_front.specs.Guide.{AreTaught, Guide}
use Rattle.rv_front.specs.Lesson.{Lesson}
use Rattle.rv_rob.specs.declared.entry.Entry.{Entry}
use Rattle.rv_hardware.specs.Commit.{Committing, commit_turn}
use Rattle.rv_hardware.specs.Hardware.{Hardware}
use Rattle.rv_hardware.specs.Lessons.{lesson_of}
use Rattle.rv_hardware.specs.Repeated as turn
use Rattle.rv_hardware.specs.Step.{is_breakpoint}
use Rattle.rv_hardware.specs.declared.step.Step.{Step}
use Rattle.rv_core.specs.declared.head.{CsrAccess.CsrAccess, HeadTurn.HeadTurn, Role.Role}
use Rattle.rv_core.specs.declared.head.HeadTurn.TheVariants.{GoesOn, Ends}
use Rattle.rv_core.specs.Steps.{Takes}
use Rattle.rv_core.specs.declared.steps.Steps.{Steps}
use Rattle.rv_core.specs.declared.head.Role.TheVariants as role

-- the phase so far, where nothing has stopped the run
abbrev pub committing : Hardware → List Step → Committing
committing h steps = record { hardware = h; steps = steps; stop = None }

-- a breakpoint stops the run
abbrev pub stop_with : Step → Option Stop
stop_with step = if is_breakpoint step then Some stop.Breakpoint else None

-- the step of a turn, if it took one
abbrev pub step_taken : Option Step → List Step
step_taken None = []
step_taken (Some step) = step ∷ []

-- the steps with one more, if there is one
abbrev pub and_step : List Step → Option Step → List Step
and_step steps None = steps
and_step steps (Some step) = steps ++ step ∷ []

-- a turn of the commit phase, by the step that it took, if it took one, and how it ended
abbrev pub turn_left : Hardware → List Step → Option Step → HeadTurn → turn.Turn Committing
turn_left h steps step GoesOn = turn.GoesOn (committing h (and_step steps step))
turn_left h steps step (Ends why) = turn.Ends (record { hardware = h; steps = and_step steps step; stop = why })

-- a turn that ends the phase, by its step, if it took one
abbrev pub turn_ended : Hardware → List Step → Option Step → turn.Turn Committing
turn_ended h steps None = turn.Ends (committing h steps)
turn_ended h steps (Some step) = turn.Ends (record { hardware = h; steps = steps ++ step ∷ []; stop = stop_with step })

-- why a step stops the run, if it does
abbrev pub stop_after : Option Step → Option Stop
stop_after None = None
stop_after (Some step) = stop_with step

-- of a step after which the program goes on at a pc, if there is one
abbrev pub lessons_left : Option Step → ℕ → List Lesson
lessons_left None next = []
lessons_left (Some step) next = lesson_of step next

-- the oldest instruction in flight
abbrev pub IsHead : Hardware → Entry → Type 0
IsHead h e = (younger : List Entry) × (h.rob.entries ≡ e ∷ younger)

-- a turn of the commit phase: the step that it took, if it took one, is taken, and taught to the predictor
pub record IsTurn (old new : Hardware) (before after : Steps) (taught learned : Guide)
    (turn : HeadTurn) : Type 0 where
  pub step : Option Step
  pub left : (steps : List Step) → commit_turn set.contains (committing old steps) ≡ turn_left new steps step turn
  pub taken : Takes before after (step_taken step)
  pub learns : AreTaught taught (lessons_left step new.pc) learned

-- what no turn changes, and how far the count of retired instructions comes
pub record IsKept (old new : Hardware) : Type 0 where
  pub values : new.values ≡ old.values
  pub cycle : new.cycle ≡ old.cycle
  pub retired : new.rob.retired ≤ old.rob.retired + 1

-- how an instruction leaves the reorder buffer
abbrev pub role_of : Option Instr → Role
role_of (Some instr.FenceI) = role.FenceInstructions
role_of (Some (instr.Csr op rd csr source)) = role.CsrAccess (record { op = op; rd = rd; csr = csr; source = source })
role_of (Some instr.Mret) = role.TrapReturn
role_of _ = role.WaitsForResult

-- the instruction of an access to a CSR
abbrev pub instruction_of_access : CsrAccess → Instr
instruction_of_access access = instr.Csr access.op access.rd access.csr access.source
