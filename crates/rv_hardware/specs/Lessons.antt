-- What the predictor is taught of a cycle's steps.
use Rattle.std.specs.Prelude.{ℕ, List, [], ◌∷◌, ◌++◌}
use Rattle.rv_front.specs.Lesson.{Lesson}
use Rattle.rv_hardware.specs.Step.{pc_of}
use Rattle.rv_hardware.specs.declared.step.Step.{Step}
use Rattle.rv_hardware.specs.declared.step.Step.TheVariants.{Retired, Trap, Interrupt}

-- of a step after which the program goes on at a pc: a retired instruction went on there; traps and interrupts teach nothing
abbrev pub lesson_of : Step → ℕ → List Lesson
lesson_of (Retired row) next = record { pc = row.pc; word = row.word; next = next } ∷ []
lesson_of (Trap pc cause value cycle) next = []
lesson_of (Interrupt pc cause cycle) next = []

-- where the program goes on before some steps: at the first of them, or, where there is none, at a pc
abbrev pub first_pc : List Step → ℕ → ℕ
first_pc [] next = next
first_pc (first ∷ steps) next = pc_of first

-- of steps after which the program goes on at a pc
abbrev pub lessons_of : List Step → ℕ → List Lesson
lessons_of [] next = []
lessons_of (first ∷ steps) next = lesson_of first (first_pc steps next) ++ lessons_of steps next
