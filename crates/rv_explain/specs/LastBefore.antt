-- The last instruction that retired before the first exception of a run.
use Rattle.std.specs.Prelude.{◌==◌, Bool, is_some, if◌then◌else◌, List, [], ◌∷◌, Option, Some, None}
use Rattle.rv_hardware.specs.History.{Moment}
use Rattle.rv_hardware.specs.declared.step.Step.{Step}
use Rattle.rv_hardware.specs.declared.step.Step.TheVariants.{Retired, Trap, Interrupt}
use Rattle.rv_sentences.specs.Exception.{exception_of_cycle}
use Rattle.rv_sentences.specs.declared.{exception.Exception.Exception, series.Series.Series}
use Rattle.rv_explain.specs.declared.origin.Origin.{Origin}

-- ret, which is jalr x0, 0(x1) (Unprivileged ISA 20191213, 25, table 25.2)
abbrev pub is_return : Origin → Bool
is_return origin = origin.word == 0x00008067

-- the last instruction that retired, after a step, by that before it; None where an interrupt came after the instruction:
-- then the program did not come from there
abbrev pub last_after : Option Origin → Step → Option Origin
last_after last (Retired row) = Some (record { pc = row.pc; word = row.word })
last_after last (Trap pc cause value cycle) = last
last_after last (Interrupt pc cause cycle) = None

-- after some steps
abbrev pub last_since : Option Origin → List Step → Option Origin
last_since last [] = last
last_since last (step ∷ steps) = last_since (last_after last step) steps

-- after some cycles, up to the first that takes an exception, in which that is the last step
abbrev pub last_before_from : Option Origin → List Moment → Option Origin
last_before_from last [] = last
last_before_from last (moment ∷ moments) =
    let here = last_since last moment.report.steps in
    if is_some (exception_of_cycle moment) then here else last_before_from here moments

-- that of a run: the last instruction before its first exception
abbrev pub last_before_of : List Moment → Option Origin
last_before_of moments = last_before_from None moments

-- that with one cycle more, by the exceptions before it
abbrev pub last_before_with : Option (Series Exception) → List Step → Option Origin → Option Origin
last_before_with None steps last = last_since last steps
last_before_with (Some all) steps last = last
