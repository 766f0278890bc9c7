-- The interrupts of a run, by their lines.
use Rattle.std.specs.Prelude.{ℕ, ◌+◌, ◌<◌, ◌^◌, ◌==◌, if◌then◌else◌, List, [], ◌∷◌}
use Rattle.std.specs.Prelude.{◌++◌, codes, decimal, Option, Some, None, IfSome}
use Rattle.std.specs.List.{filter, filter_map}
use Rattle.std.specs.Option.{option_or}
use Rattle.rv_arch.specs.Trap.{interrupt_cause}
use Rattle.rv_hardware.specs.History.{Moment}
use Rattle.rv_hardware.specs.declared.step.Step.{Step}
use Rattle.rv_hardware.specs.declared.step.Step.TheVariants.{Retired, Trap, Interrupt}
use Rattle.rv_source.specs.Listing.{Listed}
use Rattle.rv_source.specs.PlaceText.{place_text}
use Rattle.rv_sentences.specs.Series.{series_of, series_with}
use Rattle.rv_sentences.specs.declared.{interruption.Interruption.Interruption}
use Rattle.rv_sentences.specs.declared.{interrupts.Interrupts.Interrupts, series.Series.Series}

-- the interrupt of a step
abbrev pub interruption_of : Step → Option Interruption
interruption_of (Retired row) = None
interruption_of (Trap pc cause value cycle) = None
interruption_of (Interrupt pc cause cycle) = Some (record { pc = pc; cause = cause; cycle = cycle })

-- the first among some steps
abbrev pub interruption_in : List Step → Option Interruption
interruption_in [] = None
interruption_in (step ∷ steps) = option_or (interruption_of step) (interruption_in steps)

-- that of a cycle, if it takes one: nothing retires in it then
abbrev pub interruption_of_cycle : Moment → Option Interruption
interruption_of_cycle moment = interruption_in moment.report.steps

-- those of some cycles
abbrev pub interruptions_of : List Moment → List Interruption
interruptions_of moments = filter_map interruption_of_cycle moments

-- those of one cause
abbrev pub of_cause : ℕ → List Interruption → Option (Series Interruption)
of_cause cause interruptions = series_of (filter (λ (i : Interruption). i.cause == cause) interruptions)

-- Privileged Architecture 20211203, 3.1.15, table 3.6: by the machine's software, timer and external line
abbrev pub by_line : List Interruption → Interrupts
by_line interruptions = record {
  software = of_cause (interrupt_cause 3) interruptions;
  timer = of_cause (interrupt_cause 7) interruptions;
  external = of_cause (interrupt_cause 11) interruptions;
}

-- those of one cause with one interrupt more, if it has that cause
abbrev pub line_with : ℕ → Interruption → Option (Series Interruption) → Option (Series Interruption)
line_with cause i line = if i.cause == cause then series_with i line else line

-- one interrupt more
abbrev pub with_interruption : Interruption → Interrupts → Interrupts
with_interruption i interrupts = record {
  software = line_with (interrupt_cause 3) i interrupts.software;
  timer = line_with (interrupt_cause 7) i interrupts.timer;
  external = line_with (interrupt_cause 11) i interrupts.external;
}

-- and where it is a cycle's, if it takes one
abbrev pub interrupts_after : Option Interruption → Interrupts → Interrupts
interrupts_after None interrupts = interrupts
interrupts_after (Some i) interrupts = with_interruption i interrupts

-- no count comes to 2^64 with one more
pub record AreCountable (interrupts : Interrupts) : Type 0 where
  pub software : IfSome interrupts.software (λ series. series.count + 1 < 2 ^ 64)
  pub timer : IfSome interrupts.timer (λ series. series.count + 1 < 2 ^ 64)
  pub external : IfSome interrupts.external (λ series. series.count + 1 < 2 ^ 64)

-- the cycle of the last interrupt, after which the instruction stands that it came before
unfoldable pub last_cycle : ℕ → List ℕ
last_cycle cycle = codes "The last came in cycle " ++ (decimal cycle ++ codes ", before ")

-- the last of several interrupts
unfoldable pub last_text : Listed → Series Interruption → List ℕ
last_text listing series =
    if series.count == 1 then [] else last_cycle series.last.cycle ++ place_text listing series.last.pc

-- what some interrupts are called, how many there were, and the cycle of the first, after which the instruction stands
-- that it came before
unfoldable pub first_text : List ℕ → ℕ → ℕ → List ℕ
first_text name count cycle =
    name ++ (decimal count ++ (codes ", the first in cycle " ++ (decimal cycle ++ codes ", before ")))

-- some interrupts
unfoldable pub series_text : List ℕ → Listed → Series Interruption → List ℕ
series_text name listing series =
    first_text name series.count series.first.cycle ++ (place_text listing series.first.pc ++ last_text listing series)

-- the interrupts of a line, if there was one
unfoldable pub line_text : List ℕ → Listed → Option (Series Interruption) → List ℕ
line_text name listing None = []
line_text name listing (Some series) = series_text name listing series

-- the interrupts of each line
unfoldable pub interrupts_text : Listed → Interrupts → List ℕ
interrupts_text listing interrupts =
    line_text (codes "Software interrupts: ") listing interrupts.software ++
    (line_text (codes "Timer interrupts: ") listing interrupts.timer
    ++ line_text (codes "External interrupts: ") listing interrupts.external)
