-- The interrupt lines that are high at the end of a run and were never taken, and what stood in the way.
use Rattle.std.specs.Prelude.{ℕ, ◌||◌, Bool, false, nat_le, if◌then◌else◌, List}
use Rattle.std.specs.Prelude.{[], ◌∷◌, ◌++◌, codes, decimal, Option, Some, None}
use Rattle.std.specs.Option.{option_or}
use Rattle.rv_isa.specs.declared.lines.Lines.{Lines}
use Rattle.rv_arch.specs.Csr.{has_bit}
use Rattle.rv_hardware.specs.Hardware.{Hardware}
use Rattle.rv_hardware.specs.History.{Moment}
use Rattle.rv_sentences.specs.declared.{interruption.Interruption.Interruption, interrupts.Interrupts.Interrupts}
use Rattle.rv_sentences.specs.declared.{raised.Raised.Raised, series.Series.Series}

-- the cycle from which a line is high, None where it is low, after a cycle with a level
abbrev pub high_since : ℕ → Bool → Option ℕ → Option ℕ
high_since cycle level since = if level then option_or since (Some cycle) else None

-- that of each line
abbrev pub raised_with : ℕ → Lines → Raised → Raised
raised_with cycle lines raised = record {
  software = high_since cycle lines.software raised.software;
  timer = high_since cycle lines.timer raised.timer;
  external = high_since cycle lines.external raised.external;
}

-- no line is high
abbrev pub none_raised : Raised
none_raised = record { software = None; timer = None; external = None }

-- after some cycles more, from some hardware on
abbrev pub raised_from : Raised → Hardware → List Moment → Raised
raised_from raised h [] = raised
raised_from raised h (moment ∷ moments) =
    raised_from (raised_with h.cycle moment.after.lines raised) moment.after moments

-- after all cycles of a run
abbrev pub raised_of : Hardware → List Moment → Raised
raised_of h moments = raised_from none_raised h moments

-- an interrupt came in a cycle, if there is one, or after it
abbrev pub came_from : Option ℕ → Option (Series Interruption) → Bool
came_from None series = false
came_from (Some cycle) None = false
came_from (Some cycle) (Some series) = nat_le cycle series.last.cycle

-- a higher line was taken
unfoldable pub passed_text : Bool → List ℕ
passed_text passed = if passed then codes "a higher one was taken, and " else []

-- what stands in the way of a line whose bit in mie is 1, by mstatus.MIE
unfoldable pub due_text : Bool → List ℕ
due_text global = if global then codes "it is due\n" else codes "mstatus.MIE is 0\n"

-- What stands in the way of a line, by whether a higher one was taken while it was high, by its bit in mie, and by mstatus.MIE.
unfoldable pub hindrance_text : Bool → Bool → Bool → List ℕ → List ℕ
hindrance_text passed enabled global bit =
    if enabled then passed_text passed ++ due_text global
    else (if global then codes "mie." ++ (bit ++ codes " is 0\n")
    else codes "mstatus.MIE and mie." ++ (bit ++ codes " are 0\n"))

-- a line that is high from a cycle on
unfoldable pub high_text : List ℕ → ℕ → List ℕ
high_text name cycle =
    codes "The "
    ++ (name ++ (codes " line is high from cycle " ++ (decimal cycle ++ codes " on, and was never taken: ")))

-- a line, by the cycle from which it is high, unless it is low or was taken
unfoldable pub untaken_text : List ℕ → List ℕ → Option ℕ → Option (Series Interruption) → Bool → Bool → Bool → List ℕ
untaken_text name bit None taken passed enabled global = []
untaken_text name bit (Some cycle) (Some series) passed enabled global = []
untaken_text name bit (Some cycle) None passed enabled global =
    high_text name cycle ++ hindrance_text passed enabled global bit

-- Privileged Architecture 20211203, 3.1.9: the three lines by what is in mstatus and in mie, the one that comes first
-- before the others
unfoldable pub all_untaken_text : Raised → Interrupts → ℕ → ℕ → List ℕ
all_untaken_text raised interrupts mstatus mie =
    untaken_text (codes "external") (codes "MEIE") raised.external interrupts.external false (has_bit mie 11)
    (has_bit mstatus 3) ++
    (untaken_text (codes "software") (codes "MSIE") raised.software interrupts.software
    (came_from raised.software interrupts.external) (has_bit mie 3) (has_bit mstatus 3) ++
    untaken_text (codes "timer") (codes "MTIE") raised.timer interrupts.timer
    (came_from raised.timer interrupts.external || came_from raised.timer interrupts.software) (has_bit mie 7)
    (has_bit mstatus 3))
