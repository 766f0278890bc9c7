-- The traps of a run, but for the breakpoint that ends it.
use Rattle.std.specs.Prelude.{ℕ, ◌/◌, ◌==◌, if◌then◌else◌, List, [], ◌∷◌, ◌++◌, codes, decimal, Option, Some, None}
use Rattle.std.specs.List.{filter_map, flat_map}
use Rattle.std.specs.Option.{option_or}
use Rattle.rv_isa.specs.declared.causes.Cause.{Cause}
use Rattle.rv_isa.specs.declared.causes.Cause.TheVariants.{InstructionAddressMisaligned, InstructionAccessFault}
use Rattle.rv_isa.specs.declared.causes.Cause.TheVariants.{IllegalInstruction, Breakpoint, LoadAddressMisaligned}
use Rattle.rv_isa.specs.declared.causes.Cause.TheVariants.{LoadAccessFault, StoreAddressMisaligned}
use Rattle.rv_isa.specs.declared.causes.Cause.TheVariants.{StoreAccessFault, EnvironmentCall}
use Rattle.rv_hardware.specs.Hardware.{Hardware}
use Rattle.rv_hardware.specs.Step.{is_breakpoint_cause}
use Rattle.rv_hardware.specs.declared.step.Step.{Step}
use Rattle.rv_hardware.specs.declared.step.Step.TheVariants.{Retired, Trap, Interrupt}
use Rattle.rv_source.specs.Listing.{Listed}
use Rattle.rv_text.specs.Line.{word_text}
use Rattle.rv_hardware.specs.History.{Moment}
use Rattle.rv_sentences.specs.Kinds.{others}
use Rattle.rv_source.specs.PlaceText.{place_text}
use Rattle.rv_sentences.specs.Stack.{indent}
use Rattle.rv_sentences.specs.declared.{exception.Exception.Exception, series.Series.Series}

-- a trap of a cycle that left such hardware, where it is no breakpoint
abbrev pub exception_of : Hardware → Step → Option Exception
exception_of h (Retired row) = None
exception_of h (Trap pc cause value cycle) =
    if is_breakpoint_cause cause then None
    else Some (record { pc = pc; cause = cause; value = value; cycle = cycle; mtvec = h.csrs.mtvec; next_pc = h.pc })
exception_of h (Interrupt pc cause cycle) = None

-- the first among some steps
abbrev pub exception_in : Hardware → List Step → Option Exception
exception_in h [] = None
exception_in h (step ∷ steps) = option_or (exception_of h step) (exception_in h steps)

-- that of a cycle, if it takes one: a trap ends its commit phase
abbrev pub exception_of_cycle : Moment → Option Exception
exception_of_cycle moment = exception_in moment.after moment.report.steps

-- those of some cycles
abbrev pub exceptions_of : List Moment → List Exception
exceptions_of moments = filter_map exception_of_cycle moments

-- Privileged Architecture 20211203, 3.1.15, table 3.6: the names of the causes
unfoldable pub cause_name : Cause → List ℕ
cause_name InstructionAddressMisaligned = codes "Instruction address misaligned"
cause_name InstructionAccessFault = codes "Instruction access fault"
cause_name IllegalInstruction = codes "Illegal instruction"
cause_name Breakpoint = codes "Breakpoint"
cause_name LoadAddressMisaligned = codes "Load address misaligned"
cause_name LoadAccessFault = codes "Load access fault"
cause_name StoreAddressMisaligned = codes "Store/AMO address misaligned"
cause_name StoreAccessFault = codes "Store/AMO access fault"
cause_name EnvironmentCall = codes "Environment call from M-mode"

-- when something was taken, and what
unfoldable pub cause_text : Exception → List ℕ
cause_text e =
    decimal e.cycle
    ++ (codes ": " ++ (cause_name e.cause ++ (codes ", mtval " ++ (word_text e.value ++ codes ", at "))))

-- how the program went on, by the address in mtvec, whose last two bits are its mode (Privileged Architecture 20211203, 3.1.7)
unfoldable pub went_on : ℕ → List ℕ
went_on mtvec =
    if mtvec / 4 == 0 then codes "No handler was set (the address in mtvec was 0), and the program went on at "
    else codes "The program went on at its handler, at "

-- where the program went on
unfoldable pub handler_text : Exception → List ℕ
handler_text e = went_on e.mtvec ++ (word_text e.next_pc ++ codes "\n")

-- which exception it is, when and what was taken, at which line, and where the program went on
unfoldable pub taken_text : List ℕ → Listed → Exception → List ℕ
taken_text which listing e = which ++ (cause_text e ++ (place_text listing e.pc ++ handler_text e))

-- the first exception of a run
unfoldable pub first_text : Listed → Exception → List ℕ
first_text listing e = taken_text (codes "The first exception came in cycle ") listing e

-- a count, in a column of its own, and a text
unfoldable pub counted_text : ℕ → List ℕ → List ℕ
counted_text count text = indent (codes "       ") (decimal count) ++ (decimal count ++ text)

-- a cause, after which its place stands
unfoldable pub at_text : Cause → List ℕ
at_text cause = codes ": " ++ (cause_name cause ++ codes ", at ")

-- the cycles of the first and the last of some exceptions of a cause
unfoldable pub cycles_text : ℕ → ℕ → Cause → List ℕ
cycles_text first last cause =
    if first == last then codes " in cycle " ++ (decimal first ++ at_text cause)
    else codes " in cycles " ++ (decimal first ++ (codes " to " ++ (decimal last ++ at_text cause)))

-- how many exceptions of a kind there were, in which cycles, their cause and their place
unfoldable pub kind_text : Listed → Series Exception → List ℕ
kind_text listing kind =
    counted_text kind.count []
    ++ (cycles_text kind.first.cycle kind.last.cycle kind.first.cause ++ place_text listing kind.first.pc)

-- those that are of none of some kinds
unfoldable pub others_text : ℕ → List ℕ
others_text count = if count == 0 then [] else counted_text count (codes " of other causes or at other places\n")

-- so many exceptions by cause and place
unfoldable pub kinds_text : Listed → ℕ → List (Series Exception) → List ℕ
kinds_text listing all kinds =
    codes "Exceptions by cause and place:\n" ++ (flat_map (kind_text listing) kinds ++ others_text (others all kinds))

-- the last of several exceptions, and all of them
unfoldable pub several_text : Listed → Series Exception → List (Series Exception) → List ℕ
several_text listing all kinds =
    if all.count == 1 then []
    else taken_text (codes "The last exception came in cycle ") listing all.last ++ kinds_text listing all.count kinds

-- the exceptions of a run, if there was one
unfoldable pub exceptions_text : Listed → Option (Series Exception) → List (Series Exception) → List ℕ
exceptions_text listing None kinds = []
exceptions_text listing (Some all) kinds =
    first_text listing all.first ++ several_text listing all kinds
