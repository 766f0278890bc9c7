-- A program that crashed, is empty, ran past its last line, went to an address outside RAM, or lacks an end.
use Rattle.std.specs.Prelude.{ℕ, ◌-◌, ◌/◌, ◌==◌, ◌&&◌, ◌||◌, Bool, true, false, is_none, is_some}
use Rattle.std.specs.Prelude.{if◌then◌else◌, List, [], ◌++◌, codes, Option, Some, None}
use Rattle.rv_isa.specs.declared.causes.Cause.{Cause}
use Rattle.rv_isa.specs.declared.causes.Cause.TheVariants.{InstructionAccessFault, EnvironmentCall}
use Rattle.rv_arch.specs.declared.outcome.Stop.{Stop}
use Rattle.rv_arch.specs.declared.outcome.Stop.TheVariants.{Limit, Breakpoint, Stale, Exhausted}
use Rattle.rv_hardware.specs.Hardware.{Hardware}
use Rattle.rv_source.specs.Listing.{Listed, line_at}
use Rattle.rv_sentences.specs.Exception.{first_text}
use Rattle.rv_sentences.specs.Interrupt.{interrupts_text}
use Rattle.rv_source.specs.PlaceText.{place_text}
use Rattle.rv_text.specs.Line.{word_text}
use Rattle.rv_sentences.specs.declared.{exception.Exception.Exception}
use Rattle.rv_sentences.specs.declared.{interrupts.Interrupts.Interrupts, series.Series.Series}
use Rattle.rv_explain.specs.LastBefore.{is_return}
use Rattle.rv_explain.specs.declared.{figures.Figures.Figures, origin.Origin.Origin}
use Rattle.rv_explain.specs.declared.figures.Figures.TheVariants.{Always, UnlessCrashed}

-- a program is empty: no line fills the first word of RAM
abbrev pub is_empty : Listed → Hardware → Bool
is_empty listing h = is_none (line_at listing h.values.ram_base)

-- that it is
unfoldable pub empty_text : Listed → Hardware → List ℕ
empty_text listing h = if is_empty listing h then codes "The program is empty\n" else []

-- an address stands right after the last line of some code: the word before it has a line, and its own has none
abbrev pub is_past_code : Listed → ℕ → Bool
is_past_code listing address = is_some (line_at listing (address - 4)) && is_none (line_at listing address)

-- a program came to an address that stands there
unfoldable pub passed_text : Listed → ℕ → List ℕ
passed_text listing address =
    if is_past_code listing address
    then codes "The program ran past its last line, at " ++ place_text listing (address - 4) else []

-- the instruction from which a program went to an address outside RAM: the last one before an exception that a fetch
-- there raised (Privileged Architecture 20211203, 3.1.15, table 3.6)
abbrev pub departure : Cause → Option Origin → Option Origin
departure InstructionAccessFault last = last
departure _ last = None

-- to which address outside RAM it went, after which the place stands that it came from
unfoldable pub went_text : ℕ → List ℕ
went_text to = codes "The program went to " ++ (word_text to ++ codes ", outside RAM, from ")

-- to which and from where, if it did
unfoldable pub departure_text : Listed → ℕ → Option Origin → List ℕ
departure_text listing to None = []
departure_text listing to (Some from) = went_text to ++ place_text listing from.pc

-- how a program came to where an exception did, by the last instruction before it
unfoldable pub way_text : Listed → Hardware → Exception → Option Origin → List ℕ
way_text listing h e last =
    empty_text listing h
    ++ (passed_text listing e.pc ++ departure_text listing e.pc (departure e.cause last))

-- to where the first exception of a run came, if there was one
unfoldable pub first_way_text : Listed → Hardware → Option (Series Exception) → Option Origin → List ℕ
first_way_text listing h None last = []
first_way_text listing h (Some all) last = way_text listing h all.first last

-- the first exception of a run, where no handler was set for it: the address in mtvec was 0 (Privileged Architecture
-- 20211203, 3.1.7)
abbrev pub unhandled : Option (Series Exception) → Option Exception
unhandled None = None
unhandled (Some all) = if all.first.mtvec / 4 == 0 then Some all.first else None

-- the exception by which a program crashed: that one, where the run did not end by itself either
abbrev pub crash_of : Stop → Option (Series Exception) → Option Exception
crash_of Breakpoint all = None
crash_of (Stale pc) all = None
crash_of Limit all = unhandled all
crash_of Exhausted all = unhandled all

-- that which alone is explained
abbrev pub lone_crash : Figures → Stop → Option (Series Exception) → Option Exception
lone_crash Always stop all = None
lone_crash UnlessCrashed stop all = crash_of stop all

-- an environment call
abbrev pub is_environment_call : Cause → Bool
is_environment_call EnvironmentCall = true
is_environment_call _ = false

-- an instruction is there, and is a return
abbrev pub is_some_return : Option Origin → Bool
is_some_return None = false
is_some_return (Some origin) = is_return origin

-- a program returned where nobody had called: to the address 0, which ra holds at reset, outside RAM
abbrev pub is_uncalled : Exception → Option Origin → Bool
is_uncalled e last = e.pc == 0 && is_some_return (departure e.cause last)

-- a program crashed where it may have been meant to end: at an environment call, right after its last line, or by a
-- return where nobody had called
unfoldable pub is_meant_end : Listed → Exception → Option Origin → Bool
is_meant_end listing crash last =
    is_environment_call crash.cause || (is_past_code listing crash.pc || is_uncalled crash last)

-- where a program ends, if it crashed at such a place: at a breakpoint
unfoldable pub end_text : Listed → Exception → Option Origin → List ℕ
end_text listing crash last = if is_meant_end listing crash last then codes "A program ends at ebreak\n" else []

-- the same of a run with figures, if its program crashed
unfoldable pub whole_end_text : Listed → Option Exception → Option Origin → List ℕ
whole_end_text listing None last = []
whole_end_text listing (Some crash) last = end_text listing crash last

-- the sentences on a crash: how the program came there, by the last instruction before it, the exception, where a
-- program ends, and the interrupts of the run, since one that found no handler is followed by an exception
unfoldable pub crash_text : Listed → Hardware → Exception → Option Origin → Interrupts → List ℕ
crash_text listing h crash last interrupts =
    way_text listing h crash last
    ++ (first_text listing crash ++ (end_text listing crash last ++ interrupts_text listing interrupts))
