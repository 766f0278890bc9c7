-- A run that ended by its limit and went on, and one that ended before it.
use Rattle.std.proofs.Common.{◌≡◌, ℕ, ◌+◌, ◌≤◌, ◌≢◌, List, [], ◌∷◌, ◌++◌, length, refl, ap, arith, append_assoc}
use Rattle.std.proofs.Common.{length-append}
use Rattle.rv_isa.specs.declared.lines.Arrival.{Arrival}
use Rattle.rv_arch.specs.declared.outcome.Stop.{Stop}
use Rattle.rv_arch.specs.declared.outcome.Stop.TheVariants as stop
use Rattle.rv_hardware.specs.Guided.{GuidedHardware}
use Rattle.rv_hardware.specs.Hardware.{Hardware}
use Rattle.rv_hardware.specs.History.{History, Moment, reports_of, cycled, ended}
use Rattle.rv_hardware.specs.Report.{Report}
use Rattle.rv_hardware.specs.Run.{EndsWith, IsStop, NoneStops}
use Rattle.rv_passage.specs.EndedRun.{IsEndedRun}
use Rattle.rv_passage.specs.Walk.{hardware_after}

-- there are as many reports as moments
pub length-reports_of : (moments : List Moment) → length (reports_of moments) ≡ length moments
length-reports_of [] = refl
length-reports_of (moment ∷ moments) = omega (arith, length-reports_of moments)

reports_of-append : (some more : List Moment) → reports_of (some ++ more) ≡ reports_of some ++ reports_of more
reports_of-append [] more = refl
reports_of-append (moment ∷ some) more = ap (λ reports. moment.report ∷ reports) (reports_of-append some more)

-- a history, and one that goes on from its end
pub History-append : {arrivals : List Arrival} {old middle new : GuidedHardware} {some more : List Moment} →
    History arrivals old some middle → History arrivals middle more new →
    History arrivals old (some ++ more) new
History-append ended after = after
History-append (cycled cycle rest) after = cycled cycle (History-append rest after)

-- and the other way round
pub History-split : {arrivals : List Arrival} {old new : GuidedHardware} (some more : List Moment) →
    History arrivals old (some ++ more) new →
    (middle : GuidedHardware) × History arrivals old some middle × History arrivals middle more new
History-split {old = old} [] more passes = (old, ended, passes)
History-split (moment ∷ some) more (cycled cycle rest) =
    let (middle, before, after) = History-split some more rest in (middle, cycled cycle before, after)

-- a history leads to the hardware that its last cycle left
pub history_end : {arrivals : List Arrival} {old new : GuidedHardware} {moments : List Moment} →
    History arrivals old moments new → hardware_after old.hardware moments ≡ new.hardware
history_end ended = refl
history_end (cycled cycle rest) = history_end rest

NoneStops-append : (some more : List Report) → NoneStops some → NoneStops more → NoneStops (some ++ more)
NoneStops-append [] more none others = others
NoneStops-append (report ∷ some) more none others = (none.0, NoneStops-append some more none.1 others)

ends_after : {reason : Stop} (some more : List Report) → NoneStops some → EndsWith reason more →
    EndsWith reason (some ++ more)
ends_after some more none ends = grind (arith, append_assoc, NoneStops-append)

stops_after : (from limit : ℕ) (some more : List Report) (new : Hardware) (reason : Stop) → NoneStops some →
    length some ≡ from → IsStop limit more new reason → IsStop (from + limit) (some ++ more) new reason
stops_after from limit some more new stop.Limit none so_many stops =
    (NoneStops-append some more none stops.0, omega (arith, length-append some more, so_many, stops.1))
stops_after from limit some more new stop.Breakpoint none so_many stops =
    (ends_after some more none stops.0, omega (arith, length-append some more, so_many, stops.1))
stops_after from limit some more new (stop.Stale pc) none so_many stops =
    (ends_after some more none stops.0, omega (arith, length-append some more, so_many, stops.1))
stops_after from limit some more new stop.Exhausted none so_many stops =
    (NoneStops-append some more none stops.0, omega (arith, length-append some more, so_many, stops.1), stops.2)

-- a run of so many cycles, and one that goes on from its end
pub run_on : {arrivals : List Arrival} {from limit : ℕ} {old middle new : GuidedHardware} {some more : List
    Moment} {reason : Stop} → IsEndedRun arrivals from old some middle stop.Limit
    → IsEndedRun arrivals limit middle more new reason →
    IsEndedRun arrivals (from + limit) old (some ++ more) new reason
run_on {from = from} {limit = limit} {new = new} {some = some} {more = more} {reason = reason} run after =
    grind (arith, History-append, reports_of-append, stops_after)

-- a run that ended before its limit is one with a greater limit
pub run_earlier : {arrivals : List Arrival} {limit : ℕ} {old new : GuidedHardware} {moments : List
    Moment} {reason : Stop} (more : ℕ) → reason ≢ stop.Limit → IsEndedRun arrivals limit old moments new reason
    → IsEndedRun arrivals (limit + more) old moments new reason
run_earlier {limit = limit} {new = new} {moments = moments} {reason = reason} more other run = grind arith

-- a run has no more cycles than its limit
pub length-run : (limit : ℕ) (reports : List Report) (new : Hardware) (reason : Stop) →
    IsStop limit reports new reason → length reports ≤ limit
length-run limit reports new reason stops = grind arith
