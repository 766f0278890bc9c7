-- What has run: no cycle, those of a history, and both of two runs.
use Rattle.std.proofs.Common.{List, [], ◌++◌, OnErr, Result, Ok, Err}
use Rattle.rv_isa.specs.declared.lines.Arrival.{Arrival}
use Rattle.rv_hardware.specs.Guided.{GuidedHardware}
use Rattle.rv_hardware.specs.History.{History, Moment, ended}
use Rattle.rv_passage.proofs.EndedRun.{History-append}
use Rattle.rv_view.specs.Run.{HasRun}

-- no cycle has run from hardware to itself
pub has_not_run : (arrivals : List Arrival) (h : GuidedHardware) → HasRun arrivals h h
has_not_run arrivals h = ([], ended)

-- the cycles of a history
pub has_run : {arrivals : List Arrival} {old new : GuidedHardware} {moments : List Moment}
    → History arrivals old moments new → HasRun arrivals old new
has_run {moments = moments} goes = (moments, goes)

-- one run, and one that goes on from its end
pub has_run_on : {arrivals : List Arrival} {old middle new : GuidedHardware}
    → HasRun arrivals old middle → HasRun arrivals middle new → HasRun arrivals old new
has_run_on (moments, goes) (more, after) = (moments ++ more, History-append goes after)

-- what holds of an error
pub on_err : {T E P : Type 0} (r : Result T E) → P → OnErr r P
on_err (Ok value) holds = tt
on_err (Err error) holds = holds
