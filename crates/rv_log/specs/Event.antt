-- What a log says of an instruction in a cycle.
use Rattle.std.specs.Prelude.{ℕ, ◌==◌, ◌&&◌, Bool, false, if◌then◌else◌, List, [], ◌++◌, Option, Some, None, codes}
use Rattle.rv_passage.specs.declared.passage.{Ending.Ending, Passage.Passage}
use Rattle.rv_passage.specs.declared.passage.Ending.TheVariants.{InFlight, Retired, Trapped, Squashed}
use Rattle.rv_passage.specs.{Passage.is_in_flight, Passage.left_in, Result.issued_in}
use Rattle.rv_passage.specs.{Result.ready_in, Result.waits_for_bus}
use Rattle.rv_source.specs.Listing.{Listed}
use Rattle.rv_log.specs.Command.{appearance_text, flush_line, retirement_line, stage_line}
use Rattle.rv_log.specs.Details.{details_text}
use Rattle.rv_log.specs.declared.stage.Stage.{Stage}
use Rattle.rv_log.specs.declared.stage.Stage.TheVariants as stage

-- a stamp is this cycle
abbrev pub is_at : ℕ → Option ℕ → Bool
is_at cycle None = false
is_at cycle (Some stamp) = stamp == cycle

-- a stage begins in the cycle of its stamp
unfoldable pub stage_at : ℕ → ℕ → Stage → Option ℕ → List ℕ
stage_at cycle number name stamp = if is_at cycle stamp then stage_line number name else []

-- in this cycle a result begins to wait for the bus
abbrev pub begins_to_wait : Passage → ℕ → Bool
begins_to_wait passage cycle = is_at cycle (ready_in passage) && is_in_flight passage && waits_for_bus passage cycle

-- that stage begins there
unfoldable pub bus_wait_at : ℕ → Passage → List ℕ
bus_wait_at cycle passage = if begins_to_wait passage cycle then stage_line passage.number stage.BusWait else []

-- an instruction appears with its fetch
unfoldable pub fetched_text : Listed → Passage → List ℕ
fetched_text listing passage = appearance_text listing passage ++ stage_line passage.number stage.Fetch

-- that in the cycle of its fetch
unfoldable pub fetch_at : Listed → ℕ → Passage → List ℕ
fetch_at listing cycle passage = if passage.fetched == cycle then fetched_text listing passage else []

-- the cycle of its retirement
abbrev pub retired_in : Ending → Option ℕ
retired_in (Retired order cycle written next) = Some cycle
retired_in InFlight = None
retired_in (Trapped cycle cause) = None
retired_in (Squashed cycle) = None

-- all that became of an instruction in a cycle; its last stage is the retirement
unfoldable pub events_at : Listed → ℕ → Passage → List ℕ
events_at listing cycle passage =
    fetch_at listing cycle passage ++
    (stage_at cycle passage.number stage.Dispatch passage.dispatched ++
    (stage_at cycle passage.number stage.Execution (issued_in passage) ++
    (bus_wait_at cycle passage ++
    (stage_at cycle passage.number stage.Broadcast passage.broadcast ++
    stage_at cycle passage.number stage.Retirement (retired_in passage.ending)))))

-- how it ended: what trapped is flushed as what was squashed is
unfoldable pub end_line : ℕ → Ending → List ℕ
end_line number InFlight = []
end_line number (Retired order cycle written next) = retirement_line number order
end_line number (Trapped cycle cause) = flush_line number
end_line number (Squashed cycle) = flush_line number

-- the details of what ended stand before that, in a log from some cycle on
unfoldable pub ended_text : ℕ → Passage → List ℕ
ended_text first passage = details_text first passage ++ (codes "\n" ++ end_line passage.number passage.ending)

-- how an instruction left the hardware in a cycle
unfoldable pub left_at : ℕ → ℕ → Passage → List ℕ
left_at first cycle passage = if is_at cycle (left_in passage.ending) then ended_text first passage else []
