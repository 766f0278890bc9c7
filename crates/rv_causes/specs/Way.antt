-- The events of an instruction so far, of which one that did not come yet stands for the latest before it.
use Rattle.std.specs.Prelude.{Some, None}
use Rattle.std.specs.Option.{unwrap_or}
use Rattle.rv_causes.specs.declared.{event.Event.Event, point.Stage.Stage, way.Way.Way}
use Rattle.rv_causes.specs.declared.point.Stage.TheVariants as stage

-- it was fetched
abbrev pub way_from : Event → Way
way_from fetch = record { fetch = fetch; dispatch = None; issue = None; broadcast = None }

-- it was dispatched, or issued, or its result was broadcast
abbrev pub with_stage : Stage → Event → Way → Way
with_stage stage.Dispatch event way = record way { dispatch = Some event }
with_stage stage.Issue event way = record way { issue = Some event }
with_stage stage.Broadcast event way = record way { broadcast = Some event }
with_stage _ event way = way

-- the event by which it was dispatched
abbrev pub dispatched_by : Way → Event
dispatched_by way = unwrap_or way.dispatch way.fetch

-- by which it was issued
abbrev pub issued_by : Way → Event
issued_by way = unwrap_or way.issue (dispatched_by way)

-- by which its result was broadcast; that of an instruction that uses no unit is its dispatch
abbrev pub broadcast_by : Way → Event
broadcast_by way = unwrap_or way.broadcast (issued_by way)
