-- The events by which instructions are issued, and their results broadcast.
use Rattle.std.specs.Prelude.{◌==◌, ◌&&◌, nat_lt, Bool, if◌then◌else◌, List, [], ◌∷◌, count_by, Option, Some, None}
use Rattle.std.specs.Option.{option_or, unwrap_or}
use Rattle.rv_isa.specs.Instruction.{is_load, kind_of_word}
use Rattle.rv_isa.specs.PerKind.{at_kind, is_same}
use Rattle.rv_isa.specs.declared.{issues.Issue.Issue, operations.Kind.Kind}
use Rattle.rv_passage.specs.Result.{ready_in}
use Rattle.rv_passage.specs.declared.{passage.Passage.Passage, producers.Producer.Producer}
use Rattle.rv_causes.specs.Cause.{busy_of, execution_of}
use Rattle.rv_causes.specs.Event.{Wait, waits}
use Rattle.rv_causes.specs.Lookup.{Journey, first_of, last_of}
use Rattle.rv_causes.specs.Setting.{Setting, after_port, is_hold_of, port_ended}
use Rattle.rv_causes.specs.Sought.{is_at, is_just_before, is_sought}
use Rattle.rv_causes.specs.Way.{broadcast_by, dispatched_by, issued_by}
use Rattle.rv_causes.specs.declared.{before.UnitHold.UnitHold, cause.Cause.Cause, way.Way.Way}
use Rattle.rv_causes.specs.declared.before.Holder.TheVariants as holder
use Rattle.rv_causes.specs.declared.cause.Cause.TheVariants as cause
use Rattle.rv_causes.specs.declared.sought.Sought.TheVariants as sought

-- an event that waited for the broadcast of an instruction
abbrev pub after_broadcast : Cause → Option Journey → Option Wait
after_broadcast cause None = None
after_broadcast cause (Some journey) = Some (waits cause (broadcast_by journey.way))

-- an operand was broadcast in the cycle just before
abbrev pub after_producer : Setting → List Way → Option Producer → Option Wait
after_producer s ways None = None
after_producer s ways (Some producer) =
    if is_just_before s.number producer.broadcast
    then after_broadcast cause.Operand (first_of (sought.Number producer.number) s.rows ways)
    else None

-- of the first two that the instruction waits for
abbrev pub after_operands : Setting → List Way → Passage → Option Wait
after_operands s ways p = option_or (after_producer s ways p.producers.first) (after_producer s ways p.producers.second)

-- the address of an older store was broadcast then
abbrev pub after_older_store : Setting → Passage → Option Journey → Option Wait
after_older_store s p None = None
after_older_store s p (Some store) =
    if nat_lt store.row.number p.number then Some (waits cause.StoreAddress (broadcast_by store.way)) else None

abbrev pub after_stores_known : Setting → List Way → Passage → Option Wait
after_stores_known s ways p =
    if is_load p.instruction then after_older_store s p (first_of (sought.StoreBefore s.number) s.rows ways) else None

-- a hold of a unit of a kind that ended when the cycle began
abbrev pub has_ended : Setting → Kind → UnitHold → Bool
has_ended s kind hold = is_same hold.kind kind && hold.until == s.number

-- the one of the oldest of two instructions
abbrev pub older_hold : UnitHold → Option UnitHold → UnitHold
older_hold hold None = hold
older_hold hold (Some other) = if nat_lt other.number hold.number then other else hold

-- the hold that ended then, of the oldest instruction
abbrev pub hold_among : Setting → Kind → List UnitHold → Option UnitHold
hold_among s kind [] = None
hold_among s kind (hold ∷ holds) =
    if has_ended s kind hold then Some (older_hold hold (hold_among s kind holds)) else hold_among s kind holds

abbrev pub after_hold_of : Kind → Option UnitHold → Option Wait
after_hold_of kind None = None
after_hold_of kind (Some hold) = Some (waits (busy_of kind) hold.event)

-- the last that was issued in the cycle just before took the last of the units
abbrev pub after_issue : Kind → Option Journey → Option Wait
after_issue kind None = None
after_issue kind (Some journey) = Some (waits (busy_of kind) (issued_by journey.way))

abbrev pub after_issues : Setting → List Way → Kind → Option Wait
after_issues s ways kind =
    if count_by (is_sought (sought.IssuedBefore kind s.number)) s.rows == (at_kind kind s.values.kinds).units
    then after_issue kind (last_of (sought.IssuedBefore kind s.number) s.rows ways)
    else None

-- the units of a kind were held by others
abbrev pub after_units : Setting → List Way → Kind → Option Wait
after_units s ways kind =
    if (at_kind kind s.values.kinds).pipelined then after_issues s ways kind
    else after_hold_of kind (hold_among s kind s.holds)

abbrev pub after_units_of : Setting → List Way → Option Kind → Option Wait
after_units_of s ways None = None
after_units_of s ways (Some kind) = after_units s ways kind

-- what an instruction waited for after its dispatch, of these the first
abbrev pub issue_after : Setting → List Way → Passage → Option Wait
issue_after s ways p =
    option_or (after_operands s ways p)
    (option_or (after_stores_known s ways p)
    (option_or (after_units_of s ways (kind_of_word p.instruction)) (after_port s)))

-- what an instruction waited for that is issued
abbrev pub issue_wait : Setting → List Way → Passage → Way → Wait
issue_wait s ways p w =
    if is_just_before s.number p.dispatched then waits cause.DispatchToIssue (dispatched_by w)
    else unwrap_or (issue_after s ways p) (waits cause.Other (dispatched_by w))

-- the execution of a load, by whether it held the port, and what it cost
abbrev pub load_cause : Setting → Passage → Option Issue → Cause
load_cause s p None = cause.LoadMiss
load_cause s p (Some issue) = if issue.cost == s.values.cache.hit then cause.LoadHit else cause.LoadMiss

abbrev pub execution_cause_of : Setting → Passage → Option Kind → Cause
execution_cause_of s p None = cause.Other
execution_cause_of s p (Some kind) = execution_of kind

-- what kept a result from its issue on
abbrev pub execution_cause : Setting → Passage → Cause
execution_cause s p =
    if is_load p.instruction
    then (if is_hold_of holder.Load p.number (port_ended s) then load_cause s p p.issue else cause.LoadForwarded)
    else execution_cause_of s p (kind_of_word p.instruction)

-- as many results as the bus is wide went first
abbrev pub after_bus : Setting → List Way → Option Wait
after_bus s ways =
    if count_by (is_sought (sought.BroadcastBefore s.number)) s.rows == s.values.bus_width
    then after_broadcast cause.BusFull (last_of (sought.BroadcastBefore s.number) s.rows ways)
    else None

-- what a result waited for that is broadcast
abbrev pub broadcast_wait : Setting → List Way → Passage → Way → Wait
broadcast_wait s ways p w =
    if is_at s.number (ready_in p) then waits (execution_cause s p) (issued_by w)
    else unwrap_or (after_bus s ways) (waits cause.Other (issued_by w))
