-- The instructions that leave the hardware in a cycle, and the lines that the oldest one writes back.
use Rattle.std.specs.Prelude.{◌≡◌, ℕ, ◌==◌, ◌&&◌, not, Bool, if◌then◌else◌, List, [], ◌∷◌, ◌++◌, count_by, Option, Some}
use Rattle.std.specs.Prelude.{None}
use Rattle.std.specs.Option.{option_or, option_to_list, unwrap_or}
use Rattle.std.specs.List.{list_any}
use Rattle.rv_hardware.specs.Step.{is_interrupt}
use Rattle.rv_hardware.specs.declared.step.Step.{Step}
use Rattle.rv_hardware.specs.Broadcast.{mends_early}
use Rattle.rv_isa.specs.Instruction.{is_branch_or_jump, is_fence_i, is_serialising, is_store}
use Rattle.rv_passage.specs.Passage.{is_retirement}
use Rattle.rv_passage.specs.Prediction.{differ, next_of}
use Rattle.rv_passage.specs.declared.passage.{Ending.Ending, Passage.Passage}
use Rattle.rv_passage.specs.declared.passage.Ending.TheVariants.{InFlight, Retired, Trapped, Squashed}
use Rattle.rv_causes.specs.Event.{Wait, again, waits}
use Rattle.rv_causes.specs.Setting.{Setting, after_stores, is_hold_of, left_before}
use Rattle.rv_causes.specs.Setting.{made, made_of, port_ended, since_left}
use Rattle.rv_causes.specs.Sought.{is_end, is_just_before, is_sought}
use Rattle.rv_causes.specs.Way.{broadcast_by, dispatched_by}
use Rattle.rv_causes.specs.declared.{before.Left.Left, before.PortHold.PortHold}
use Rattle.rv_causes.specs.declared.{cause.Cause.Cause, event.Event.Event, point.Reason.Reason}
use Rattle.rv_causes.specs.declared.{leaving.Leaving.Leaving, way.Way.Way}
use Rattle.rv_causes.specs.declared.before.Holder.TheVariants as holder
use Rattle.rv_causes.specs.declared.cause.Cause.TheVariants as cause
use Rattle.rv_causes.specs.declared.point.Stage.TheVariants as stage
use Rattle.rv_causes.specs.declared.sought.Sought.TheVariants as sought

-- the cycle in which its result was known: that of its broadcast, or of its dispatch where it uses no unit
abbrev pub known_in : Passage → Option ℕ
known_in p = option_or p.broadcast p.dispatched

-- a FENCE.I that its own lines kept
abbrev pub own_lines : Option PortHold → Option Wait
own_lines None = None
own_lines (Some hold) = Some (waits cause.LinesWritten hold.event)

abbrev pub after_own_lines : Setting → Passage → Option Wait
after_own_lines s p = if is_hold_of holder.Lines p.number (port_ended s) then own_lines (port_ended s) else None

-- the first to leave in a cycle, where others left in the cycle before
abbrev pub after_left : Setting → Left → Wait
after_left s left =
    if left.count == s.values.commit_width then waits cause.CommitWidth left.event
    else waits cause.CommitInOrder left.event

abbrev pub after_left_before : Setting → Option Left → Option Wait
after_left_before s None = None
after_left_before s (Some left) = Some (after_left s left)

-- what the first to leave in a cycle waited for last: a FENCE.I for its lines and the older stores, any other for the
-- older instructions
abbrev pub first_to_leave : Setting → Passage → Option Wait
first_to_leave s p =
    if is_fence_i p.instruction then option_or (after_own_lines s p) (after_stores s)
    else after_left_before s (left_before s)

-- one leaves after others of the same cycle, or is the first
abbrev pub leaves_after : Setting → Option Event → Passage → Way → Wait
leaves_after s (Some event) p w = again event
leaves_after s None p w = unwrap_or (first_to_leave s p) (waits cause.Other (dispatched_by w))

-- what an instruction waited for that leaves the hardware, after the one before it in the cycle
abbrev pub leaving_wait : Setting → Option Event → Passage → Way → Wait
leaving_wait s earlier p w =
    if is_just_before s.number (known_in p) then waits cause.Commit (broadcast_by w) else leaves_after s earlier p w

-- the event by which it leaves
abbrev pub leaving_event : Setting → Option Event → Passage → Way → Event
leaving_event s earlier p w = made_of s stage.Commit p (leaving_wait s earlier p w)

-- a store retired
abbrev pub is_retired_store : Passage → Bool
is_retired_store p = is_retirement p.ending && is_store p.instruction

-- an instruction retired whose successor was predicted wrongly, and that was not mended at its broadcast
abbrev pub flushes_late : Setting → Passage → Bool
flushes_late s p =
    differ p.predicted (next_of p.ending) && not (mends_early s.values.recovery && is_branch_or_jump p.instruction)

-- why the fetch begins anew where an instruction leaves, if it does
abbrev pub cause_of_flush : Setting → Passage → Ending → Option Cause
cause_of_flush s p InFlight = None
cause_of_flush s p (Squashed cycle) = None
cause_of_flush s p (Trapped cycle why) = Some cause.RefillTrap
cause_of_flush s p (Retired order cycle written next) =
    if is_serialising p.instruction then Some cause.RefillSerialising
    else (if flushes_late s p then Some cause.RefillPrediction else None)

-- on its account
abbrev pub flush_by : Passage → Option Cause → Option Reason
flush_by p None = None
flush_by p (Some why) = Some (record { cause = why; address = Some p.pc })

-- the events of those that left so far: of the first, the last, and the first store, and whether the fetch begins anew
abbrev pub none_left : Leaving
none_left = record { first = None; last = None; store = None; refill = None }

-- one more
abbrev pub with_event : Setting → Event → Passage → Leaving → Leaving
with_event s event p leaving = record {
  first = option_or leaving.first (Some event);
  last = Some event;
  store = if is_retired_store p then option_or leaving.store (Some event) else leaving.store;
  refill = flush_by p (cause_of_flush s p p.ending);
}

abbrev pub with_left : Setting → Passage → Way → Leaving → Leaving
with_left s p w leaving = with_event s (leaving_event s leaving.last p w) p leaving

-- one more instruction, if it left
abbrev pub with_row : Setting → Passage → Way → Leaving → Leaving
with_row s p w leaving = if is_end p.ending then with_left s p w leaving else leaving

-- some more
abbrev pub with_rows : Setting → List Passage → List Way → Leaving → Leaving
with_rows s [] ways leaving = leaving
with_rows s (p ∷ ps) [] leaving = leaving
with_rows s (p ∷ ps) (w ∷ ws) leaving = with_rows s ps ws (with_row s p w leaving)

-- all that leave in the cycle
abbrev pub leaving_of : Setting → List Way → Leaving
leaving_of s ways = with_rows s s.rows ways none_left

-- some of the instructions of a cycle, among which are all that left the hardware in it
pub record HasAllThatLeft (rows some : List Passage) : Type 0 where
  pub leaving : (s : Setting) (ways : List Way) (leaving : Leaving) →
      with_rows s some ways leaving ≡ with_rows s rows ways leaving
  pub count : count_by (is_sought sought.Ended) some ≡ count_by (is_sought sought.Ended) rows

-- an interrupt came so long after the last step
abbrev pub interrupt_event : Setting → Event
interrupt_event s =
    made s (record { stage = stage.Interrupt; number = s.elapsed }) None (since_left cause.UntilInterrupt s.before.left)

-- an interrupt is among the steps of the cycle
abbrev pub is_interrupted : List Step → Bool
is_interrupted steps = list_any is_interrupt steps

-- so many left in the cycle, the last by this event
abbrev pub left_by : Setting → ℕ → Option Event → Option Left
left_by s count None = None
left_by s count (Some event) = Some (record { cycle = s.number; count = count; event = event })

-- what left in the cycle; with an interrupt no instruction does
abbrev pub newly_left : Setting → Bool → Leaving → Option Left
newly_left s interrupted leaving =
    if interrupted then left_by s 0 (Some (interrupt_event s))
    else left_by s (count_by (is_sought sought.Ended) s.rows) leaving.last

-- The oldest instruction begins to write lines back: when it is the oldest, and the older stores and the port let it.
abbrev pub lines_after : Setting → Option Event → Way → Wait
lines_after s (Some event) w = again event
lines_after s None w = unwrap_or (after_stores s) (waits cause.Other (dispatched_by w))

abbrev pub lines_wait : Setting → Leaving → Passage → Way → Wait
lines_wait s leaving p w =
    if is_just_before s.number p.dispatched then waits cause.Commit (dispatched_by w) else lines_after s leaving.last w

abbrev pub lines_event : Setting → Leaving → Passage → Way → Event
lines_event s leaving p w = made_of s stage.Lines p (lines_wait s leaving p w)

-- the events of those that leave: others of the cycle wait for these alone
abbrev pub left_events : Leaving → List Event
left_events leaving = option_to_list leaving.first ++ (option_to_list leaving.store ++ option_to_list leaving.last)
