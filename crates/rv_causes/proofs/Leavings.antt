-- The events of those that leave the hardware in a cycle are new, and so are that of an interrupt and those from which
-- the port is taken.
use Rattle.std.proofs.Common.{ℕ, List, [], ◌∷◌, Option, Some, None, arith}
use Rattle.std.specs.Prelude.{IfSome}
use Rattle.std.specs.Option.{option_or}
use Rattle.rv_passage.specs.declared.passage.Passage.{Passage}
use Rattle.rv_causes.specs.Event.{Wait, again_by, waits}
use Rattle.rv_causes.specs.Holding.{at_its_commit, drain_event}
use Rattle.rv_causes.specs.Leaving.{first_to_leave, interrupt_event, known_in, leaves_after, leaving_event, leaving_of}
use Rattle.rv_causes.specs.Leaving.{left_events, lines_after, lines_event, none_left, with_row, with_rows}
use Rattle.rv_causes.specs.Setting.{Setting, after_port, after_stores, last_left, made, made_of}
use Rattle.rv_causes.specs.Sought.{is_just_before}
use Rattle.rv_causes.specs.WaitingStores.{oldest}
use Rattle.rv_causes.specs.Way.{broadcast_by, dispatched_by}
use Rattle.rv_causes.specs.Within.{AreHoldsOf, AreWaysOf, IsBeforeOf, IsWayOf}
use Rattle.rv_causes.specs.declared.{cause.Cause.Cause, event.Event.Event, leaving.Leaving.Leaving, point.Point.Point}
use Rattle.rv_causes.specs.declared.{point.Stage.Stage, way.Way.Way}
use Rattle.rv_causes.specs.declared.cause.Cause.TheVariants as cause
use Rattle.rv_causes.specs.declared.point.Stage.TheVariants as stage
use Rattle.rv_causes.proofs.EventLists.{if_with, or_with, unwrap_with}
use Rattle.rv_causes.proofs.News.{AllOf, IsNew, all_back, all_both, all_front, all_imply, all_some, made_new, some_all}
use Rattle.rv_causes.proofs.Waits.{after_port_V, after_stores_V, broadcast_have}
use Rattle.rv_causes.proofs.Waits.{dispatched_have, first_to_leave_V, since_left_V}

-- something holds of the events of those that leave
pub record AreLeavingOf (Q : Event → Type 0) (leaving : Leaving) : Type 0 where
  pub first : IfSome leaving.first Q
  pub last : IfSome leaving.last Q
  pub store : IfSome leaving.store Q

-- what holds of all that a cycle's leaving brought holds of the list of its events
pub left_events_have : (Q : Event → Type 0) (leaving : Leaving) → AreLeavingOf Q leaving → AllOf Q (left_events leaving)
left_events_have Q leaving are = grind (arith, all_both, all_some)

-- and what holds of the list of its events holds of all that it brought
pub left_events_are : (Q : Event → Type 0) (leaving : Leaving) → AllOf Q (left_events leaving) → AreLeavingOf Q leaving
left_events_are Q leaving are = grind (arith, all_back, some_all, all_front)

-- what implies another property of an event implies it of those of a leaving
pub leaving_implies : (P Q : Event → Type 0) → ((event : Event) → P event → Q event) → (leaving : Leaving) →
    AreLeavingOf P leaving
    → AreLeavingOf Q leaving
leaving_implies P Q implies leaving are =
    left_events_are Q leaving (all_imply P Q implies (left_events leaving) (left_events_have P leaving are))

module _ (s : Setting) (P : Event → Type 0) (holds : AreHoldsOf P s.holds) (before : IsBeforeOf P s.before) where
  abbrev N : Event → Type 0
  N event = IsNew P s.elapsed event

  -- what is made at a point is new
  abbrev V : Point → Option ℕ → Wait → Type 0
  V at address waited = N (made s at address waited)

  abbrev VR : Stage → Passage → Wait → Type 0
  VR stage p waited = N (made_of s stage p waited)

  waits_V : (at : Point) (address : Option ℕ) (why : Cause) (event : Event) → P event → V at address (waits why event)
  waits_V at address why event is = made_new P s.refilled s.elapsed at address why (waits why event) is

  waits_VR : (stage : Stage) (p : Passage) (why : Cause) (event : Event) → P event → VR stage p (waits why event)
  waits_VR stage p why event is =
      made_new P s.refilled s.elapsed (record { stage = stage; number = p.number }) (Some p.pc) why (waits why event) is

  leaves_after_V : (earlier : Option Event) (p : Passage) (w : Way) → IfSome earlier N → IsWayOf P w
      → VR stage.Commit p (leaves_after s earlier p w)
  leaves_after_V (Some event) p w earlier-is w-is = earlier-is
  leaves_after_V None p w earlier-is w-is =
      unwrap_with (VR stage.Commit p) (first_to_leave s p) (waits cause.Other (dispatched_by w))
      (first_to_leave_V s P (VR stage.Commit p) (waits_VR stage.Commit p) holds before p)
      (waits_VR stage.Commit p cause.Other (dispatched_by w) (dispatched_have P w w-is))

  leaving_event_N : (earlier : Option Event) (p : Passage) (w : Way) → IfSome earlier N → IsWayOf P w →
      N (leaving_event s earlier p w)
  leaving_event_N earlier p w earlier-is w-is =
      if_with (VR stage.Commit p) (is_just_before s.number (known_in p))
      (waits_VR stage.Commit p cause.Commit (broadcast_by w) (broadcast_have P w w-is))
      (leaves_after_V earlier p w earlier-is w-is)

  with_row_N : (p : Passage) (w : Way) (leaving : Leaving) → IsWayOf P w → AreLeavingOf N leaving →
      AreLeavingOf N (with_row s p w leaving)
  with_row_N p w leaving w-is are = grind (arith, leaving_event_N)

  with_rows_N : (ps : List Passage) (ws : List Way) (leaving : Leaving) → AreWaysOf P ws → AreLeavingOf N leaving
      → AreLeavingOf N (with_rows s ps ws leaving)
  with_rows_N [] ws leaving ws-are are = are
  with_rows_N (p ∷ ps) [] leaving ws-are are = are
  with_rows_N (p ∷ ps) (w ∷ ws) leaving ws-are are =
      with_rows_N ps ws (with_row s p w leaving) ws-are.1 (with_row_N p w leaving ws-are.0 are)

  -- the events by which instructions leave in a cycle are new
  pub leaving_new : (ws : List Way) → AreWaysOf P ws → AreLeavingOf N (leaving_of s ws)
  leaving_new ws ws-are = with_rows_N s.rows ws none_left ws-are (record { first = tt; last = tt; store = tt })

  -- the event of an interrupt is new
  pub interrupt_new : N (interrupt_event s)
  interrupt_new =
      let at : Point = record { stage = stage.Interrupt; number = s.elapsed } in
      since_left_V s P (V at None) (waits_V at None) holds before cause.UntilInterrupt

  again_N : (at : Point) (address : Option ℕ) (o : Option Event) → IfSome o N → IfSome (again_by o) (V at address)
  again_N at address None is = tt
  again_N at address (Some event) is = is

  -- the event by which a drain begins is new
  pub drain_new : (leaving : Leaving) → AreLeavingOf N leaving → N (drain_event s leaving)
  drain_new leaving gone =
      let at : Point = record { stage = stage.Drain; number = s.elapsed } in
      let address = oldest s.before.waiting in
      let last = last_left s.before.left in
      unwrap_with (V at address) (option_or (at_its_commit s leaving) (after_port s)) (waits cause.Other last)
      (or_with (V at address) (at_its_commit s leaving) (after_port s)
      (if_with (λ (o : Option Wait). IfSome o (V at address)) s.before.facts.is_store_waiting tt
      (again_N at address leaving.store gone.store))
      (after_port_V s P (V at address) (waits_V at address) holds before))
      (waits_V at address cause.Other last before.left)

  lines_after_V : (earlier : Option Event) (p : Passage) (w : Way) → IfSome earlier N → IsWayOf P w
      → VR stage.Lines p (lines_after s earlier w)
  lines_after_V (Some event) p w earlier-is w-is = earlier-is
  lines_after_V None p w earlier-is w-is =
      unwrap_with (VR stage.Lines p) (after_stores s) (waits cause.Other (dispatched_by w))
      (after_stores_V s P (VR stage.Lines p) (waits_VR stage.Lines p) holds before)
      (waits_VR stage.Lines p cause.Other (dispatched_by w) (dispatched_have P w w-is))

  -- the event by which all lines begin to be written back is new
  pub lines_new : (leaving : Leaving) (p : Passage) (w : Way) → AreLeavingOf N leaving → IsWayOf P w →
      N (lines_event s leaving p w)
  lines_new leaving p w gone w-is =
      if_with (VR stage.Lines p) (is_just_before s.number p.dispatched)
      (waits_VR stage.Lines p cause.Commit (dispatched_by w) (dispatched_have P w w-is))
      (lines_after_V leaving.last p w gone.last w-is)
