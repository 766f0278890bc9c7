-- What an event of a cycle waits for is one that was known: what holds of a wait for any of those holds of each that is chosen.
use Rattle.std.proofs.Common.{ℕ, ◌+◌, List, [], ◌∷◌, Option, Some, None, arith}
use Rattle.std.specs.Prelude.{IfSome, ◌==◌, not, ◌&&◌}
use Rattle.rv_isa.specs.declared.operations.Kind.{Kind}
use Rattle.rv_passage.specs.declared.{passage.Passage.Passage, producers.Producer.Producer}
use Rattle.rv_causes.specs.Event.{Wait, nothing_yet, waits}
use Rattle.rv_causes.specs.Issuing.{after_broadcast, after_bus, after_hold_of, after_issue, after_older_store}
use Rattle.rv_causes.specs.Issuing.{after_producer, after_stores_known, after_units, after_units_of, broadcast_wait}
use Rattle.rv_causes.specs.Issuing.{hold_among, issue_after, issue_wait}
use Rattle.rv_causes.specs.Leaving.{after_left, after_left_before, first_to_leave, own_lines}
use Rattle.rv_causes.specs.Lookup.{Journey, first_of, last_of}
use Rattle.rv_causes.specs.Setting.{Setting, after_drain_at, after_drain_before, after_hold, after_leaving, after_port}
use Rattle.rv_causes.specs.Setting.{after_stores, hold_ended, last_left, left_before, left_just_before, port_ended}
use Rattle.rv_causes.specs.Setting.{since_left}
use Rattle.rv_causes.specs.Sought.{is_just_before}
use Rattle.rv_causes.specs.Way.{broadcast_by, dispatched_by, issued_by}
use Rattle.rv_causes.specs.Within.{AreHoldsOf, AreWaysOf, IsBeforeOf, IsWayOf}
use Rattle.rv_causes.specs.declared.{before.DrainHold.DrainHold, before.Left.Left}
use Rattle.rv_causes.specs.declared.{before.PortHold.PortHold, before.UnitHold.UnitHold}
use Rattle.rv_causes.specs.declared.{cause.Cause.Cause, event.Event.Event, sought.Sought.Sought, way.Way.Way}
use Rattle.rv_causes.specs.declared.cause.Cause.TheVariants as cause
use Rattle.rv_causes.proofs.EventLists.{OJ, first_have, if_with, last_have, or_with, unwrap_with}

-- the events of an instruction that stand for others
pub dispatched_have : (P : Event → Type 0) (w : Way) → IsWayOf P w → P (dispatched_by w)
dispatched_have P w is = unwrap_with P w.dispatch w.fetch is.dispatch is.fetch

-- what holds of the events of an instruction holds of its issue
pub issued_have : (P : Event → Type 0) (w : Way) → IsWayOf P w → P (issued_by w)
issued_have P w is = unwrap_with P w.issue (dispatched_by w) is.issue (dispatched_have P w is)

-- and of its broadcast
pub broadcast_have : (P : Event → Type 0) (w : Way) → IsWayOf P w → P (broadcast_by w)
broadcast_have P w is = unwrap_with P w.broadcast (issued_by w) is.broadcast (issued_have P w is)

-- of a cycle, where something holds of all that is known when it begins
module _ (s : Setting) (P : Event → Type 0) (V : Wait → Type 0) (waits_V : (why : Cause) (event : Event) → P event →
    V (waits why event))
    (holds : AreHoldsOf P s.holds) (before : IsBeforeOf P s.before) where
  abbrev O : Option Wait → Type 0
  O waited = IfSome waited V

  abbrev OH : Option PortHold → Type 0
  OH hold = IfSome hold (λ h. P h.event)

  abbrev U : UnitHold → Type 0
  U hold = P hold.event

  abbrev OU : Option UnitHold → Type 0
  OU hold = IfSome hold U

  abbrev OL : Option Left → Type 0
  OL left = IfSome left (λ l. P l.event)

  abbrev OD : Option DrainHold → Type 0
  OD drain = IfSome drain (λ d. P d.event)

  hold_ended_V : (o : Option PortHold) → OH o → OH (hold_ended s o)
  hold_ended_V None is = tt
  hold_ended_V (Some hold) is = if_with OH (hold.until == s.number) is tt

  port_ended_V : OH (port_ended s)
  port_ended_V = hold_ended_V s.before.port before.port

  after_hold_V : (o : Option PortHold) → OH o → O (after_hold o)
  after_hold_V None is = tt
  after_hold_V (Some hold) is = waits_V _ hold.event is

  -- it holds of the event that freed the port, where there is one
  pub after_port_V : O (after_port s)
  after_port_V = after_hold_V (port_ended s) port_ended_V

  left_V : (o : Option Left) → P (last_left o) → OL (left_just_before s o)
  left_V None is = tt
  left_V (Some left) is = if_with OL (left.cycle + 1 == s.number && not (left.count == 0)) is tt

  left_before_V : OL (left_before s)
  left_before_V = left_V s.before.left before.left

  after_leaving_V : (o : Option Left) → OL o → O (after_leaving o)
  after_leaving_V None is = tt
  after_leaving_V (Some left) is = waits_V _ left.event is

  after_drain_at_V : (why : Cause) (cycle : ℕ) (o : Option DrainHold) → OD o → O (after_drain_at s why cycle o)
  after_drain_at_V why cycle None is = tt
  after_drain_at_V why cycle (Some drain) is = if_with O (drain.until == cycle) (waits_V why drain.event is) tt

  -- it holds of the start of the drain that is waited for, where there is one
  pub after_drain_V : (why : Cause) → O (after_drain_at s why s.number s.before.drain)
  after_drain_V why = after_drain_at_V why s.number s.before.drain before.drain

  after_drain_before_V : (o : Option DrainHold) → OD o → O (after_drain_before s o)
  after_drain_before_V None is = tt
  after_drain_before_V (Some drain) is = if_with O (drain.until + 1 == s.number) (waits_V _ drain.event is) tt

  -- it holds of what an instruction that waits for all stores waits for
  pub after_stores_V : O (after_stores s)
  after_stores_V = grind (arith, or_with, after_drain_before_V, after_port_V, after_leaving_V, left_before_V)

  own_lines_V : (o : Option PortHold) → OH o → O (own_lines o)
  own_lines_V None is = tt
  own_lines_V (Some hold) is = waits_V _ hold.event is

  after_left_V : (left : Left) → P left.event → V (after_left s left)
  after_left_V left is = if_with V (left.count == s.values.commit_width) (waits_V _ left.event is)
      (waits_V _ left.event is)

  after_left_before_V : (o : Option Left) → OL o → O (after_left_before s o)
  after_left_before_V None is = tt
  after_left_before_V (Some left) is = after_left_V left is

  -- it holds of what the first to leave in a cycle waits for
  pub first_to_leave_V : (p : Passage) → O (first_to_leave s p)
  first_to_leave_V p =
      grind (arith, if_with, or_with, own_lines_V, port_ended_V, after_stores_V, after_left_before_V, left_before_V)

  left_since_V : (why : Cause) (o : Option Left) → P (last_left o) → V (since_left why o)
  left_since_V why None is = waits_V _ nothing_yet is
  left_since_V why (Some left) is = waits_V why left.event is

  -- it holds of the last that left, where there is one
  pub since_left_V : (why : Cause) → V (since_left why s.before.left)
  since_left_V why = left_since_V why s.before.left before.left

  -- the instructions have these events
  module _ (ws : List Way) (ws-are : AreWaysOf P ws) where
    first_J : (what : Sought) → OJ P (first_of what s.rows ws)
    first_J what = first_have P what s.rows ws ws-are

    last_J : (what : Sought) → OJ P (last_of what s.rows ws)
    last_J what = last_have P what s.rows ws ws-are

    after_broadcast_V : (why : Cause) (o : Option Journey) → OJ P o → O (after_broadcast why o)
    after_broadcast_V why None is = tt
    after_broadcast_V why (Some journey) is = waits_V why (broadcast_by journey.way) (broadcast_have P journey.way is)

    after_producer_V : (o : Option Producer) → O (after_producer s ws o)
    after_producer_V o = grind (arith, if_with, after_broadcast_V, first_J)

    after_older_store_V : (p : Passage) (o : Option Journey) → OJ P o → O (after_older_store s p o)
    after_older_store_V p o is = grind (arith, if_with, waits_V, broadcast_have)

    after_stores_known_V : (p : Passage) → O (after_stores_known s ws p)
    after_stores_known_V p = grind (arith, if_with, after_older_store_V, first_J)

    hold_among_V : (kind : Kind) (hs : List UnitHold) → AreHoldsOf P hs → OU (hold_among s kind hs)
    hold_among_V kind [] are = tt
    hold_among_V kind (h ∷ hs) are = grind (arith, hold_among_V kind hs are.1)

    after_hold_of_V : (kind : Kind) (o : Option UnitHold) → OU o → O (after_hold_of kind o)
    after_hold_of_V kind None is = tt
    after_hold_of_V kind (Some hold) is = waits_V _ hold.event is

    after_issue_V : (kind : Kind) (o : Option Journey) → OJ P o → O (after_issue kind o)
    after_issue_V kind None is = tt
    after_issue_V kind (Some journey) is = waits_V _ (issued_by journey.way) (issued_have P journey.way is)

    after_units_V : (kind : Kind) → O (after_units s ws kind)
    after_units_V kind = grind (arith, if_with, after_issue_V, last_J, after_hold_of_V, hold_among_V)

    after_units_of_V : (o : Option Kind) → O (after_units_of s ws o)
    after_units_of_V None = tt
    after_units_of_V (Some kind) = after_units_V kind

    issue_after_V : (p : Passage) → O (issue_after s ws p)
    issue_after_V p = grind (arith, or_with, after_producer_V, after_stores_known_V, after_units_of_V, after_port_V)

    -- it holds of what an issue waits for
    pub issue_wait_V : (p : Passage) (w : Way) → IsWayOf P w → V (issue_wait s ws p w)
    issue_wait_V p w is =
        let event = dispatched_have P w is in
        if_with V (is_just_before s.number p.dispatched) (waits_V _ (dispatched_by w) event)
        (unwrap_with V (issue_after s ws p) (waits cause.Other (dispatched_by w)) (issue_after_V p)
        (waits_V _ (dispatched_by w) event))

    after_bus_V : O (after_bus s ws)
    after_bus_V = grind (arith, if_with, after_broadcast_V, last_J)

    -- it holds of what a broadcast waits for
    pub broadcast_wait_V : (p : Passage) (w : Way) → IsWayOf P w → V (broadcast_wait s ws p w)
    broadcast_wait_V p w is = grind (arith, issued_have, if_with, waits_V, unwrap_with, after_bus_V)
