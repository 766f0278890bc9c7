-- What holds of all that is known when a cycle begins, and is kept with each new event, holds of all that is known after it.
use Rattle.std.proofs.Common.{◌≡◌, ℕ, List, [], ◌∷◌, ◌++◌, length, arith, Option, Some, None, subst, sym}
use Rattle.std.specs.Prelude.{Bool, true, false, IfSome, slice_get, ◌&&◌, if◌then◌else◌}
use Rattle.std.specs.Option.{option_or}
use Rattle.rv_hardware.specs.declared.step.Step.{Step}
use Rattle.rv_isa.specs.declared.{issues.Issue.Issue, operations.Kind.Kind}
use Rattle.rv_passage.specs.declared.passage.Passage.{Passage}
use Rattle.rv_rob.specs.declared.entry.Entry.{Entry}
use Rattle.rv_causes.specs.Event.{Wait, waits, with_events}
use Rattle.rv_causes.specs.Fetching.{after_redirection, after_room, after_word, anew_by, fetch_event, fetch_wait}
use Rattle.rv_causes.specs.Fetching.{fetched_by, goes_on, mend_of, new_fetched, room_of}
use Rattle.rv_causes.specs.Holding.{drain_event, hold_of, hold_of_kind, lines_hold, load_hold, new_holds, port_event}
use Rattle.rv_causes.specs.Holding.{port_taken, taken_event}
use Rattle.rv_causes.specs.Leaving.{interrupt_event, is_interrupted, leaving_of, left_events, lines_event}
use Rattle.rv_causes.specs.Lookup.{Journey, one_before}
use Rattle.rv_causes.specs.Moving.{all_moved, all_new}
use Rattle.rv_causes.specs.Path.{interrupt_taken, known_by, known_in, ways_by}
use Rattle.rv_causes.specs.Reading.{HardwareRead}
use Rattle.rv_causes.specs.Setting.{Setting}
use Rattle.rv_causes.specs.Within.{AreHoldsOf, AreKnown, AreWaysOf, IsBeforeOf, IsWayOf}
use Rattle.rv_causes.specs.declared.{before.DrainHold.DrainHold, before.Facts.Facts, before.Holder.Holder}
use Rattle.rv_causes.specs.declared.{before.PortHold.PortHold, event.Event.Event, leaving.Leaving.Leaving}
use Rattle.rv_causes.specs.declared.{point.Reason.Reason, way.Way.Way}
use Rattle.rv_causes.specs.declared.before.Holder.TheVariants as holder
use Rattle.rv_causes.specs.declared.cause.Cause.TheVariants as cause
use Rattle.rv_causes.specs.declared.point.Stage.TheVariants as stage
use Rattle.rv_causes.proofs.Advances.{IsKnownBy, WaitsFor, known_by_implies, moved_up_to_K}
use Rattle.rv_causes.proofs.EventLists.{J, OJ, append_have, first_have, get_have, holds_append}
use Rattle.rv_causes.proofs.EventLists.{holds_filter, if_with, in_flight_have, last_have}
use Rattle.rv_causes.proofs.EventLists.{before_implies, holds_imply, one_before_have}
use Rattle.rv_causes.proofs.EventLists.{or_with, replicate_have, unwrap_with, ways_imply}
use Rattle.rv_causes.proofs.Leavings.{drain_new, interrupt_new, leaving_implies, leaving_new, left_events_are}
use Rattle.rv_causes.proofs.Leavings.{left_events_have, lines_new}
use Rattle.rv_causes.proofs.News.{AllOf, IsKept, IsNew, all_back, all_both, all_front}
use Rattle.rv_causes.proofs.News.{all_imply, all_new_have, known_still, new_implies}
use Rattle.rv_causes.proofs.News.{wait_has, wait_still, with_both}
use Rattle.rv_causes.proofs.Waits.{broadcast_have, dispatched_have, issued_have, since_left_V}

-- a hold of the port is a load's from a known event, or another one from a new one
abbrev pub TakenBy : (Event → Type 0) → (Event → Type 0) → Holder → Event → Type 0
TakenBy P N holder.Drain event = N event
TakenBy P N holder.Load event = P event
TakenBy P N holder.Lines event = N event

abbrev pub IsTakenBy : (Event → Type 0) → (Event → Type 0) → PortHold → Type 0
IsTakenBy P N hold = TakenBy P N hold.holder hold.event

taken_events : (P N : Event → Type 0) (by : Holder) (event : Event) → TakenBy P N by event →
    AllOf N (taken_event by event)
taken_events P N by event is = grind arith

port_events : (P N : Event → Type 0) (o : Option PortHold) → IfSome o (IsTakenBy P N) → AllOf N (port_event o)
port_events P N None is = tt
port_events P N (Some hold) is = taken_events P N hold.holder hold.event is

taken_has : (P N Q : Event → Type 0) → ((event : Event) → P event → Q event) → (by : Holder) (event : Event) →
    TakenBy P N by event
    → AllOf Q (taken_event by event) → Q event
taken_has P N Q implies by event is are = grind arith

port_has : (P N Q : Event → Type 0) → ((event : Event) → P event → Q event) → (o : Option PortHold) →
    IfSome o (IsTakenBy P N)
    → AllOf Q (port_event o) → IfSome o (λ hold. Q hold.event)
port_has P N Q implies None is are = tt
port_has P N Q implies (Some hold) is are = taken_has P N Q implies hold.holder hold.event is are

-- where a drain begins, it takes the port
drain_has : (Q : Event → Type 0) (taken begun : Bool) (drain : DrainHold) (hold : PortHold) (other : Option PortHold)
    → hold.holder ≡ holder.Drain → hold.event ≡ drain.event
    → AllOf Q (port_event (if taken then (if begun then Some hold else other) else None))
    → IfSome (if taken && begun then Some drain else None) (λ d. Q d.event)
drain_has Q taken begun drain hold other by same are = grind arith

-- how the fetch goes on, where all that is known has something
module _ (s : Setting) (P : Event → Type 0) (ws : List Way) (leaving : Leaving) (known : IsKnownBy P s leaving ws) where
  abbrev V : Wait → Type 0
  V waited = WaitsFor P waited

  abbrev O : Option Wait → Type 0
  O waited = IfSome waited V

  anew_by_V : (why : Option Reason) (o : Option Event) → IfSome o P → O (anew_by why o)
  anew_by_V why o is = grind arith

  mend_of_V : (entry : Option Entry) (o : Option Journey) → OJ P o → O (mend_of s entry o)
  mend_of_V entry o is = grind (arith, if_with, broadcast_have)

  after_redirection_V : (interrupted : Bool) (after : HardwareRead) (first : Passage) →
      AllOf P (interrupt_taken s interrupted)
      → O (after_redirection s ws interrupted leaving after first)
  after_redirection_V interrupted after first are = grind (arith, or_with, anew_by_V, if_with, mend_of_V, last_have)

  after_word_V : (last : Journey) → J P last → O (after_word s ws last)
  after_word_V last is = grind (arith, if_with)

  room_of_V : (p : Option Passage) (w : Option Way) → IfSome w (IsWayOf P) → O (room_of s p w)
  room_of_V p w is = grind (arith, if_with, dispatched_have)

  after_room_V : O (after_room s ws)
  after_room_V = grind (arith, if_with, room_of_V, get_have)

  goes_on_V : (o : Option Journey) → OJ P o → V (goes_on s ws o)
  goes_on_V None is =
      since_left_V s P (WaitsFor P) (λ why event has. has) known.holds known.before cause.Other
  goes_on_V (Some last) is =
      unwrap_with V (option_or (after_word s ws last) (after_room s ws)) (waits cause.Other last.way.fetch)
      (or_with V (after_word s ws last) (after_room s ws) (after_word_V last is) after_room_V) is.fetch

  pub fetch_wait_V : (interrupted : Bool) (after : HardwareRead) (first : Passage) →
      AllOf P (interrupt_taken s interrupted)
      → V (fetch_wait s ws interrupted leaving after first)
  fetch_wait_V interrupted after first are =
      let last = one_before (length ws) s.rows ws in
      unwrap_with V (after_redirection s ws interrupted leaving after first) (goes_on s ws last)
      (after_redirection_V interrupted after first are)
      (goes_on_V last (one_before_have P (length ws) s.rows ws known.ways))

-- the holds of units that begin in a cycle, and that of the port
module _ (s : Setting) (P : Event → Type 0) where
  hold_of_kind_has : (p : Passage) (w : Way) (issue : Issue) (o : Option Kind) → IsWayOf P w
      → AreHoldsOf P (hold_of_kind s.values p w issue o)
  hold_of_kind_has p w issue o is = grind (arith, if_with, issued_have)

  hold_of_has : (p : Passage) (w : Way) (o : Option Issue) → IsWayOf P w →
      AreHoldsOf P (hold_of s.number s.values p w o)
  unfolding hold_of
  hold_of_has p w o is = grind (arith, if_with, hold_of_kind_has)

  pub new_holds_have : (ps : List Passage) (ws : List Way) → AreWaysOf P ws →
      AreHoldsOf P (new_holds s.number s.values ps ws)
  new_holds_have [] ws are = tt
  new_holds_have (p ∷ ps) [] are = tt
  new_holds_have (p ∷ ps) (w ∷ ws) are = grind (arith, holds_append, hold_of_has, new_holds_have ps ws are.1)

  load_hold_has : (N : Event → Type 0) (until : ℕ) (o : Option Journey) → OJ P o →
      IfSome (load_hold until o) (IsTakenBy P N)
  load_hold_has N until None is = tt
  load_hold_has N until (Some load) is = issued_have P load.way is

  lines_hold_has : (N : Event → Type 0) (leaving : Leaving) (until : ℕ) (o : Option Journey)
      → ((p : Passage) (w : Way) → IsWayOf P w → N (lines_event s leaving p w)) → OJ P o
      → IfSome (lines_hold s leaving until o) (IsTakenBy P N)
  lines_hold_has N leaving until None new is = tt
  lines_hold_has N leaving until (Some head) new is = new head.row head.way is

  pub port_taken_has : (N : Event → Type 0) (ws : List Way) (leaving : Leaving) (facts : Facts) → AreWaysOf P ws →
      N (drain_event s leaving)
      → ((p : Passage) (w : Way) → IsWayOf P w → N (lines_event s leaving p w)) →
      IfSome (port_taken s ws leaving facts) (IsTakenBy P N)
  port_taken_has N ws leaving facts are drain lines =
      grind (arith, if_with, or_with, load_hold_has, first_have, lines_hold_has)

module _ (s : Setting) (P : List Event → Event → Type 0) (kept : IsKept s.elapsed P) where
  interrupts_new : (Q : Event → Type 0) (interrupted : Bool) → Q (interrupt_event s) →
      AllOf Q (interrupt_taken s interrupted)
  interrupts_new Q true is = (is, tt)
  interrupts_new Q false is = tt

  fetched_have : (Q : Event → Type 0) (o : Option Event) (count : ℕ) → IfSome o Q → AreWaysOf Q (ways_by o count)
  fetched_have Q o count is = grind (arith, replicate_have)

  -- the words that are fetched, and all that is known before them
  module _ (all : List Event) (ws : List Way) (leaving : Leaving) (interrupted : Bool) (after : HardwareRead)
      (known : IsKnownBy (P all) s leaving ws)
      (taken : AllOf (P all) (interrupt_taken s interrupted)) where
    fetched_waits : (first : Passage) → P all (fetch_wait s ws interrupted leaving after first).event
    fetched_waits first = fetch_wait_V s (P all) ws leaving known interrupted after first taken

    pub fetch_has : (o : Option Passage)
        → IfSome (fetched_by s ws interrupted leaving after o)
        (P (with_events (new_fetched s ws interrupted leaving after o) all))
    fetch_has o = grind (arith, wait_has, fetched_waits)

    pub fetch_still : (o : Option Passage) (event : Event) → P all event
        → P (with_events (new_fetched s ws interrupted leaving after o) all) event
    fetch_still None event is = is
    fetch_still (Some first) event is =
        wait_still s.elapsed P kept all s.refilled
        (record { stage = stage.Fetch; number = first.number }) (Some first.pc)
        (fetch_wait s ws interrupted leaving after first) (fetched_waits first) event is

  -- what is known after the cycle, by the list of all events then
  known_next : (Q : Event → Type 0) (now : List Way) (steps : List Step) (after : HardwareRead) (leaving : Leaving) →
      IsKnownBy Q s leaving now
      → IfSome (fetch_event s now (is_interrupted steps) leaving after) Q →
      AllOf Q (interrupt_taken s (is_interrupted steps))
      → AllOf Q (port_event (port_taken s now leaving after.facts))
      → IfSome (port_taken s now leaving after.facts) (λ hold. Q hold.event)
      → (old : List Way) (all : List Event) → AreKnown Q (known_by s old now all steps after leaving)
  known_next Q now steps after leaving known fetch interrupts ports port old all =
      grind (
        arith,
        in_flight_have,
        append_have,
        fetched_have,
        holds_append,
        holds_filter,
        new_holds_have,
        or_with,
        drain_has,
      )

  -- those of the cycle one after another
  in_turn : (left moves interrupts ports fetches all : List Event)
      → with_events (left ++ (moves ++ (interrupts ++ (ports ++ fetches)))) all
      ≡ with_events fetches (with_events (interrupts ++ ports) (with_events moves (with_events left all)))
  in_turn left moves interrupts ports fetches all = grind (arith, with_both)

  -- those that leave, and what is known with them
  left_known : (all : List Event) (old : List Way) → AreHoldsOf (P all) s.holds → IsBeforeOf (P all) s.before
      → AreWaysOf (P all) old →
      IsKnownBy (P (with_events (left_events (leaving_of s old)) all)) s (leaving_of s old) old
  left_known all old holds before old-are =
      let leaving = leaving_of s old in
      let left = left_events leaving in
      let gone = leaving_new s (P all) holds before old old-are in
      let new = left_events_have (IsNew (P all) s.elapsed) leaving gone in
      let now = P (with_events left all) in
      let still = known_still s.elapsed P kept all left new in
      record {
        holds = holds_imply (P all) now still s.holds holds;
        before = before_implies (P all) now still s.before before;
        gone = left_events_are now leaving (all_new_have s.elapsed P kept all left new);
        new = leaving_implies (IsNew (P all) s.elapsed) (IsNew now s.elapsed)
            (new_implies (P all) now s.elapsed still) leaving gone;
        ways = ways_imply (P all) now still old old-are;
      }

  -- what is known after the cycle
  pub cycle_keeps : (all : List Event) (old : List Way) (steps : List Step) (after : HardwareRead) →
      AreHoldsOf (P all) s.holds
      → IsBeforeOf (P all) s.before → AreWaysOf (P all) old
      → AreKnown (P (known_in s old all steps after).events) (known_in s old all steps after)
  cycle_keeps all old steps after holds before old-are =
      let interrupted = is_interrupted steps in
      let leaving = leaving_of s old in
      let now = all_moved s leaving old in
      let left = left_events leaving in
      let moves = all_new s leaving old in
      let moved = with_events moves (with_events left all) in
      let known = moved_up_to_K s P kept leaving (with_events left all) old (length old)
      (left_known all old holds before old-are) in
      let N = IsNew (P moved) s.elapsed in
      let interrupts = interrupt_taken s interrupted in
      let taken = port_taken s now leaving after.facts in
      let ports = port_event taken in
      let taken-is = port_taken_has s (P moved) N now leaving after.facts known.ways
      (drain_new s (P moved) known.holds known.before leaving known.new)
      (λ p w is. lines_new s (P moved) known.holds known.before leaving p w known.new is) in
      let interrupts-new = interrupts_new N interrupted (interrupt_new s (P moved) known.holds known.before) in
      let new = all_both N interrupts ports interrupts-new (port_events (P moved) N taken taken-is) in
      let beside = with_events (interrupts ++ ports) moved in
      let still = known_still s.elapsed P kept moved (interrupts ++ ports) new in
      let are = all_new_have s.elapsed P kept moved (interrupts ++ ports) new in
      let known-beside = known_by_implies (P moved) (P beside) still s leaving now known in
      let interrupts-beside = all_front (P beside) interrupts ports are in
      let first = slice_get s.rows (length now) in
      let end = with_events (new_fetched s now interrupted leaving after first) beside in
      let on = fetch_still beside now leaving interrupted after known-beside interrupts-beside first in
      let fetch = fetch_has beside now leaving interrupted after known-beside interrupts-beside first in
      let ports-end = all_imply (P beside) (P end) on ports (all_back (P beside) interrupts ports are) in
      let port = port_has (P moved) N (P end) (λ event is. on event (still event is)) taken taken-is ports-end in
      let known-end = known_by_implies (P beside) (P end) on s leaving now known-beside in
      let events = in_turn left moves interrupts ports (new_fetched s now interrupted leaving after first) all in
      subst (λ (all-now : List Event). AreKnown (P all-now) (known_in s old all steps after)) (sym events)
      (known_next (P end) now steps after leaving known-end fetch
      (all_imply (P beside) (P end) on interrupts interrupts-beside)
      ports-end port old all)
