-- What comes of the instructions of a cycle: their events are known ones or new.
use Rattle.std.proofs.Common.{ℕ, zero, suc, ◌+◌, List, [], ◌∷◌, Option, Some, None, subst, sym, arith}
use Rattle.std.specs.Prelude.{IfSome, slice_get, ◌==◌}
use Rattle.std.specs.Option.{option_or}
use Rattle.rv_isa.specs.declared.operations.Kind.{Kind}
use Rattle.rv_passage.specs.Result.{issued_in}
use Rattle.rv_passage.specs.declared.passage.Passage.{Passage}
use Rattle.rv_causes.specs.Event.{Wait, again_by, waits, with_events}
use Rattle.rv_causes.specs.Lookup.{Journey, journey_of, one_before}
use Rattle.rv_causes.specs.Moving.{Move, advance_of, advanced, after_previous, dispatch_wait, issue_of, moved_at}
use Rattle.rv_causes.specs.Moving.{moved_by, moved_up_to, new_advanced, new_at, new_at_one, new_up_to, room_by_issue}
use Rattle.rv_causes.specs.Moving.{room_for}
use Rattle.rv_causes.specs.Setting.{Setting, made_of}
use Rattle.rv_causes.specs.Sought.{is_at}
use Rattle.rv_causes.specs.Way.{with_stage}
use Rattle.rv_causes.specs.Within.{AreHoldsOf, AreWaysOf, IsBeforeOf, IsWayOf}
use Rattle.rv_causes.specs.declared.{cause.Cause.Cause, event.Event.Event, leaving.Leaving.Leaving}
use Rattle.rv_causes.specs.declared.{point.Point.Point, point.Stage.Stage, way.Way.Way}
use Rattle.rv_causes.specs.declared.cause.Cause.TheVariants as cause
use Rattle.rv_causes.proofs.EventLists.{J, OJ, first_have, get_have, if_with, journey_have}
use Rattle.rv_causes.proofs.EventLists.{one_before_have, or_with, set_have, unwrap_with}
use Rattle.rv_causes.proofs.EventLists.{before_implies, holds_imply, ways_imply}
use Rattle.rv_causes.proofs.Leavings.{AreLeavingOf, leaving_implies}
use Rattle.rv_causes.proofs.News.{IsKept, IsNew, new_implies, wait_has, wait_still, with_both}
use Rattle.rv_causes.proofs.Waits.{after_drain_V, broadcast_wait_V, dispatched_have, issue_wait_V, issued_have}

-- what a wait is for is a known one
abbrev pub WaitsFor : (Event → Type 0) → Wait → Type 0
WaitsFor P waited = P waited.event

pub again_have : (P : Event → Type 0) (o : Option Event) → IfSome o P → IfSome (again_by o) (WaitsFor P)
again_have P None is = tt
again_have P (Some event) is = is

-- an instruction that is found has an event at a stage
pub stage_has : (P : Event → Type 0) (stage : Stage) (event : Event) (w : Way) → P event → IsWayOf P w
    → IsWayOf P (with_stage stage event w)
stage_has P stage event w is are = grind arith

module _ (s : Setting) (P : Event → Type 0) (holds : AreHoldsOf P s.holds) (before : IsBeforeOf P s.before)
    (ws : List Way) (ws-are : AreWaysOf P ws) (leaving : Leaving) (gone : AreLeavingOf P leaving) where
  abbrev V : Wait → Type 0
  V waited = WaitsFor P waited

  abbrev O : Option Wait → Type 0
  O waited = IfSome waited V

  waits_V : (why : Cause) (event : Event) → P event → V (waits why event)
  waits_V why event is = is

  issue_of_V : (o : Option Journey) → OJ P o → O (issue_of o)
  issue_of_V None is = tt
  issue_of_V (Some journey) is = issued_have P journey.way is

  room_by_issue_V : (o : Option Kind) → O (room_by_issue s ws o)
  room_by_issue_V o = grind (arith, if_with, issue_of_V, first_have)

  room_for_V : (place : ℕ) (p : Passage) → O (room_for s ws leaving place p)
  room_for_V place p = grind (arith, or_with, if_with, again_have, room_by_issue_V, after_drain_V, waits_V)

  after_previous_V : (place : ℕ) (o : Option Journey) → OJ P o → O (after_previous s place o)
  after_previous_V place o is = grind (arith, dispatched_have, if_with)

  dispatch_wait_V : (p : Passage) (place : ℕ) (w : Way) → IsWayOf P w → V (dispatch_wait s ws leaving p place w)
  dispatch_wait_V p place w is =
      let last = one_before place s.rows ws in
      if_with V (p.fetched + 1 == s.number) is.fetch
      (unwrap_with V (option_or (after_previous s place last) (room_for s ws leaving place p))
      (waits cause.Other w.fetch)
      (or_with V (after_previous s place last) (room_for s ws leaving place p)
      (after_previous_V place last (one_before_have P place s.rows ws ws-are)) (room_for_V place p))
      is.fetch)

  pub advance_has : (place : ℕ) (p : Passage) (w : Way) → IsWayOf P w
      → IfSome (advance_of s leaving ws place p w) (λ (it : Move). P it.waited.event)
  advance_has place p w is =
      let OA = λ (o : Option Move). IfSome o (λ (it : Move). P it.waited.event) in
      if_with OA (is_at s.number p.dispatched) (dispatch_wait_V p place w is)
      (if_with OA (is_at s.number (issued_in p)) (issue_wait_V s P V waits_V holds before ws ws-are p w is)
      (if_with OA (is_at s.number p.broadcast) (broadcast_wait_V s P V waits_V holds before ws ws-are p w is) tt))

-- Something that is kept holds of all that is known, by the list of all events so far.
pub record IsKnownBy (P : Event → Type 0) (s : Setting) (leaving : Leaving) (ws : List Way) : Type 0 where
  pub holds : AreHoldsOf P s.holds
  pub before : IsBeforeOf P s.before
  pub gone : AreLeavingOf P leaving
  pub new : AreLeavingOf (IsNew P s.elapsed) leaving
  pub ways : AreWaysOf P ws

-- what is known of the events by one property is known by a weaker one
pub known_by_implies : (P Q : Event → Type 0) → ((event : Event) → P event → Q event) →
    (s : Setting) (leaving : Leaving) (ws : List Way)
    → IsKnownBy P s leaving ws → IsKnownBy Q s leaving ws
known_by_implies P Q implies s leaving ws is =
    grind (arith, holds_imply, before_implies, leaving_implies, new_implies, ways_imply)

module _ (s : Setting) (P : List Event → Event → Type 0) (kept : IsKept s.elapsed P) (leaving : Leaving) where
  abbrev K : List Event → List Way → Type 0
  K all ws = IsKnownBy (P all) s leaving ws

  -- one advances
  advanced_K : (all : List Event) (ws : List Way) (place : ℕ) (j : Journey) (o : Option Move) → K all ws → J (P all) j
      → IfSome o (λ (it : Move). P all it.waited.event) →
      K (with_events (new_advanced s j.row o) all) (advanced s place j o ws)
  advanced_K all ws place j None known is has = known
  advanced_K all ws place j (Some it) known is has =
      let at : Point = record { stage = it.stage; number = j.row.number } in
      let event = made_of s it.stage j.row it.waited in
      let now = P (with_events (new_advanced s j.row (Some it)) all) in
      let still = wait_still s.elapsed P kept all s.refilled at (Some j.row.pc) it.waited has in
      let next = known_by_implies (P all) now still s leaving ws known in
      let way = ways_imply (P all) now still (j.way ∷ []) (is, tt) in
      record {
        holds = next.holds;
        before = next.before;
        gone = next.gone;
        new = next.new;
        ways = set_have now ws place (with_stage it.stage event j.way) next.ways
            (stage_has now it.stage event j.way (wait_has s.elapsed P kept all s.refilled at (Some j.row.pc)
            it.waited has) way.0);
      }

  moved_by_K : (all : List Event) (ws : List Way) (place : ℕ) (o : Option Journey) → K all ws → OJ (P all) o
      → K (with_events (new_at_one s leaving place o ws) all) (moved_by s leaving place o ws)
  moved_by_K all ws place None known is = known
  moved_by_K all ws place (Some j) known is =
      advanced_K all ws place j (advance_of s leaving ws place j.row j.way) known is
      (advance_has s (P all) known.holds known.before ws known.ways leaving known.gone place j.row j.way is)

  moved_at_K : (all : List Event) (ws : List Way) (place : ℕ) → K all ws
      → K (with_events (new_at s leaving place ws) all) (moved_at s leaving place ws)
  moved_at_K all ws place known =
      let row = slice_get s.rows place in
      let way = slice_get ws place in
      moved_by_K all ws place (journey_of row way) known
      (journey_have (P all) row way (get_have (P all) ws place known.ways))

  -- and all of them
  pub moved_up_to_K : (all : List Event) (ws : List Way) (place : ℕ) → K all ws
      → K (with_events (new_up_to s leaving place ws) all) (moved_up_to s leaving place ws)
  moved_up_to_K all ws zero known = known
  moved_up_to_K all ws (suc place) known =
      let so_far = new_up_to s leaving place ws in
      let ways = moved_up_to s leaving place ws in
      subst (λ (events : List Event). K events (moved_up_to s leaving (suc place) ws))
      (sym (with_both so_far (new_at s leaving place ways) all))
      (moved_at_K (with_events so_far all) ways place (moved_up_to_K all ws place known))
