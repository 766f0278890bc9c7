-- A path that follows a run: no cycle yet, room for one more, and one cycle more.
use Rattle.std.proofs.Common.{◌≡◌, ◌∙◌, List, [], ◌∷◌, Some, drop, length, replicate, subst, sym, arith}
use Rattle.rv_hardware.specs.Hardware.{Hardware}
use Rattle.rv_passage.specs.Table.{table_at}
use Rattle.rv_passage.specs.declared.passage.Passage.{Passage}
use Rattle.rv_causes.specs.Event.{nothing_yet, with_events}
use Rattle.rv_causes.specs.Keeping.{ArePathsKept, IsFollowed, IsKnown, known_of_path}
use Rattle.rv_causes.specs.Keeping.{known_shown, made_shown, setting_shown}
use Rattle.rv_causes.specs.Path.{Known, known_at, known_in}
use Rattle.rv_causes.specs.Reading.{CycleRead}
use Rattle.rv_causes.specs.Way.{way_from}
use Rattle.rv_causes.specs.Window.{IsWindow, Passes, kept_events}
use Rattle.rv_causes.specs.Within.{AreKnown}
use Rattle.rv_causes.specs.declared.{event.Event.Event, path.Path.Path}
use Rattle.rv_causes.proofs.Cycles.{cycle_keeps}
use Rattle.rv_causes.proofs.EventLists.{known_implies, replicate_have}
use Rattle.rv_causes.proofs.Lives.{live_in, live_out}
use Rattle.rv_causes.proofs.Passing.{Leads, leads_kept, passes_followed, window_followed}

-- a path to the event passes the window of a path
abbrev pub PassesIn : Path → Event → Type 0
PassesIn path event = Passes path.window (Some event.at)

-- no cycle yet
pub pathing_nothing : (first : Hardware) (path : Path) (rows : List Passage) → rows ≡ (table_at first).rows
    → drop path.dropped path.ways.items ≡ replicate (length rows) (way_from nothing_yet) → path.holds.items ≡ []
    → path.before ≡ (known_at first).before → IsWindow path.window (nothing_yet ∷ []) → PassesIn path nothing_yet
    → IsKnown path (known_at first)
pathing_nothing first path rows rows_are ways holds before window passes = grind (arith, replicate_have)

-- room for one more
pub pathing_still : (path path' : Path) (k : Known) →
    ((events : List Event) → known_of_path path' events ≡ known_of_path path events)
    → ArePathsKept path path' → IsKnown path k → IsKnown path' k
pathing_still path path' k same kept on =
    let here : AreKnown (PassesIn path) (known_of_path path k.events) =
    subst (AreKnown (PassesIn path)) (sym on.known) on.passes in
    let still = kept (live_in path.window.root (kept_events path.window) (known_of_path path k.events) here) in
    record {
      known = same k.events ∙ on.known;
      window = still.0 k.events on.window;
      passes = subst (AreKnown (PassesIn path')) on.known
          (live_out path'.window.root (kept_events path'.window) (known_of_path path k.events) still.1);
    }

-- what is known after a cycle that is read
pub followed_on : (path path' : Path) (cycle : CycleRead) (k : Known) → IsKnown path k
    → ((events : List Event) →
    known_of_path path' (with_events (made_shown cycle (known_of_path path events)) events)
    ≡ known_shown cycle (known_of_path path events))
    → IsFollowed (made_shown cycle (known_of_path path [])) path.window path'.window
    → IsKnown path' (known_shown cycle (known_of_path path k.events))
followed_on path path' cycle k on followed made_is =
    let old = known_of_path path k.events in
    let made = made_shown cycle old in
    let s = setting_shown cycle old in
    let root = path.window.root in
    let kept = kept_events path.window in
    let here : AreKnown (PassesIn path) old = subst (AreKnown (PassesIn path)) (sym on.known) on.passes in
    let lead =
    cycle_keeps s (Leads root) (leads_kept s.elapsed root) kept old.ways cycle.steps cycle.after here.holds
    here.before here.ways in
    let pass = known_implies (Leads root (with_events made kept)) (PassesIn path')
    (passes_followed made path.window path'.window made_is)
    (known_in s old.ways kept cycle.steps cycle.after) lead in
    record {
      known = followed k.events;
      window = window_followed made path.window path'.window k.events made_is on.window;
      passes = record { ways = pass.ways; holds = pass.holds; before = pass.before };
    }
