-- Events that are not marked: those of the cycles before a window, without which a path has all that are.
use Rattle.std.proofs.Common.{◌≡◌, ◌∙◌, ℕ, ◌<◌, Bool, true, false, List, [], ◌∷◌, ◌++◌, Option, refl, sym, ap, arith}
use Rattle.std.proofs.Common.{append_assoc, append-nil}
use Rattle.std.proofs.lemmas.Bool.{lt-leb}
use Rattle.std.proofs.lemmas.List.Elements.{filter-append}
use Rattle.std.specs.Prelude.{if◌then◌else◌, ◌&&◌, filter, reverse}
use Rattle.rv_causes.specs.Event.{nothing_yet, with_events}
use Rattle.rv_causes.specs.Keeping.{IsFollowed}
use Rattle.rv_causes.specs.Marked.{is_marked}
use Rattle.rv_causes.specs.Walk.{AreInTime, is_wanted, path_to}
use Rattle.rv_causes.specs.Window.{IsWindow, kept_events}
use Rattle.rv_causes.specs.WindowFrom.{AreUnmarked, HasAllMarked}
use Rattle.rv_causes.specs.declared.{event.Event.Event, point.Point.Point, window.Window.Window}
use Rattle.rv_causes.proofs.Passing.{kept-followed, with-reverse}
use Rattle.rv_causes.proofs.Walks.{path_to-append}

and-false : (b : Bool) → (b && false) ≡ false
and-false true = refl
and-false false = refl

-- one that comes before a window
unmarked_before : (from : ℕ) (event : Event) → event.cycle < from → is_marked from event ≡ false
unmarked_before from event before = grind (arith, lt-leb, and-false)

-- all of a run of fewer cycles
pub unmarked_in_time : (cycles from : ℕ) (events : List Event) → cycles < from → AreInTime cycles events →
    AreUnmarked from events
unmarked_in_time cycles from [] less within = tt
unmarked_in_time cycles from (event ∷ older) less within =
    let here : event.cycle < from = omega (arith, less, within.0) in
    (unmarked_before from event here, unmarked_in_time event.cycle from older here within.1)

-- the beginning of the run
pub unmarked_begin : (from : ℕ) → AreUnmarked from (nothing_yet ∷ [])
unmarked_begin from = (refl, tt)

unmarked-back : (from : ℕ) (xs ys : List Event) → AreUnmarked from (xs ++ ys) → AreUnmarked from ys
unmarked-back from [] ys are = are
unmarked-back from (x ∷ xs) ys are = unmarked-back from xs ys are.1

unmarked-by : (from : ℕ) (event : Event) (here : Bool) (found past_it : List Event) → is_marked from event ≡ false →
    AreUnmarked from found
    → AreUnmarked from past_it → AreUnmarked from (if here then event ∷ found else past_it)
unmarked-by from event true found past_it unmarked in_it later = (unmarked, in_it)
unmarked-by from event false found past_it unmarked in_it later = later

-- a path of such
unmarked-path : (from : ℕ) (events : List Event) (wanted : Option Point) → AreUnmarked from events →
    AreUnmarked from (path_to events wanted)
unmarked-path from [] wanted are = tt
unmarked-path from (event ∷ older) wanted are =
    unmarked-by from event (is_wanted wanted event) (path_to older event.before) (path_to older wanted) are.0
    (unmarked-path from older event.before are.1) (unmarked-path from older wanted are.1)

none-marked : (from : ℕ) (events : List Event) → AreUnmarked from events → filter (is_marked from) events ≡ []
none-marked from [] are = refl
none-marked from (event ∷ events) are =
    ap (λ b. if b then event ∷ filter (is_marked from) events else filter (is_marked from) events) are.0
    ∙ none-marked from events are.1

-- those of a path that are marked lie in its part in a window
pub marked-kept : (from : ℕ) (window : Window) (all : List Event) (wanted : Option Point) → HasAllMarked from window all
    → filter (is_marked from) (path_to (kept_events window) wanted) ≡ filter (is_marked from) (path_to all wanted)
marked-kept from window all wanted has =
    grind (arith, none-marked, unmarked-path, path_to-append, filter-append, append-nil)

-- a window on events that are all unmarked has all that are marked
pub has_all_of : (from : ℕ) (window : Window) (all : List Event) → IsWindow window all → AreUnmarked from all →
    HasAllMarked from window all
has_all_of from window all is unmarked = grind (arith, unmarked-back)

-- one with the same events, and one with some more
pub has_all_same : (from : ℕ) (old new : Window) (all : List Event) → new.events.items ≡ old.events.items →
    HasAllMarked from old all
    → HasAllMarked from new all
has_all_same from old new all same has = grind arith

-- a window that has all marked events of a path has them after new events too
pub has_all_followed : (from : ℕ) (made : List Event) (old new : Window) (all : List Event) → IsFollowed made old new →
    HasAllMarked from old all
    → HasAllMarked from new (with_events made all)
has_all_followed from made old new all followed has = record {
  older = has.older;
  all_are =
      with-reverse made all ∙ ap (λ (es : List Event). reverse made ++ es) has.all_are
      ∙ sym (append_assoc (reverse made) (kept_events old) has.older)
      ∙ ap (λ (es : List Event). es ++ has.older) (sym (with-reverse made (kept_events old))
      ∙ kept-followed made old new followed);
  unmarked = has.unmarked;
}
