-- The marks of events: those of some more, and those of a path, which lie in its part in a window.
use Rattle.std.proofs.Common.{◌≡◌, ◌∙◌, ℕ, List, ◌++◌, Option, ap}
use Rattle.std.proofs.lemmas.List.{map-append}
use Rattle.std.proofs.lemmas.List.Elements.{filter-append}
use Rattle.std.specs.Prelude.{filter, map}
use Rattle.rv_causes.specs.Marked.{is_marked}
use Rattle.rv_causes.specs.Walk.{path_to}
use Rattle.rv_causes.specs.Window.{kept_events}
use Rattle.rv_causes.specs.WindowFrom.{HasAllMarked}
use Rattle.rv_causes.specs.declared.{event.Event.Event, point.Point.Point, window.Window.Window}
use Rattle.rv_causes.proofs.Unmarked.{marked-kept}
use Rattle.rv_path.specs.Marking.{mark_of, marks_of}

-- the marks of some events more
pub marks_append : (from : ℕ) (number : ℕ → ℕ) (xs ys : List Event)
    → marks_of from number (xs ++ ys) ≡ marks_of from number xs ++ marks_of from number ys
marks_append from number xs ys =
    ap (map (mark_of from number)) (filter-append (is_marked from) xs ys)
    ∙ map-append (mark_of from number) (filter (is_marked from) xs) (filter (is_marked from) ys)

-- the marks of a path are those of its part in a window
pub marks-kept : (from : ℕ) (number : ℕ → ℕ) (window : Window) (all : List Event) (wanted : Option Point) →
    HasAllMarked from window all
    → marks_of from number (path_to (kept_events window) wanted) ≡ marks_of from number (path_to all wanted)
marks-kept from number window all wanted has = ap (map (mark_of from number)) (marked-kept from window all wanted has)
