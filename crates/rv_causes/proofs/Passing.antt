-- The paths to all for which an event may wait come to one root, with each new event; and a window stands for all
-- events with the new ones.
use Rattle.std.proofs.Common.{◌≡◌, ◌∙◌, ℕ, List, [], ◌∷◌, ◌++◌, true, false, arith, Option, Some, refl, ap, sym, subst}
use Rattle.std.proofs.Common.{append_assoc}
use Rattle.std.specs.Prelude.{Bool, if◌then◌else◌, reverse, ◌&&◌}
use Rattle.std.proofs.lemmas.Bool.{eq-eqb}
use Rattle.std.proofs.lemmas.List.{reverse-append}
use Rattle.rv_causes.specs.Account.{account_of}
use Rattle.rv_causes.specs.Event.{with_events}
use Rattle.rv_causes.specs.Keeping.{IsFollowed}
use Rattle.rv_causes.specs.Point.{is_point, stage_place}
use Rattle.rv_causes.specs.Walk.{ComesTo, path_to}
use Rattle.rv_causes.specs.Window.{IsWindow, Passes, accounted, kept_events}
use Rattle.rv_causes.specs.declared.{event.Event.Event, point.Point.Point, window.Window.Window}
use Rattle.rv_causes.proofs.News.{IsKept, IsNew}
use Rattle.rv_causes.proofs.Windows.{come-push}

-- the path to an event comes to a root
abbrev pub Leads : Option Point → List Event → Event → Type 0
Leads root all event = ComesTo root all (Some event.at)

is_point-same : (p : Point) → is_point p p ≡ true
is_point-same p = λ i. eq-eqb (stage_place p.stage) (stage_place p.stage) refl i && eq-eqb p.number p.number refl i

come-found : (root : Option Point) (all : List Event) (event : Event) (here : Bool) → here ≡ true →
    ComesTo root all event.before
    → ComesTo root all (if here then event.before else Some event.at)
come-found root all event true found before = before
come-found root all event false found before = absurd (cc (found))

before-leads : (root : Option Point) (cycles : ℕ) (all : List Event) (event : Event) →
    IsNew (Leads root all) cycles event
    → ComesTo root all event.before
before-leads root cycles all event new = subst (ComesTo root all) (sym new.before) new.has

-- that events lead to a root is kept by each new one that waited for one that does
pub leads_kept : (cycles : ℕ) (root : Option Point) → IsKept cycles (Leads root)
leads_kept cycles root = grind (arith, come-found, is_point-same, before-leads, come-push)

-- some events before others, which come the other way round
pub with-reverse : (made events : List Event) → with_events made events ≡ reverse made ++ events
with-reverse [] events = refl
with-reverse (event ∷ made) events =
    with-reverse made (event ∷ events) ∙ sym (append_assoc (reverse made) (event ∷ []) events)
    ∙ ap (λ (es : List Event). es ++ events) (sym (reverse-append (event ∷ []) made))

-- the events that a window keeps, with new ones, are those that the window after them keeps
pub kept-followed : (made : List Event) (old new : Window) → IsFollowed made old new →
    with_events made (kept_events old) ≡ kept_events new
kept-followed made old new followed =
    with-reverse made (kept_events old) ∙ sym (reverse-append old.events.items made) ∙ ap reverse (sym followed.0)

-- a window after new events stands for all events with these
pub window_followed : (made : List Event) (old new : Window) (all : List Event) → IsFollowed made old new →
    IsWindow old all
    → IsWindow new (with_events made all)
window_followed made old new all followed is = record {
  older = is.older;
  all_are =
      with-reverse made all ∙ ap (λ (es : List Event). reverse made ++ es) is.all_are
      ∙ sym (append_assoc (reverse made) (kept_events old) is.older)
      ∙ ap (λ (es : List Event). es ++ is.older) (sym (with-reverse made (kept_events old))
      ∙ kept-followed made old new followed);
  account_is = ap accounted followed.2 ∙ is.account_is
      ∙ ap (λ (r : Option Point). account_of (path_to is.older r)) (sym followed.1);
}

-- an event that leads to the root of the old window is one that the new window can be left by
pub passes_followed : (made : List Event) (old new : Window) → IsFollowed made old new → (event : Event)
    → Leads old.root (with_events made (kept_events old)) event → Passes new (Some event.at)
passes_followed made old new followed event leads = grind (arith, kept-followed)
