-- Events from the newest back, where the newest is the last.
use Rattle.std.proofs.Common.{◌≡◌, ◌∙◌, ℕ, ◌+◌, ◌-◌, ◌<◌, ◌≤◌, List, [], ◌∷◌, ◌++◌, Option, None, length, get_or, drop}
use Rattle.std.proofs.Common.{take, sym, ap, arith}
use Rattle.std.specs.Prelude.{reverse}
use Rattle.std.proofs.lemmas.List.{drop_more, reverse-append, take-append-drop, take_more}
use Rattle.rv_causes.specs.Meeting.{IsAmong, passed}
use Rattle.rv_causes.specs.Walk.{AllComeTo, beyond}
use Rattle.rv_causes.specs.declared.{point.Point.Point, event.Event.Event}
use Rattle.rv_causes.specs.declared.cause.Cause.TheVariants as cause
use Rattle.rv_causes.specs.declared.point.Stage.TheVariants as stage
use Rattle.rv_causes.proofs.Meetings.{passed-come, passed-covers}
use Rattle.rv_causes.proofs.Walks.{beyond-append}

-- what stands for an event past the end
abbrev pub any_event : Event
any_event = record {
  at = record { stage = stage.Begin; number = 0 };
  cycle = 0;
  before = None;
  reason = record { cause = cause.BeforeFirst; address = None };
  refill = None;
}

-- the newest is the last
pub reverse-push : {X : Type 0} (xs : List X) (x : X) → reverse (xs ++ x ∷ []) ≡ x ∷ reverse xs
reverse-push xs x = reverse-append xs (x ∷ [])

-- a list backwards is what comes after its first so many backwards, and then these backwards
pub reverse-split : {X : Type 0} (n : ℕ) (xs : List X) → reverse xs ≡ reverse (drop n xs) ++ reverse (take n xs)
reverse-split n xs = ap reverse (sym (take-append-drop n xs)) ∙ reverse-append (take n xs) (drop n xs)

-- one event further back
module _ (events : List Event) (place : ℕ) (some : 0 < place) (within : place ≤ length events) where
  abbrev event : Event
  event = get_or events (place - 1) any_event

  same : place ≡ (place - 1) + 1
  same = omega arith

  inside : place - 1 < length events
  inside = omega arith

  pub older-first : reverse (take place events) ≡ event ∷ reverse (take (place - 1) events)
  older-first =
      ap (λ n. reverse (take n events)) same ∙ ap reverse (take_more events (place - 1) any_event inside)
      ∙ reverse-push (take (place - 1) events) event

  pub newer-last : reverse (drop (place - 1) events) ≡ reverse (drop place events) ++ event ∷ []
  newer-last =
      ap reverse (drop_more events (place - 1) any_event inside)
      ∙ reverse-append (event ∷ []) (drop (place - 1 + 1) events)
      ∙ ap (λ n. reverse (drop n events) ++ event ∷ []) (sym same)

  -- one event further back, what is wanted past the events is still among the points that are left
  pub meet-covers : (points left : List Point) (wanted : Option Point) → left ≡ passed event points
      → IsAmong (beyond (reverse (drop place events)) wanted) points
      → IsAmong (beyond (reverse (drop (place - 1) events)) wanted) left
  meet-covers points left wanted left_is among = grind (arith, newer-last, beyond-append, passed-covers)

  -- one event further back, all points that are left come to the root through the older events
  pub meet-come : (points left : List Point) (root : Option Point) → left ≡ passed event points →
      AllComeTo root (reverse (take place events)) points
      → AllComeTo root (reverse (take (place - 1) events)) left
  meet-come points left root left_is come = grind (arith, passed-come, older-first)
