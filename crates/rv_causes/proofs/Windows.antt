-- A window on all events of a run: another root, and the account of a path.
use Rattle.std.proofs.Common.{◌≡◌, ◌⊎◌, ◌∙◌, ℕ, List, [], ◌∷◌, ◌++◌, Option, Some, None, ◌≤◌, length, arith, drop, take}
use Rattle.std.proofs.Common.{refl, sym, ap, append_assoc, inl, inr}
use Rattle.std.specs.Prelude.{reverse, slice_get}
use Rattle.rv_causes.specs.Account.{Accounted, account_of}
use Rattle.rv_causes.specs.Meeting.{HasPoint, IsAmong}
use Rattle.rv_causes.specs.Walk.{AllComeTo, ComesTo, beyond, path_to}
use Rattle.rv_causes.specs.Window.{AllPass, AreAlike, IsMoved, IsWindow, Passes}
use Rattle.rv_causes.specs.Window.{account_at, account_to, accounted, kept_events}
use Rattle.rv_causes.specs.declared.{point.Point.Point, event.Event.Event, window.Window.Window}
use Rattle.rv_causes.proofs.Backwards.{reverse-split}
use Rattle.rv_causes.proofs.Accounts.{account-append}
use Rattle.rv_causes.proofs.Walks.{beyond-none, path_to-append, path_to-none}

-- where the beginning of the run is wanted, nothing is accounted
account_at-is : (wanted : Option Point) (older : List Event)
    → account_at wanted (account_of (path_to older wanted)) ≡ account_of (path_to older wanted)
account_at-is None older = ap account_of (sym (path_to-none older))
account_at-is (Some point) older = refl

account_at-none : (wanted : Option Point) (account : Accounted) (older : List Event) → wanted ≡ None
    → account_at wanted account ≡ account_of (path_to older wanted)
account_at-none wanted account older none = rw none (ap account_of (sym (path_to-none older)))

account_at-root : (root wanted : Option Point) (older : List Event) → wanted ≡ root
    → account_at wanted (account_of (path_to older root)) ≡ account_of (path_to older wanted)
account_at-root root wanted older is = grind (arith, account_at-is)

account_at-comes : (root : Option Point) (events older : List Event) (wanted : Option Point) →
    ComesTo root events wanted
    → account_at (beyond events wanted) (account_of (path_to older root))
    ≡ account_of (path_to older (beyond events wanted))
account_at-comes root events older wanted comes = grind (arith, account_at-root, account_at-none)

-- the account of a path by its part after the root
pub account_to-is : (root : Option Point) (events older : List Event) (wanted : Option Point) →
    ComesTo root events wanted
    → account_to events wanted (account_of (path_to older root)) ≡ account_of (path_to (events ++ older) wanted)
account_to-is root events older wanted comes = grind (arith, account_at-comes, account-append, path_to-append)

-- a walk that comes to the root still does with an event more whose own walk comes there
pub come-push : (root : Option Point) (events : List Event) (event : Event) (wanted : Option Point) →
    ComesTo root events event.before
    → ComesTo root events wanted → ComesTo root (event ∷ events) wanted
come-push root events event wanted before comes = grind arith

-- as it was, but for room
pub window_alike : (old new : Window) (all : List Event) → AreAlike old new → IsWindow old all → IsWindow new all
window_alike old new all alike is = grind arith

-- windows that are alike can be left by the same points
pub pass_alike : (old new : Window) (points : List Point) → AreAlike old new → AllPass old points → AllPass new points
pass_alike old new points alike pass = grind arith

-- another root
pub window_moved : (place : ℕ) (root : Option Point) (old new : Window) (all : List Event)
    → ComesTo old.root (reverse (take place old.events.items)) root → IsMoved place root old new
    → IsWindow old all → IsWindow new all
window_moved place root old new all comes moved is =
    let front = reverse (take place old.events.items) in
    let back = reverse (drop place old.events.items) in
    record {
      older = front ++ is.older;
      all_are =
          is.all_are ∙ ap (λ (es : List Event). es ++ is.older) (reverse-split place old.events.items)
          ∙ append_assoc back front is.older
          ∙ ap (λ (es : List Event). reverse es ++ (front ++ is.older)) (sym moved.0);
      account_is =
          moved.2 ∙ ap (account_to front root) is.account_is ∙ account_to-is old.root front is.older root comes
          ∙ ap (λ (r : Option Point). account_of (path_to (front ++ is.older) r)) (sym moved.1);
    }

-- what is among no point or one
among-none : (wanted : Option Point) → IsAmong wanted [] → wanted ≡ None
among-none None among = refl
among-none (Some point) among = absurd among

among-one : (wanted : Option Point) (point : Point) → IsAmong wanted (point ∷ []) →
    (wanted ≡ Some point) ⊎ (wanted ≡ None)
among-one wanted point among = grind arith

-- the only one that is left is the root
pub only-root : (events : List Event) (wanted : Option Point) (points : List Point) → length points ≤ 1
    → IsAmong (beyond events wanted) points → ComesTo (slice_get points 0) events wanted
only-root events wanted [] few among = inr (among-none (beyond events wanted) among)
only-root events wanted (point ∷ []) few among = among-one (beyond events wanted) point among
only-root events wanted (point ∷ other ∷ others) few among = absurd (omega arith)

pub only-comes : (root : Option Point) (events : List Event) (points : List Point) → AllComeTo root events points
    → ComesTo root events (slice_get points 0)
only-comes root events [] come = inr (beyond-none events)
only-comes root events (point ∷ points) come = come.0

all-root : (root : Option Point) (events : List Event) (points : List Point)
    → ((point : Point) → HasPoint point points → ComesTo root events (Some point)) → AllComeTo root events points
all-root root events [] each = tt
all-root root events (point ∷ points) each =
    (each point (inl refl), all-root root events points (λ other has. each other (inr has)))

pass_moved : (place : ℕ) (left : List Point) (old new : Window) (points : List Point) → length left ≤ 1
    → ((wanted : Option Point) → IsAmong wanted points →
    IsAmong (beyond (reverse (drop place old.events.items)) wanted) left)
    → IsMoved place (slice_get left 0) old new
    → AllPass new points
pass_moved place left old new points few covers moved = grind (arith, all-root, only-root)

-- the walks of some points met, and the only one that is left is the root
module _ (old new : Window) (events : List Event) (place : ℕ) (root : Option Point) (left points : List Point)
    (events_are : events ≡ old.events.items) (root_is : root ≡ slice_get left 0)
    (moved : IsMoved place root old new) where
  -- a window whose root moved to where all walks meet stands for the same events
  pub window_met : (all : List Event)
      → ((r : Option Point) → AllComeTo r (reverse events) points → AllComeTo r (reverse (take place events)) left) →
      AllPass old points
      → IsWindow old all → IsWindow new all
  window_met all come pass is = grind (arith, only-comes, window_moved)

  -- and can be left by all points that it could be left by before
  pub pass_met : length left ≤ 1
      → ((wanted : Option Point) → IsAmong wanted points → IsAmong (beyond (reverse (drop place events)) wanted) left) →
      AllPass new points
  pass_met few covers = grind (arith, pass_moved)

-- the account of a path through a whole window
pub account-end : (window : Window) (all : List Event) (wanted : Option Point) → IsWindow window all →
    Passes window wanted
    → account_to (kept_events window) wanted (accounted window.account) ≡ account_of (path_to all wanted)
account-end window all wanted is passes = grind (arith, account_to-is)
