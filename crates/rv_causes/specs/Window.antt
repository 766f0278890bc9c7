-- The events of a run from some one on, and the account of the path to that one.
use Rattle.std.specs.Prelude.{◌≡◌, ℕ, ◌+◌, ◌≤◌, List, ◌++◌, drop, length}
use Rattle.std.specs.Prelude.{reverse, take, vec_capacity, Option, Some, None}
use Rattle.rv_causes.specs.Account.{Accounted, account_of, nothing_accounted, with_path}
use Rattle.rv_causes.specs.Walk.{AllComeTo, ComesTo, beyond, path_to}
use Rattle.rv_causes.specs.declared.{account.Account.Account, point.Point.Point}
use Rattle.rv_causes.specs.declared.{event.Event.Event, window.Window.Window}

-- what an account says
abbrev pub accounted : Account → Accounted
accounted account = record { cycles = account.cycles; causes = account.causes; words = account.words.words.items }

-- it has room for so many words more
abbrev pub HasRoomFor : ℕ → Account → Type 0
HasRoomFor more account = length account.words.words.items + more ≤ vec_capacity account.words.words

-- the events of a window, the newest first
abbrev pub kept_events : Window → List Event
kept_events window = reverse window.events.items

-- A window is one on all events of a run, the newest of which is the first: some older ones are not kept, and of those
-- the path to the root is accounted.
pub record IsWindow (window : Window) (all : List Event) : Type 0 where
  pub older : List Event
  pub all_are : all ≡ kept_events window ++ older
  pub account_is : accounted window.account ≡ account_of (path_to older window.root)

-- the account of the path to what a walk wants beyond some events: of that to the root, or from the beginning of the run
abbrev pub account_at : Option Point → Accounted → Accounted
account_at None account = nothing_accounted
account_at (Some point) account = account

-- that of the path to a point, by the events of it after the root
abbrev pub account_to : List Event → Option Point → Accounted → Accounted
account_to events wanted account = with_path (path_to events wanted) (account_at (beyond events wanted) account)

-- the path to a point goes through the root, or begins in the window
abbrev pub Passes : Window → Option Point → Type 0
Passes window wanted = ComesTo window.root (kept_events window) wanted

-- those to several points do
abbrev pub AllPass : Window → List Point → Type 0
AllPass window points = AllComeTo window.root (kept_events window) points

-- a window has room for so many events more
abbrev pub HasRoomForEvents : ℕ → Window → Type 0
HasRoomForEvents more window = length window.events.items + more ≤ vec_capacity window.events

-- a window is as it was, but for room, or but for its account
abbrev pub AreSameButAccount : Window → Window → Type 0
AreSameButAccount old new = (new.events ≡ old.events) × (new.root ≡ old.root)

abbrev pub AreAlike : Window → Window → Type 0
AreAlike old new =
    (new.events.items ≡ old.events.items) × (new.root ≡ old.root) × (accounted new.account ≡ accounted old.account)

-- the events before a place are dropped, and the account is that of the path to the new root
abbrev pub IsMoved : ℕ → Option Point → Window → Window → Type 0
IsMoved place root old new =
    (new.events.items ≡ drop place old.events.items) × (new.root ≡ root)
    × (accounted new.account ≡ account_to (reverse (take place old.events.items)) root (accounted old.account))
