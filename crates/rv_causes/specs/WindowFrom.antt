-- What is kept of a path of which a window is marked: all events of the window, and the numbering of its instructions.
use Rattle.std.specs.Prelude.{◌≡◌, ℕ, false, List, [], ◌∷◌, ◌++◌}
use Rattle.rv_passage.specs.Table.{Passages}
use Rattle.rv_causes.specs.Marked.{is_marked}
use Rattle.rv_causes.specs.Numbering.{row_numbers}
use Rattle.rv_causes.specs.Window.{kept_events}
use Rattle.rv_causes.specs.declared.{event.Event.Event, numbering.Numbering.Numbering, window.Window.Window}

-- no event of some is marked in the window after so many cycles
abbrev pub AreUnmarked : ℕ → List Event → Type 0
AreUnmarked from [] = Unit {0}
AreUnmarked from (event ∷ events) = (is_marked from event ≡ false) × AreUnmarked from events

-- of all events of a run, the newest of which is the first, a window has all that are marked
pub record HasAllMarked (from : ℕ) (window : Window) (all : List Event) : Type 0 where
  pub older : List Event
  pub all_are : all ≡ kept_events window ++ older
  pub unmarked : AreUnmarked from older

-- a numbering is that of a window which begins where these are in flight
pub record IsNumbering (numbering : Numbering) (kept : Passages) : Type 0 where
  pub numbers : numbering.numbers.items ≡ row_numbers kept.rows
  pub fetched : numbering.fetched ≡ kept.fetched
