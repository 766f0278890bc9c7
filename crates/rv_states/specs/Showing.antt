-- What is kept while the states of a run are written.
use Rattle.std.specs.Prelude.{◌≡◌, ℕ, ◌+◌, ◌*◌, ◌≤◌, List, Bool, Option, length}
use Rattle.std.specs.List.{fold}
use Rattle.rv_watch.specs.Watching.{Watched}
use Rattle.rv_front.specs.declared.predictors.DescribedPredictor.{DescribedPredictor}
use Rattle.rv_passage.specs.Followed.{IsRoomy}
use Rattle.rv_passage.specs.Numbers.{numbers_of, plainly}
use Rattle.rv_passage.specs.Table.{Passages, passages_of, still_open}
use Rattle.rv_passage.specs.Walk.{passages_after}
use Rattle.rv_passage.specs.declared.table.Table.{Table}
use Rattle.rv_states.specs.States.{cycles_text, taught_by}
use Rattle.rv_text.specs.Said.{Extends}
use Rattle.rv_view.specs.Viewing.{cycles_seen}

-- the passages that are kept after the cycles so far
abbrev pub kept_of : Watched → Passages
kept_of seen = passages_after still_open seen.first.hardware seen.moments

-- A table knows by their numbers which instructions are in flight after the cycles so far, and once the window has
-- begun all else of them but what was predicted and whose results they wait for, of which nothing is shown.
pub record IsFollowing (from : ℕ) (table : Table) (seen : Watched) : Type 0 where
  pub numbers : numbers_of (passages_of table) ≡ numbers_of (kept_of seen)
  pub others : from ≤ length seen.moments → plainly (passages_of table) ≡ plainly (kept_of seen)
  pub fetched : table.fetched ≤ 288 * (seen.now.hardware.cycle + 1)
  pub retired : table.retired ≤ 8 * seen.now.hardware.cycle
  pub few : length (passages_of table).rows ≤ 288
  pub room : IsRoomy table

-- How many cycles come before the window, as at first; the predictor that was untaught at first, after the cycles so
-- far; a table that follows them; and their text, which is said after what was said before.
pub record IsShowing (from from' : ℕ) (untaught predictor : DescribedPredictor) (table : Table) (was failed : Bool)
    (seen : Watched) (before now : Option (List ℕ)) : Type 0 where
  pub same : from' ≡ from
  pub known : predictor ≡ fold taught_by untaught (cycles_seen seen)
  pub followed : IsFollowing from table seen
  pub said : Extends was failed before now (cycles_text from untaught (cycles_seen seen))
