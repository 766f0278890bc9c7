-- What a view of a run is shown and says, and what a run comes to that a view is shown.
-- Read it from its end: `IsViewedRun` is what `run_view` says of the cycles, that the view has seen them all, and that
-- its text of them was said. What it means to have seen them, and the text, each view says itself.
use Rattle.std.specs.Prelude.{◌≡◌, ℕ, ◌≤◌, List, [], ◌∷◌, ◌++◌, length, Bool, Option, Result}
use Rattle.rv_isa.specs.declared.lines.Arrival.{Arrival}
use Rattle.rv_arch.specs.declared.outcome.Stop.{Stop}
use Rattle.rv_watch.specs.Progress.{progress_of}
use Rattle.rv_watch.specs.Watching.{IsEnd, IsShown, Watched, watched, with_shown}
use Rattle.rv_watch.specs.declared.progress.Progress.{Progress}
use Rattle.rv_hardware.specs.Guided.{GuidedHardware}
use Rattle.rv_hardware.specs.Hardware.{Hardware}
use Rattle.rv_hardware.specs.History.{History, Moment, reports_of}
use Rattle.rv_hardware.specs.declared.step.Step.{Step}
use Rattle.rv_passage.specs.Followed.{HasOpen}
use Rattle.rv_passage.specs.Table.{still_open}
use Rattle.rv_passage.specs.Walk.{FollowedCycle, next_cycle, passages_after, walk}
use Rattle.rv_passage.specs.declared.table.Table.{Table}
use Rattle.rv_text.specs.Said.{Extends, Says}
use Rattle.rv_text.specs.declared.sink.Sink.{Sink}
use Rattle.rv_view.specs.declared.shown_cycle.ShownCycle.{ShownCycle}

-- what views may have seen, as they were at first and are now
abbrev pub Seeing : Type 0 → Type 1
Seeing V = V → V → Watched → Type 0

-- what views say, as they are at first, of some cycles from some hardware on
abbrev pub Saying : Type 0 → Type 0
Saying V = V → Hardware → List FollowedCycle → List ℕ

-- the cycles that were seen, with the instructions that were in flight in each
abbrev pub cycles_seen : Watched → List FollowedCycle
cycles_seen seen = walk still_open seen.first.hardware seen.moments

-- the next one
abbrev pub cycle_shown : {cycle : ℕ} {steps : List Step} {after : Hardware} {progress : Progress} (seen : Watched) →
    IsShown seen cycle steps after progress → FollowedCycle
cycle_shown {after = after} seen shown =
    next_cycle
    (record {
      number = seen.now.hardware.cycle;
      reports = reports_of seen.moments;
      kept = passages_after still_open seen.first.hardware seen.moments;
    })
    (record { report = shown.report; after = after })

-- the next cycle is shown, and with it what became of the instructions that were in flight before it or fetched in it
pub record IsNextCycle (seen : Watched) (cycle : ShownCycle) : Type 0 where
  pub shown : IsShown seen cycle.number cycle.steps.now cycle.hardware.now cycle.progress.now
  pub rows_are : cycle.rows.now ≡ (cycle_shown seen shown).passages.rows
  pub few : length cycle.rows.now ≤ 576

-- whatever a view had seen, it has seen still
abbrev pub HasSeenStill : {V : Type 0} → Seeing V → V → V → Type 0
HasSeenStill {V} has_seen view view' =
    (start : V) (seen : Watched) → has_seen start view seen → has_seen start view' seen

-- a view that has seen the cycles before is shown the next one
abbrev pub IsShownNext : {V : Type 0} → Seeing V → V → ShownCycle → Type 0
IsShownNext {V} has_seen view cycle =
    (start : V) × (seen : Watched) × IsNextCycle seen cycle × has_seen start view seen

-- whatever a view had seen, it has seen it with the next cycle
abbrev pub SeesNext : {V : Type 0} → Seeing V → V → V → ShownCycle → Type 0
SeesNext {V} has_seen view view' cycle =
    (start : V) (seen : Watched) (next : IsNextCycle seen cycle) → has_seen start view seen →
    has_seen start view' (with_shown seen next.shown)

-- and says what its text has more with that cycle
abbrev pub SaysNext : {V W : Type 0} → Seeing V → Saying V → (W → Option (List ℕ)) → V → ShownCycle → Sink W → Sink W →
    Type 0
SaysNext {V} has_seen text contents view cycle out out' =
    (start : V) (seen : Watched) (next : IsNextCycle seen cycle) → has_seen start view seen →
    (more : List ℕ) × Says contents out out' more ×
    (text start seen.first.hardware (cycles_seen seen ++ cycle_shown seen next.shown ∷ []) ≡
    text start seen.first.hardware (cycles_seen seen) ++ more)

-- a view has seen the cycles so far, a table has what is in flight after them, and the view's text of them is said
-- after what was said before
pub record IsViewing {V : Type 0} (has_seen : Seeing V) (text : Saying V) (start view : V) (was failed : Bool)
    (table : Table) (seen : Watched) (before now : Option (List ℕ)) : Type 0 where
  pub sees : has_seen start view seen
  pub kept : HasOpen seen.first.hardware seen.moments seen.now.hardware table
  pub said : Extends was failed before now (text start seen.first.hardware (cycles_seen seen))

-- a run of at most `limit` cycles: each is counted, and each is shown to a view, in order, which says its text of them
pub record IsViewedRun {V Refusal : Type 0} (has_seen : Seeing V) (text : Saying V) (arrivals : List Arrival)
    (limit : ℕ) (old new : GuidedHardware) (view view' : V) (table : Table) (progress : Progress)
    (end : Result Stop Refusal) (was failed : Bool) (before now : Option (List ℕ)) : Type 0 where
  pub moments : List Moment
  pub passes : History arrivals old moments new
  pub counted : progress ≡ progress_of (reports_of moments)
  pub ends : IsEnd limit (reports_of moments) new.hardware end
  pub viewed : IsViewing has_seen text view view' was failed table (watched arrivals old moments new) before now
