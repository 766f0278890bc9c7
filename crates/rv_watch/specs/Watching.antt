-- What a watcher of a run is shown, and what a run comes to that is watched. Read it from its end: `IsWatchedRun` is what
-- `watch` says of the cycles, and that the watcher has seen them all. What that means each watcher says itself, by its
-- `has_seen`: it holds where no cycle was done yet (`HasSeenBegin`), and each call that shows the watcher the next cycle
-- (`IsNextShown`) leaves it so with that cycle (`SeesNext`).
use Rattle.std.specs.Prelude.{◌≡◌, ℕ, ◌*◌, ◌^◌, ◌<◌, ◌≤◌, List, [], ◌∷◌, ◌++◌, length, Option, Result, MatchResult}
use Rattle.rv_isa.specs.Arrivals.{lines_at}
use Rattle.rv_isa.specs.declared.lines.Arrival.{Arrival}
use Rattle.rv_arch.specs.declared.outcome.Stop.{Stop}
use Rattle.rv_front.specs.Guide.{Guide}
use Rattle.rv_hardware.specs.Guided.{GuidedHardware, IsGuidedCycle, guided}
use Rattle.rv_hardware.specs.Hardware.{Hardware}
use Rattle.rv_hardware.specs.History.{History, Moment, reports_of}
use Rattle.rv_hardware.specs.Report.{Report}
use Rattle.rv_hardware.specs.Run.{IsStop, NoneStops, Reachable, steps_of}
use Rattle.rv_hardware.specs.declared.step.Step.{Step}
use Rattle.rv_watch.specs.Progress.{progress_of}
use Rattle.rv_watch.specs.declared.progress.Progress.{Progress}

-- what there was to see so far: cycles one after another, from some hardware on
pub record Watched : Type 0 where
  pub arrivals : List Arrival
  pub first : GuidedHardware
  pub moments : List Moment
  pub now : GuidedHardware

-- these cycles, which led from the one hardware to the other
abbrev pub watched : List Arrival → GuidedHardware → List Moment → GuidedHardware → Watched
watched arrivals first moments now = record { arrivals = arrivals; first = first; moments = moments; now = now }

-- in each of some cycles there were at most 8 steps
abbrev pub HaveFewSteps : List Moment → Type 0
HaveFewSteps moments = length (steps_of (reports_of moments)) ≤ 8 * length (reports_of moments)

-- the next cycle is shown: its number, its steps, the hardware that it left, and the counts of the cycles so far with it
pub record IsShown (seen : Watched) (cycle : ℕ) (steps : List Step) (after : Hardware)
    (progress : Progress) : Type 0 where
  pub report : Report
  pub predictor : Guide
  pub passes : History seen.arrivals seen.first seen.moments seen.now
  pub few_before : HaveFewSteps seen.moments
  pub reached : Reachable seen.now.hardware
  pub cycled : IsGuidedCycle (lines_at seen.arrivals seen.now.hardware.cycle) seen.now report (guided after predictor)
  pub number : cycle ≡ seen.now.hardware.cycle
  pub counted : cycle < 2 ^ 40
  pub steps_are : steps ≡ report.steps
  pub few : length steps ≤ 8
  pub progress_is : progress ≡ progress_of (reports_of seen.moments ++ report ∷ [])

-- what there was to see, with the next cycle
abbrev pub with_shown : {cycle : ℕ} {steps : List Step} {after : Hardware} {progress : Progress} (seen : Watched) →
    IsShown seen cycle steps after progress → Watched
with_shown {after = after} seen shown =
    watched seen.arrivals seen.first (seen.moments ++ record { report = shown.report; after = after } ∷ [])
    (guided after shown.predictor)

-- What watchers may have seen, as they were at first and are now, with what a writer held before and holds now.
abbrev pub Sight : Type 0 → Type 1
Sight T = T → T → Watched → Option (List ℕ) → Option (List ℕ) → Type 0

-- a watcher has seen all that there was to see where no cycle was done yet
abbrev pub HasSeenBegin : {T : Type 0} → Sight T → T → List Arrival → GuidedHardware → Option (List ℕ) → Type 0
HasSeenBegin has_seen watcher arrivals begun output =
    (before : Option (List ℕ)) × has_seen watcher watcher (watched arrivals begun [] begun) before output

-- whatever a watcher had seen, it has seen still
abbrev pub SeesTheSame : {T : Type 0} → Sight T → T → T → Type 0
SeesTheSame {T = T} has_seen watcher watcher' =
    (start : T) (seen : Watched) (before now : Option (List ℕ)) → has_seen start watcher seen before now →
    has_seen start watcher' seen before now

-- a watcher that has seen the cycles before is shown the next one
abbrev pub IsNextShown : {T : Type 0} → Sight T → T → ℕ → List Step → Hardware → Progress → Option (List ℕ) → Type 0
IsNextShown {T = T} has_seen watcher cycle steps after progress output =
    (start : T) × (seen : Watched) × (before : Option (List ℕ)) ×
    IsShown seen cycle steps after progress × has_seen start watcher seen before output

-- whatever a watcher had seen, it has seen it with the next cycle, which it was shown
abbrev pub SeesNext : {T : Type 0} → Sight T → T → T → ℕ → List Step → Hardware → Progress → Option (List ℕ) →
    Option (List ℕ) → Type 0
SeesNext {T = T} has_seen watcher watcher' cycle steps after progress output output' =
    (start : T) (seen : Watched) (before : Option (List ℕ)) (shown : IsShown seen cycle steps after progress) →
    has_seen start watcher seen before output → has_seen start watcher' (with_shown seen shown) before output'

-- why a run ended, or that its watcher refused to see more of it: nothing stopped it then, and it had cycles left
abbrev pub IsEnd : {Refusal : Type 0} → ℕ → List Report → Hardware → Result Stop Refusal → Type 0
IsEnd limit reports new end =
    MatchResult end (λ stop. IsStop limit reports new stop) (λ refusal. NoneStops reports × (length reports < limit))

-- a run of at most `limit` cycles: each is counted, and each is shown to a watcher, in order
pub record IsWatchedRun {T Refusal : Type 0} (has_seen : Sight T) (arrivals : List Arrival) (limit : ℕ)
    (old new : GuidedHardware) (progress : Progress) (end : Result Stop Refusal) (watcher watcher' : T)
    (output output' : Option (List ℕ)) : Type 0 where
  pub moments : List Moment
  pub passes : History arrivals old moments new
  pub counted : progress ≡ progress_of (reports_of moments)
  pub ends : IsEnd limit (reports_of moments) new.hardware end
  pub seen : (before : Option (List ℕ)) → has_seen watcher watcher (watched arrivals old [] old) before output →
      has_seen watcher watcher' (watched arrivals old moments new) before output'
