-- A cycle by what a predictor answers is one by any of the predictions that there may be.
use Rattle.rv_hardware.proofs.Words.{arith, ◌≡◌, ℕ, suc, ◌-◌, Bool, List, [], ◌∷◌, ◌++◌, length, Option, MatchBool}
use Rattle.rv_hardware.proofs.Words.{MatchOption, Memory, Fetched, FetchStop, Halted, IsCycle, any_prediction, Hardware}
use Rattle.rv_hardware.proofs.Words.{Report, Cycles, ended, cycled, Arrival, Lines}
use Rattle.rv_front.specs.FetchBuffer.{Answers, FetchBuffer, Fetches, FetchesInto, IsFetchedAt, IsGuess, is_halted}
use Rattle.rv_front.specs.FetchBuffer.{stop_after}
use Rattle.rv_hardware.specs.Guided.{GuidedCycles, GuidedHardware, ended as guided_ended, cycled as guided_cycled}

-- what a fetch leaves in the buffer, by whether that was halted: `FetchesInto` says it by the buffer itself
abbrev pub IntoBy : Answers → Memory → ℕ → Bool → FetchBuffer → FetchBuffer → FetchStop → Type 0
IntoBy answers ram cycle halted old new stop =
    MatchBool halted ((new ≡ old) × (stop ≡ Halted))
    ((added : List Fetched) ×
    Fetches answers ram cycle old.width (old.capacity - length old.entries) old.next_pc added new.next_pc stop ×
    (new ≡ record old { entries = old.entries ++ added; next_pc = new.next_pc; halted = is_halted stop }))

module _ (answers : Answers) (ram : Memory) (cycle : ℕ) where
  any-guess : (pc : ℕ) (word : Option ℕ) (next : ℕ) → IsGuess answers pc word next → IsGuess any_prediction pc word next
  any-guess pc word next is = grind arith

  any-at : (pc : ℕ) (e : Fetched) → IsFetchedAt answers ram cycle pc e → IsFetchedAt any_prediction ram cycle pc e
  any-at pc e given = grind (arith, any-guess)

  where_none : {A B : Type 0} (C : FetchStop → Type 0) (o : Option FetchStop) → (A → B) → MatchOption o A C →
      MatchOption o B C
  where_none C o change here = grind arith

  any-fetches : (width room pc : ℕ) (es : List Fetched) (next : ℕ) (stop : FetchStop) →
      Fetches answers ram cycle width room pc es next stop → Fetches any_prediction ram cycle width room pc es next stop
  any-fetches width room pc [] next stop is = is
  any-fetches (suc width) (suc room) pc (e ∷ es) next stop is = (
    any-at pc e is.0,
    where_none (λ reason. (es ≡ []) × (next ≡ e.predicted) × (stop ≡ reason)) (stop_after e)
        (any-fetches width room e.predicted es next stop) is.1,
  )
  any-fetches width room pc (e ∷ es) next stop is = is

  any-into_at : (halted : Bool) (old new : FetchBuffer) (stop : FetchStop) →
      IntoBy answers ram cycle halted old new stop → IntoBy any_prediction ram cycle halted old new stop
  any-into_at halted old new stop is = grind (arith, any-fetches)

  any-into : (old new : FetchBuffer) (stop : FetchStop) → FetchesInto answers ram cycle old new stop →
      FetchesInto any_prediction ram cycle old new stop
  any-into old new stop is = any-into_at old.halted old new stop is

-- whoever asks what a cycle does need not know which predictions it went by
pub any_cycle : {answers : Answers} {lines : Lines} {old new : Hardware} {report : Report} →
    IsCycle answers lines old report new → IsCycle any_prediction lines old report new
any_cycle {answers} {lines} {old} {new} {report} cycle = record {
  committing = cycle.committing;
  commits = cycle.commits;
  dispatching = cycle.dispatching;
  executes = cycle.executes;
  fetch_stop = cycle.fetch_stop;
  fetches = any-into answers cycle.dispatching.hardware.cache.backing old.cycle cycle.dispatching.hardware.front
      new.front cycle.fetch_stop cycle.fetches;
  others_stay = cycle.others_stay;
  reports = cycle.reports;
}

-- cycles that a predictor guides are cycles by any predictions
pub cycles_of : {arrivals : List Arrival} {old new : GuidedHardware} {reports : List Report} →
    GuidedCycles arrivals old reports new → Cycles arrivals old.hardware reports new.hardware
cycles_of guided_ended = ended
cycles_of (guided_cycled next more) = cycled (any_cycle next.cycle) (cycles_of more)
