-- The promise is kept by the run of the described hardware, and the reason why it stops is true.
use Rattle.std.proofs.Common.{arith}
use Rattle.rv_core.proofs.Words.{ℕ, List, sym, subst, Arrival, Stop, OnlyLastStops, IsTrueStop, Report, IsStop}
use Rattle.rv_core.proofs.Words.{Reachable, layout_of, seen, IfOk, MatchResult, Result, GuidedHardware}
use Rattle.rv_core.proofs.Words.{IsCutShort, IsOutcome, IsRun, KeepsPromise, reported, reported_so_far}
use Rattle.rv_core.proofs.Words.{OutOfMemory, Outcome}
use Rattle.std.proofs.lemmas.Result.{MatchResult-weaker}
use Rattle.rv_hardware.specs.Promise.{Reported}
use Rattle.rv_hardware.proofs.AnyPrediction.{cycles_of}
use Rattle.rv_hardware.proofs.Gap.Run.{none_stops-only_last, is_stop-only_last}
use Rattle.rv_hardware.proofs.Headline.Stops.{headline_of_stop}
use Rattle.rv_hardware.proofs.Promise.{promise_of_run}

module _ (arrivals : List Arrival) (limit : ℕ) (old new : GuidedHardware) (reached : Reachable old.hardware) where
  module _ {reports : List Report} {done : Reported} (run : IsRun arrivals old new reports done) where
    promise_of : OnlyLastStops reports → KeepsPromise arrivals old.hardware new.hardware done
    promise_of only = subst (KeepsPromise arrivals old.hardware new.hardware) (sym run.reported_is)
        (promise_of_run reached (cycles_of run.cycled) only)

    stop_of : (reason : Stop) → IsStop limit reports new.hardware reason →
        IsTrueStop (layout_of old.hardware.values) arrivals limit old.hardware.cycle new.hardware.cycle done.steps
        (seen new.hardware) reason
    stop_of reason stops = grind (arith, headline_of_stop, cycles_of)

  module _ (ended : Result Outcome OutOfMemory)
      (is : MatchResult ended (IsOutcome arrivals limit old new) (IsCutShort arrivals limit old new)) where
    -- the promise is kept, to the end or as far as the run came
    pub promise_is_kept : MatchResult ended
        (λ outcome. KeepsPromise arrivals old.hardware new.hardware (reported outcome))
        (λ done. KeepsPromise arrivals old.hardware new.hardware (reported_so_far done))
    promise_is_kept =
        MatchResult-weaker ended is
        (λ outcome run. promise_of run.1 (is_stop-only_last limit run.0 new.hardware outcome.stop run.2))
        (λ done run. promise_of run.1 (none_stops-only_last run.0 run.2))

    -- and the reason why it stops is true
    pub stop_is_true : IfOk ended
        (λ outcome. IsTrueStop (layout_of old.hardware.values) arrivals limit old.hardware.cycle new.hardware.cycle
        outcome.steps.items (seen new.hardware) outcome.stop)
    stop_is_true = MatchResult-weaker ended is (λ outcome run. stop_of run.1 outcome.stop run.2) (λ done run. tt)
