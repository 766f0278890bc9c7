-- The reason of a run's last cycle is a reason of the run.
use Rattle.rv_hardware.proofs.Words.{◌≡◌, ℕ, ◌<◌, List, [], ◌∷◌, ◌++◌, length, Some, refl, arith, length-append, Stop}
use Rattle.rv_hardware.proofs.Words.{Hardware, Report, IsStop, NoneStops}
use Rattle.rv_arch.specs.declared.outcome.Stop.TheVariants as stop
use Rattle.rv_watch.specs.Progress.{IsCommitStop}

-- the reason of a run's last cycle is a reason of the run
pub is_stop : (limit : ℕ) (reports : List Report) (last : Report) (new : Hardware) (reason : Stop) → NoneStops reports →
    last.stop ≡ Some reason → IsCommitStop (Some reason) → length reports < limit →
    IsStop limit (reports ++ last ∷ []) new reason
is_stop limit reports last new stop.Limit none is own within = absurd own
is_stop limit reports last new stop.Exhausted none is own within = absurd own
is_stop limit reports last new reason none is own within = (
  record { earlier = reports; last = last; all = refl; none_before = none; stops = is },
  omega (arith, length-append reports (last ∷ []), within),
)
