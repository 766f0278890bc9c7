-- The account of a run's path.
use Rattle.std.specs.Prelude.{ℕ, List}
use Rattle.rv_isa.specs.declared.lines.Arrival.{Arrival}
use Rattle.rv_arch.specs.declared.outcome.Stop.{Stop}
use Rattle.rv_hardware.specs.Guided.{GuidedHardware}
use Rattle.rv_causes.specs.Account.{Accounted}
use Rattle.rv_path.specs.Run.{IsAccounted}

-- an account is that of the path of a run that ended, all of whose cycles it has
pub record IsPathAccount (arrivals : List Arrival) (limit : ℕ) (old new : GuidedHardware)
    (account : Accounted) : Type 0 where
  pub stop : Stop
  pub accounted : IsAccounted arrivals limit old new stop account.cycles account
