-- What a cycle reports, and how its reasons to dispatch nothing are called and counted.
use Rattle.std.specs.Prelude.{ℕ, ◌+◌, Bool, true, false, if◌then◌else◌, List, [], ◌∷◌, Option, codes}
use Rattle.rv_arch.specs.declared.outcome.Stop.{Stop}
use Rattle.rv_hardware.specs.declared.{step.Step.Step, report.Stall.Stall, report.StallCounts.StallCounts}
use Rattle.rv_hardware.specs.declared.report.Stall.TheVariants.{Fetch, Serial, Rob, Station, Store}

-- the steps in program order, how many instructions were dispatched, why none was, and why the run stops, if it does
pub record Report : Type 0 where
  pub steps : List Step
  pub dispatched : ℕ
  pub stall : Option Stall
  pub stop : Option Stop

-- the reasons to dispatch nothing, in the order in which they are shown
unfoldable pub all_stalls : List Stall
all_stalls = Fetch ∷ Serial ∷ Rob ∷ Station ∷ Store ∷ []

-- what a reason is called
abbrev pub stall_name : Stall → List ℕ
stall_name Fetch = codes "fetch"
stall_name Serial = codes "serial"
stall_name Rob = codes "rob"
stall_name Station = codes "station"
stall_name Store = codes "store"

-- two reasons are the same
abbrev pub is_same_stall : Stall → Stall → Bool
is_same_stall Fetch Fetch = true
is_same_stall Serial Serial = true
is_same_stall Rob Rob = true
is_same_stall Station Station = true
is_same_stall Store Store = true
is_same_stall _ _ = false

-- the count of a reason
abbrev pub count_of : Stall → StallCounts → ℕ
count_of Fetch counts = counts.fetch
count_of Serial counts = counts.serial
count_of Rob counts = counts.rob
count_of Station counts = counts.station
count_of Store counts = counts.store

-- the counts that a function of the reason gives
abbrev pub by_stall : (Stall → ℕ) → StallCounts
by_stall count = record {
  fetch = count Fetch;
  serial = count Serial;
  rob = count Rob;
  station = count Station;
  store = count Store;
}

-- of no cycle
abbrev pub no_stalls : StallCounts
no_stalls = by_stall (λ stall. 0)

-- one more cycle under a reason
abbrev pub counted : Stall → StallCounts → StallCounts
counted stall counts =
    by_stall (λ other. if is_same_stall other stall then count_of other counts + 1 else count_of other counts)
