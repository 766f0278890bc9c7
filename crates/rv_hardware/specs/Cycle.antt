-- One cycle of the hardware: its seven phases.
use Rattle.std.specs.Prelude.{◌≡◌, ℕ, ◌+◌, Bool}
use Rattle.std.specs.Ordering.{nat_cmp}
use Rattle.std.specs.FinSet as set
use Rattle.rv_isa.specs.declared.lines.Lines.{Lines}
use Rattle.rv_front.specs.FetchBuffer.{Answers, FetchesInto}
use Rattle.rv_front.specs.declared.fetched.FetchStop.{FetchStop}
use Rattle.rv_hardware.specs.Broadcast.{broadcast}
use Rattle.rv_hardware.specs.Commit.{Committing, commit}
use Rattle.rv_hardware.specs.Dispatch.{Dispatching, dispatch, stall_of}
use Rattle.rv_hardware.specs.Drain.{drain}
use Rattle.rv_hardware.specs.Hardware.{Hardware}
use Rattle.rv_hardware.specs.Issue.{issue}
use Rattle.rv_hardware.specs.Report.{Report}

-- the interrupt lines take their levels
abbrev pub with_lines : Lines → Hardware → Hardware
with_lines lines h = record h { lines = lines }

-- the phases from drain to dispatch
abbrev pub execute : Hardware → Dispatching
execute h = dispatch (broadcast (issue (drain h)))

-- what a cycle reports
abbrev pub report_of : Committing → Dispatching → Report
report_of committing dispatching = record {
  steps = committing.steps;
  dispatched = dispatching.dispatched;
  stall = stall_of dispatching;
  stop = committing.stop;
}

-- the phases from the lines to commit, where `is_stale` says whether a set of words holds one
abbrev pub commit_with : (set.FinSet nat_cmp → ℕ → Bool) → Lines → Hardware → Committing
commit_with is_stale lines h = commit is_stale (with_lines lines h)

-- a predictor of which nothing is known
abbrev pub any_prediction : Answers
any_prediction pc word next = Unit {0}

-- One cycle with the levels of the lines. All of it is a function of the hardware before, but for the predictions by which
-- the fetch phase goes: any that the predictor may answer.
pub record IsCycle (answers : Answers) (lines : Lines) (old : Hardware) (report : Report)
    (new : Hardware) : Type 0 where
  pub committing : Committing
  pub commits : committing ≡ commit_with set.contains lines old
  pub dispatching : Dispatching
  pub executes : dispatching ≡ execute committing.hardware
  pub fetch_stop : FetchStop
  pub fetches : FetchesInto answers dispatching.hardware.cache.backing old.cycle dispatching.hardware.front
      new.front fetch_stop
  pub others_stay : new ≡ record dispatching.hardware { front = new.front; cycle = old.cycle + 1 }
  pub reports : report ≡ report_of committing dispatching
