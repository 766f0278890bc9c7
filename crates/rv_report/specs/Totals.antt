-- What a run came to.
use Rattle.std.specs.Prelude.{List, ◌++◌, codes, count_by, length, ℕ, ◌+◌, ◌^◌, ◌<◌}
use Rattle.std.specs.List.{flat_map}
use Rattle.rv_arch.specs.declared.outcome.Stop.{Stop}
use Rattle.rv_core.specs.declared.outcome.Outcome.{Outcome}
use Rattle.rv_watch.specs.declared.progress.Progress.{Progress}
use Rattle.rv_hardware.specs.Report.{Report, all_stalls, count_of, stall_name}
use Rattle.rv_hardware.specs.Run.{busy_of, longest_gap_of, stalls_of, steps_of}
use Rattle.rv_hardware.specs.Step.{is_interrupt, is_retirement, is_trap}
use Rattle.rv_hardware.specs.declared.{report.Stall.Stall, report.StallCounts.StallCounts, step.Step.Step}
use Rattle.rv_text.specs.Line.{line_of, count_line, ratio_text}
use Rattle.rv_report.specs.declared.totals.{StepCounts.StepCounts, Totals.Totals}

-- how many steps there are of each sort
abbrev pub counts_of : List Step → StepCounts
counts_of steps = record {
  retired = count_by is_retirement steps;
  traps = count_by is_trap steps;
  interrupts = count_by is_interrupt steps;
}

-- the counts of some steps and of others
abbrev pub both_counts : StepCounts → StepCounts → StepCounts
both_counts some others = record {
  retired = some.retired + others.retired;
  traps = some.traps + others.traps;
  interrupts = some.interrupts + others.interrupts;
}

-- no count of so many steps more comes to 2^64
pub record HasRoom (counts : StepCounts) (more : ℕ) : Type 0 where
  pub retired : counts.retired + more < 2 ^ 64
  pub traps : counts.traps + more < 2 ^ 64
  pub interrupts : counts.interrupts + more < 2 ^ 64

-- what a run comes to, by the counts of its cycles and of its steps
abbrev pub totals_with : Progress → StepCounts → Stop → Totals
totals_with progress steps stop = record {
  stop = stop;
  cycles = progress.cycles;
  steps = steps;
  longest_gap = progress.longest_gap;
  busy = progress.busy;
  stalls = progress.stalls;
}

-- what some cycles come to
abbrev pub totals_at : List Report → Stop → Totals
totals_at reports stop = record {
  stop = stop;
  cycles = length reports;
  steps = counts_of (steps_of reports);
  longest_gap = longest_gap_of reports;
  busy = busy_of reports;
  stalls = stalls_of reports;
}

-- what an outcome of the core comes to
abbrev pub totals_of : Outcome → Totals
totals_of outcome = record {
  stop = outcome.stop;
  cycles = outcome.cycles;
  steps = counts_of outcome.steps.items;
  longest_gap = outcome.longest_gap;
  busy = outcome.busy;
  stalls = outcome.stalls;
}

-- the cycles that dispatched nothing for a reason
unfoldable pub stall_line : StallCounts → Stall → List ℕ
stall_line stalls stall = count_line (codes "stall " ++ stall_name stall) (count_of stall stalls)

-- those of each reason
unfoldable pub stall_lines : StallCounts → List ℕ
stall_lines stalls = flat_map (stall_line stalls) all_stalls

-- the cycles, and the steps by their sort
unfoldable pub cycle_lines : Totals → List ℕ
cycle_lines totals =
    count_line (codes "cycles") totals.cycles ++
    (count_line (codes "retired") totals.steps.retired ++
    (count_line (codes "traps") totals.steps.traps ++
    (count_line (codes "interrupts") totals.steps.interrupts ++
    (line_of (codes "cpi") (ratio_text totals.cycles totals.steps.retired) ++
    (count_line (codes "longest_gap") totals.longest_gap ++
    count_line (codes "busy") totals.busy)))))

-- the counts of a run
unfoldable pub total_lines : Totals → List ℕ
total_lines totals = cycle_lines totals ++ stall_lines totals.stalls
