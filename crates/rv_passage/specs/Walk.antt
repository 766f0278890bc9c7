-- A run cycle by cycle, with what becomes of its instructions: all a function of the hardware before it and of its moments.
use Rattle.std.specs.Prelude.{ℕ, List, [], ◌∷◌, ◌++◌}
use Rattle.std.specs.List.{fold}
use Rattle.rv_hardware.specs.Hardware.{Hardware}
use Rattle.rv_hardware.specs.History.{Moment}
use Rattle.rv_hardware.specs.Report.{Report}
use Rattle.rv_passage.specs.Table.{Passages, after_cycle, table_at}

-- where a run stands between two cycles: the number of the next one, what those before it reported, and the passages that are kept
pub record Standing : Type 0 where
  pub number : ℕ
  pub reports : List Report
  pub kept : Passages

-- A cycle of a run: its number, what it reported, and what the cycles so far reported, with it; the passages at its
-- end, those of the instructions that left the hardware in it among them; and the hardware that it left.
pub record FollowedCycle : Type 0 where
  pub number : ℕ
  pub report : Report
  pub reports : List Report
  pub passages : Passages
  pub after : Hardware

-- before the first cycle what is in flight is kept
abbrev pub standing_at : Hardware → Standing
standing_at first = record { number = first.cycle; reports = []; kept = table_at first }

-- the next cycle
abbrev pub next_cycle : Standing → Moment → FollowedCycle
next_cycle standing moment = record {
  number = standing.number;
  report = moment.report;
  reports = standing.reports ++ moment.report ∷ [];
  passages = after_cycle standing.number moment.report.steps moment.after standing.kept;
  after = moment.after;
}

-- where a run stands after a cycle
abbrev pub standing_after : (Passages → Passages) → FollowedCycle → Standing
standing_after keep cycle = record { number = cycle.after.cycle; reports = cycle.reports; kept = keep cycle.passages }

-- and after several
abbrev pub standing_after_all : (Passages → Passages) → Standing → List Moment → Standing
standing_after_all keep standing moments =
    fold (λ before moment. standing_after keep (next_cycle before moment)) standing moments

-- the cycles from there on
abbrev pub walk_from : (Passages → Passages) → Standing → List Moment → List FollowedCycle
walk_from keep standing [] = []
walk_from keep standing (moment ∷ moments) =
    next_cycle standing moment ∷ walk_from keep (standing_after keep (next_cycle standing moment)) moments

-- The cycles of a run from some hardware on. From each to the next those passages are kept that `keep` leaves: all, or those of the
-- instructions that are in flight.
abbrev pub walk : (Passages → Passages) → Hardware → List Moment → List FollowedCycle
walk keep first moments = walk_from keep (standing_at first) moments

-- the passages that are kept after its last cycle
abbrev pub passages_after : (Passages → Passages) → Hardware → List Moment → Passages
passages_after keep first moments = (standing_after_all keep (standing_at first) moments).kept

-- from each cycle to the next all passages are kept
abbrev pub all_kept : Passages → Passages
all_kept passages = passages

-- the hardware after some cycles
abbrev pub hardware_after : Hardware → List Moment → Hardware
hardware_after first moments = fold (λ before moment. moment.after) first moments
