-- The steps, or the reasons of stalls, that were worked out for a program are those that a run of the definition has.
use Rattle.rv_hardware.proofs.Words.{◌≡◌, ◌∙◌, ℕ, true, List, [], length, map, Option, Values, word_of, reset_hardware}
use Rattle.rv_hardware.proofs.Words.{Hardware, Report, steps_of, subst, sym}
use Rattle.std.specs.FinSet as set
use Rattle.rv_isa.specs.declared.values.PredictorKind.TheVariants as kind
use Rattle.rv_front.specs.Lesson.{Lesson}
use Rattle.rv_front.specs.Predictors.{described, taught}
use Rattle.rv_hardware.specs.Guided.{GuidedCycles, GuidedHardware}
use Rattle.rv_hardware.specs.declared.report.Stall.{Stall}
use Rattle.rv_hardware.specs.declared.step.Step.{Step}
use Rattle.rv_hardware_tests.proofs.Predictors.{KeepsAddresses, described_addresses, described_keeps}
use Rattle.rv_hardware_tests.proofs.Predictors.{straight_addresses, taught_keeps}
use Rattle.rv_hardware_tests.proofs.Programs.{described_answer, in_memory, reasons_from, steps_from, straight_ahead}
use Rattle.rv_hardware_tests.proofs.Programs.{unchanged}
use Rattle.rv_hardware_tests.proofs.Runs.{IsRun, are_cycles, guided_by, is_run, keep_apart}
use Rattle.rv_hardware_tests.proofs.Stale.{HasStored, none_stored}

-- There is a run of the definition, of so many cycles with all lines low, from some hardware and a predictor in some
-- state, whose reports show something.
pub record HasRun {S : Type 0} (answered : S → ℕ → ℕ → ℕ) (learned : S → Lesson → S) (predictor : S) (h : Hardware)
    (cycles : ℕ) (Show : List Report → Type 0) : Type 0 where
  pub reports : List Report
  pub last : GuidedHardware
  pub run : GuidedCycles [] (guided_by answered learned predictor h) reports last
  pub count : length reports ≡ cycles
  pub are : Show reports

-- the hardware at reset with a program that stands, and starts, at an address
abbrev pub at_reset : ℕ → Values → List ℕ → Hardware
at_reset start values words = reset_hardware values (in_memory words) start

-- a program at an address has a run from reset that reports these steps, where the next word is what is predicted
abbrev pub ReportsAt : ℕ → Values → List ℕ → ℕ → List Step → Type 0
ReportsAt start values words cycles steps =
    HasRun straight_ahead unchanged tt (at_reset start values words) cycles (λ reports. steps_of reports ≡ steps)

-- a program at address 0x8000_0000
abbrev pub Reports : Values → List ℕ → ℕ → List Step → Type 0
Reports values words cycles steps = ReportsAt 0x8000_0000 values words cycles steps

-- and one whose cycles dispatch nothing for these reasons
abbrev pub WaitsFor : Values → List ℕ → ℕ → List (Option Stall) → Type 0
WaitsFor values words cycles reasons =
    HasRun straight_ahead unchanged tt (at_reset 0x8000_0000 values words) cycles
    (λ reports. map (λ (r : Report). r.stall) reports ≡ reasons)

-- one that a bimodal predictor of one entry guides
abbrev pub ReportsByOneCounter : Values → List ℕ → ℕ → ℕ → List Step → Type 0
ReportsByOneCounter values words start cycles steps =
    HasRun described_answer taught (described kind.Bimodal 1) (at_reset start values words) cycles
    (λ reports. steps_of reports ≡ steps)

straight_run : (h : Hardware) (cycles : ℕ) (addresses : List ℕ) → h.stale ≡ set.empty →
    keep_apart straight_ahead unchanged (map word_of addresses) cycles tt h ≡ true →
    IsRun straight_ahead unchanged cycles tt h
straight_run h cycles addresses none apart =
    is_run straight_ahead unchanged cycles tt h
    (are_cycles straight_ahead unchanged (λ predictor. Unit {0}) (λ predictor sound. straight_addresses)
    (λ predictor lesson fits sound. tt) (map word_of addresses) cycles tt h tt
    (subst (HasStored (map word_of addresses)) (sym none) (none_stored (map word_of addresses))) apart)

-- where these are the steps by the definition's phases, and no head is at an address that is stored to
pub computed : {h : Hardware} {cycles : ℕ} {steps : List Step} (addresses : List ℕ) →
    steps_from straight_ahead unchanged cycles tt h ≡ steps → h.stale ≡ set.empty →
    keep_apart straight_ahead unchanged (map word_of addresses) cycles tt h ≡ true →
    HasRun straight_ahead unchanged tt h cycles (λ reports. steps_of reports ≡ steps)
computed {h} {cycles} addresses same none apart =
    let ran = straight_run h cycles addresses none apart in
    record { reports = ran.reports; last = ran.last; run = ran.run; count = ran.count; are = ran.steps ∙ same }

-- where these are the reasons
pub waits : {h : Hardware} {cycles : ℕ} {reasons : List (Option Stall)} (addresses : List ℕ) →
    reasons_from straight_ahead unchanged cycles tt h ≡ reasons → h.stale ≡ set.empty →
    keep_apart straight_ahead unchanged (map word_of addresses) cycles tt h ≡ true →
    HasRun straight_ahead unchanged tt h cycles (λ reports. map (λ (r : Report). r.stall) reports ≡ reasons)
waits {h} {cycles} addresses same none apart =
    let ran = straight_run h cycles addresses none apart in
    record { reports = ran.reports; last = ran.last; run = ran.run; count = ran.count; are = ran.reasons ∙ same }

-- where these are the steps by that predictor, and each lesson is of an address
pub computed_by_one_counter : {h : Hardware} {cycles : ℕ} {steps : List Step} (addresses : List ℕ) →
    steps_from described_answer taught cycles (described kind.Bimodal 1) h ≡ steps → h.stale ≡ set.empty →
    keep_apart described_answer taught (map word_of addresses) cycles (described kind.Bimodal 1) h ≡ true →
    HasRun described_answer taught (described kind.Bimodal 1) h cycles (λ reports. steps_of reports ≡ steps)
computed_by_one_counter {h} {cycles} addresses same none apart =
    let ran = is_run described_answer taught cycles (described kind.Bimodal 1) h
    (are_cycles described_answer taught KeepsAddresses described_addresses taught_keeps (map word_of addresses)
    cycles (described kind.Bimodal 1) h (described_keeps kind.Bimodal 1)
    (subst (HasStored (map word_of addresses)) (sym none) (none_stored (map word_of addresses))) apart) in
    record { reports = ran.reports; last = ran.last; run = ran.run; count = ran.count; are = ran.steps ∙ same }
