-- Cycles of the programs are those of the definition, where commit finds no stale word, and so there is a run of them.
use Rattle.rv_hardware.proofs.Words.{◌≡◌, ℕ, zero, suc, Bool, true, List, [], ◌∷◌, ◌++◌, length, refl, sym, ap}
use Rattle.rv_hardware.proofs.Words.{no_lines, commit_with, Hardware, Report, steps_of, ◌&&◌, ◌<◌, ◌^◌, nat_lt}
use Rattle.rv_hardware.proofs.Words.{list_all, ltb-true, and_first, and_second, map}
use Rattle.std.specs.FinSet as set
use Rattle.std.specs.List.{fold}
use Rattle.rv_front.specs.Guide.{after_lesson}
use Rattle.rv_front.specs.Lesson.{Lesson}
use Rattle.rv_hardware.specs.Cycle.{report_of}
use Rattle.rv_hardware.specs.Dispatch.{stall_of}
use Rattle.rv_hardware.specs.Guided.{GuidedCycles, GuidedHardware, IsGuidedCycle, cycled, ended, guided}
use Rattle.rv_hardware.specs.Lessons.{lessons_of}
use Rattle.rv_hardware_tests.proofs.Fetches.{AnswersAddresses, fetches, guide}
use Rattle.rv_hardware_tests.proofs.Programs.{after_cycle, committing_in, dispatching_in, reasons_from, steps_from}
use Rattle.rv_hardware_tests.proofs.Programs.{taught_in}
use Rattle.rv_hardware_tests.proofs.Stale.{HasStored, IsFresh, commits_alike, finds_none, has_after, keeps_apart}

-- a cycle with all lines low does not end at a stale word
abbrev pub FindsNoStale : Hardware → Type 0
FindsNoStale h = IsFresh (commit_with set.contains no_lines h)

module _ {S : Type 0} (answered : S → ℕ → ℕ → ℕ) (learned : S → Lesson → S) where
  taught_so : (predictor : S) (lessons : List Lesson) →
      fold after_lesson (guide answered learned predictor) lessons ≡
      guide answered learned (fold learned predictor lessons)
  taught_so predictor [] = refl
  taught_so predictor (lesson ∷ lessons) = taught_so (learned predictor lesson) lessons

  -- the hardware of a program, with its predictor
  abbrev pub guided_by : S → Hardware → GuidedHardware
  guided_by predictor h = guided h (guide answered learned predictor)

  -- what it is after a cycle, and what the cycle reports
  abbrev pub after : S → Hardware → GuidedHardware
  after predictor h = guided_by (taught_in answered learned predictor h) (after_cycle answered learned predictor h)

  abbrev pub report_in : Hardware → Report
  report_in h = report_of (committing_in h) (dispatching_in h)

  -- such a cycle is the definition's, where it does not end at a stale word and what is answered in it is an address
  pub is_cycle : (predictor : S) (h : Hardware) → FindsNoStale h →
      AnswersAddresses answered learned (taught_in answered learned predictor h) →
      IsGuidedCycle no_lines (guided_by predictor h) (report_in h) (after predictor h)
  is_cycle predictor h fresh addresses =
      let wiser : S = taught_in answered learned predictor h in
      let done : Hardware = (dispatching_in h).hardware in
      let fetched = fetches answered learned wiser addresses done.cache.backing h.cycle done.front in
      record {
        learns = sym (taught_so predictor (lessons_of (committing_in h).steps (dispatching_in h).hardware.pc));
        cycle = record {
          committing = committing_in h;
          commits = sym (commits_alike set.contains no_lines h fresh);
          dispatching = dispatching_in h;
          executes = refl;
          fetch_stop = fetched.0;
          fetches = fetched.1;
          others_stay = refl;
          reports = refl;
        };
      }

  -- so many cycles of which each is
  abbrev pub AreCycles : ℕ → S → Hardware → Type 0
  AreCycles zero predictor h = Unit {0}
  AreCycles (suc cycles) predictor h =
      let wiser : S = taught_in answered learned predictor h in
      FindsNoStale h × AnswersAddresses answered learned wiser ×
      AreCycles cycles wiser (after_cycle answered learned predictor h)

  -- whether each lesson of a cycle is that the program went on at an address
  abbrev pub lead_to_addresses : S → Hardware → Bool
  lead_to_addresses predictor h =
      list_all (λ (lesson : Lesson). nat_lt lesson.next (2 ^ 32))
      (lessons_of (committing_in h).steps (dispatching_in h).hardware.pc)

  -- whether so many cycles store to these words alone, find no head at one of them, and teach addresses
  abbrev pub keep_apart : List ℕ → ℕ → S → Hardware → Bool
  keep_apart stored zero predictor h = true
  keep_apart stored (suc cycles) predictor h =
      keeps_apart stored h && (lead_to_addresses predictor h
      && keep_apart stored cycles (taught_in answered learned predictor h) (after_cycle answered learned predictor h))

  module _ (IsSound : S → Type 0)
      (addresses : (predictor : S) → IsSound predictor → AnswersAddresses answered learned predictor)
      (kept : (predictor : S) (lesson : Lesson) → lesson.next < 2 ^ 32 → IsSound predictor →
      IsSound (learned predictor lesson)) where
    all_kept : (predictor : S) (lessons : List Lesson) →
        list_all (λ (lesson : Lesson). nat_lt lesson.next (2 ^ 32)) lessons ≡ true → IsSound predictor →
        IsSound (fold learned predictor lessons)
    all_kept predictor [] all sound = sound
    all_kept predictor (lesson ∷ lessons) all sound =
        all_kept (learned predictor lesson) lessons (and_second (nat_lt lesson.next (2 ^ 32)) _ all)
        (kept predictor lesson (ltb-true lesson.next (2 ^ 32) (and_first (nat_lt lesson.next (2 ^ 32)) _ all)) sound)

    -- then each of them is the definition's, where addresses alone lead to answers that are addresses
    pub are_cycles : (stored : List ℕ) (cycles : ℕ) (predictor : S) (h : Hardware) → IsSound predictor →
        HasStored stored h.stale → keep_apart stored cycles predictor h ≡ true → AreCycles cycles predictor h
    are_cycles stored zero predictor h sound has apart = tt
    are_cycles stored (suc cycles) predictor h sound has apart =
        let wiser : S = taught_in answered learned predictor h in
        let next : Hardware = after_cycle answered learned predictor h in
        let now : keeps_apart stored h ≡ true = and_first (keeps_apart stored h) _ apart in
        let later : (lead_to_addresses predictor h && keep_apart stored cycles wiser next) ≡ true =
        and_second (keeps_apart stored h) _ apart in
        let lessons : List Lesson = lessons_of (committing_in h).steps (dispatching_in h).hardware.pc in
        let still : IsSound wiser =
        all_kept predictor lessons (and_first (lead_to_addresses predictor h) _ later) sound in (
          finds_none stored h has now,
          addresses wiser still,
          are_cycles stored cycles wiser next still (has_after stored h has now)
              (and_second (lead_to_addresses predictor h) _ later),
        )

  -- a run of the definition that reports the steps of so many cycles of a program
  pub record IsRun (cycles : ℕ) (predictor : S) (h : Hardware) : Type 0 where
    pub reports : List Report
    pub last : GuidedHardware
    pub run : GuidedCycles [] (guided_by predictor h) reports last
    pub count : length reports ≡ cycles
    pub steps : steps_of reports ≡ steps_from answered learned cycles predictor h
    pub reasons : map (λ (r : Report). r.stall) reports ≡ reasons_from answered learned cycles predictor h

  -- there is one, where the cycles are the definition's
  pub is_run : (cycles : ℕ) (predictor : S) (h : Hardware) → AreCycles cycles predictor h → IsRun cycles predictor h
  is_run zero predictor h are =
      record { reports = []; last = guided_by predictor h; run = ended; count = refl; steps = refl; reasons = refl }
  is_run (suc cycles) predictor h (fresh, addresses, more) =
      let wiser : S = taught_in answered learned predictor h in
      let further = is_run cycles wiser (after_cycle answered learned predictor h) more in
      record {
        reports = report_in h ∷ further.reports;
        last = further.last;
        run = cycled (is_cycle predictor h fresh addresses) further.run;
        count = ap suc further.count;
        steps = ap (λ steps. (committing_in h).steps ++ steps) further.steps;
        reasons = ap (λ reasons. stall_of (dispatching_in h) ∷ reasons) further.reasons;
      }
