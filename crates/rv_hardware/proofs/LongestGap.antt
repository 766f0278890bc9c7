-- The longest gap of a run is what the stamps of its steps give.
use Rattle.rv_hardware.proofs.Words.{◌≡◌, ℕ, ◌+◌, ◌-◌, ◌<◌, ◌≤◌, max, cond, ◌⊎◌, List, [], ◌∷◌, ◌++◌, All, subst, inl}
use Rattle.rv_hardware.proofs.Words.{inr, ⊎_elim, arith, All-append, All-head, All-nil, All-weaker, Arrival, Layout}
use Rattle.rv_hardware.proofs.Words.{State, Hardware, Report, Cycles, Reachable, is_silent, longest_gap_from}
use Rattle.rv_hardware.proofs.Words.{longest_gap_of, steps_of, layout_of, stamp_of, Step, All-right}
use Rattle.rv_hardware.specs.LongestGap.{IsGap, IsLongestGap}
use Rattle.rv_hardware.proofs.Headline.Cycle.{always_sound}
use Rattle.rv_hardware.proofs.Headline.Run.{TrueCycles, none, one_more, counts_cycles, cycles_true, true_run_within}

-- a cycle is outside of so many cycles from the first on
abbrev IsOutside : ℕ → ℕ → Step → Type 0
IsOutside first count s = (stamp_of s < first) ⊎ (first + count ≤ stamp_of s)

-- so many cycles without a step, of those from one on and of some before it
record HasGap (from before to : ℕ) (steps : List Step) (gap : ℕ) : Type 0 where
  first : ℕ
  since : from ≤ first + before
  within : first + gap ≤ to
  is_gap : IsGap steps first gap

-- the gap of a cycle and of those after it, where those before it were silent
module _ (n before m : ℕ) (reports : List Report) (few : before ≤ n) (passed : n + 1 ≤ m)
    (later : All (λ y. n + 1 ≤ stamp_of y) (steps_of reports)) where
  abbrev Gap : List Step → ℕ → Type 0
  Gap xs = HasGap n before m (xs ++ steps_of reports)

  gap_after : (xs : List Step) (x : Step) → All (λ y. stamp_of y ≡ n) (x ∷ xs) →
      HasGap (n + 1) 0 m (steps_of reports) (longest_gap_from 0 reports) → before < longest_gap_from 0 reports →
      Gap (x ∷ xs) (max before (longest_gap_from 0 reports))
  gap_after xs x stamped anew longer =
      let is : longest_gap_from 0 reports ≡ max before (longest_gap_from 0 reports) = omega (arith, longer) in
      let outside = IsOutside anew.first (longest_gap_from 0 reports) in
      subst (Gap (x ∷ xs)) is (record {
        first = anew.first;
        since = omega (arith, anew.since);
        within = anew.within;
        is_gap = All-append outside (x ∷ xs) (steps_of reports)
            (All-weaker (λ y. stamp_of y ≡ n) outside (λ y at. inl (omega (arith, at, anew.since))) (x ∷ xs) stamped)
            anew.is_gap;
      })

  gap_before : (xs : List Step) (x : Step) → All (λ y. stamp_of y ≡ n) (x ∷ xs) → longest_gap_from 0 reports ≤ before →
      Gap (x ∷ xs) (max before (longest_gap_from 0 reports))
  gap_before xs x stamped shorter =
      let is : before ≡ max before (longest_gap_from 0 reports) = omega (arith, shorter) in
      let outside = IsOutside (n - before) before in
      subst (Gap (x ∷ xs)) is (record {
        first = n - before;
        since = omega arith;
        within = omega (arith, few, passed);
        is_gap = All-append outside (x ∷ xs) (steps_of reports)
            (All-weaker (λ y. stamp_of y ≡ n) outside (λ y at. inr (omega (arith, at, few))) (x ∷ xs) stamped)
            (All-weaker (λ y. n + 1 ≤ stamp_of y) outside (λ y after. inr (omega (arith, after, few)))
            (steps_of reports) later);
      })

  gap_from : (xs : List Step) → All (λ y. stamp_of y ≡ n) xs →
      HasGap (n + 1) (before + 1) m (steps_of reports) (longest_gap_from (before + 1) reports) →
      HasGap (n + 1) 0 m (steps_of reports) (longest_gap_from 0 reports) →
      Gap xs (cond (is_silent xs) (longest_gap_from (before + 1) reports) (max before (longest_gap_from 0 reports)))
  gap_from [] stamped more anew =
      record { first = more.first; since = omega (arith, more.since); within = more.within; is_gap = more.is_gap }
  gap_from (x ∷ xs) stamped more anew = grind (arith, gap_after, gap_before)

-- a gap among a cycle and those after it is no longer
no_longer_from : (n before m first count : ℕ) (reports : List Report) → n ≤ first + before → (xs : List Step) →
    All (λ y. stamp_of y ≡ n) xs → IsGap (xs ++ steps_of reports) first count →
    (IsGap (steps_of reports) first count → count ≤ longest_gap_from (before + 1) reports) →
    (n + 1 ≤ first → IsGap (steps_of reports) first count → count ≤ longest_gap_from 0 reports) →
    count ≤ cond (is_silent xs) (longest_gap_from (before + 1) reports) (max before (longest_gap_from 0 reports))
no_longer_from n before m first count reports since [] stamped quiet more anew = more quiet
no_longer_from n before m first count reports since (x ∷ xs) stamped quiet more anew =
    let at : stamp_of x ≡ n = All-head (λ y. stamp_of y ≡ n) x xs stamped in
    ⊎_elim
    (λ passed. let less = anew (omega (arith, at, passed))
    (All-right (IsOutside first count) (x ∷ xs) (steps_of reports) quiet) in
    omega (arith, less))
    (λ ahead. omega (arith, at, ahead, since))
    (All-head (IsOutside first count) x (xs ++ steps_of reports) quiet)

module _ (layout : Layout) (arrivals : List Arrival) where
  -- after so many silent cycles the longest gap is somewhere
  has_gap : (before : ℕ) {s u : State} {n m : ℕ} {reports : List Report} → TrueCycles layout arrivals s n reports u m →
      before ≤ n → HasGap n before m (steps_of reports) (longest_gap_from before reports)
  has_gap before {n = n} none few =
      record {
        first = n - before;
        since = omega arith;
        within = omega (arith, few);
        is_gap = All-nil (IsOutside (n - before) before);
      }
  has_gap before {n = n} {m = m} (one_more {report = report} {reports = reports} cycle rest) few =
      let after = All-weaker (λ y. (n + 1 ≤ stamp_of y) × (stamp_of y < m)) (λ y. n + 1 ≤ stamp_of y)
      (λ y within. within.0) (steps_of reports) (true_run_within layout arrivals rest) in
      gap_from n before m reports few (omega (arith, counts_cycles layout arrivals rest)) after _ cycle.stamped
      (has_gap (before + 1) rest (omega (arith, few))) (has_gap 0 rest (omega arith))

  -- and no gap is longer
  no_longer : (before : ℕ) {s u : State} {n m : ℕ} {reports : List Report} →
      TrueCycles layout arrivals s n reports u m →
      (first count : ℕ) → n ≤ first + before → first + count ≤ m → IsGap (steps_of reports) first count →
      count ≤ longest_gap_from before reports
  no_longer before none first count since within silent = omega (arith, since, within)
  no_longer before {n = n} {m = m}
      (one_more {report = report} {reports = reports} cycle rest) first count since within silent =
      no_longer_from n before m first count reports since _ cycle.stamped silent
      (no_longer (before + 1) rest first count (omega (arith, since)) within)
      (λ passed. no_longer 0 rest first count (omega (arith, passed)) within)

-- the longest gap of a run's cycles is what the stamps of its steps give
pub longest_gap_of_run : {arrivals : List Arrival} {old new : Hardware} {reports : List Report} → Reachable old →
    Cycles arrivals old reports new → IsLongestGap old.cycle new.cycle (steps_of reports) (longest_gap_of reports)
longest_gap_of_run {arrivals = arrivals} {old = old} reached cycles =
    let layout = layout_of old.values in
    let true_cycles = cycles_true (always_sound reached) cycles in
    let gap = has_gap layout arrivals 0 true_cycles (omega arith) in
    record {
      first = gap.first;
      since = omega (arith, gap.since);
      within = gap.within;
      is_gap = gap.is_gap;
      longest = λ first count since within quiet.
          no_longer layout arrivals 0 true_cycles first count (omega (arith, since)) within quiet;
    }
