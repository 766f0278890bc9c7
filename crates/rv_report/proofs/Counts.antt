-- Counts of the steps so far.
use Rattle.std.proofs.Common.{◌≡◌, ◌∙◌, ℕ, ◌+◌, ◌<◌, ◌≤◌, Bool, List, [], length}
use Rattle.std.proofs.Common.{take, get_or, count_by, ap, sym, arith, length-take-le}
use Rattle.std.specs.Prelude.{if◌then◌else◌}
use Rattle.std.proofs.lemmas.List.Sums.{count_by-le-length, count_by_more_no, count_by_more_yes}
use Rattle.rv_hardware.specs.Step.{is_interrupt, is_retirement, is_trap}
use Rattle.rv_hardware.specs.declared.step.Step.{Step}
use Rattle.rv_report.specs.Totals.{counts_of}
use Rattle.rv_report.specs.declared.totals.StepCounts.{StepCounts}

-- one item more is counted where it passes the test
count_by-more : {X : Type 0} (p : X → Bool) (xs : List X) (place : ℕ) (other : X) → place < length xs →
    count_by p (take (place + 1) xs) ≡ count_by p (take place xs) + (if p (get_or xs place other) then 1 else 0)
count_by-more p xs place other here = grind (arith, count_by_more_yes, count_by_more_no)

-- no more steps are counted of a sort than there are
pub record AreFew (most : ℕ) (counts : StepCounts) : Type 0 where
  pub retired : counts.retired ≤ most
  pub traps : counts.traps ≤ most
  pub interrupts : counts.interrupts ≤ most

-- the counts of no step
pub counts_nothing : {counts : StepCounts} → (counts.retired ≡ 0) × ((counts.traps ≡ 0) × (counts.interrupts ≡ 0)) →
    counts ≡ counts_of []
counts_nothing zeros = λ i. record { retired = zeros.0 i; traps = zeros.1.0 i; interrupts = zeros.1.1 i }

-- the counts of the first steps
module _ {counts : StepCounts} (steps : List Step) (place : ℕ) (here : place < length steps)
    (so_far : counts ≡ counts_of (take place steps)) where
  more : (p : Step → Bool) (step : Step) (old new : ℕ) → step ≡ get_or steps place step →
      old ≡ count_by p (take place steps) → new ≡ old + (if p step then 1 else 0) →
      new ≡ count_by p (take (place + 1) steps)
  more p step old new is before counted =
      counted ∙ (λ i. before i + (if p (is i) then 1 else 0)) ∙ sym (count_by-more p steps place step here)

  -- with the next step
  pub counts_with : {counts' : StepCounts} (step : Step) → step ≡ get_or steps place step →
      counts'.retired ≡ counts.retired + (if is_retirement step then 1 else 0) →
      counts'.traps ≡ counts.traps + (if is_trap step then 1 else 0) →
      counts'.interrupts ≡ counts.interrupts + (if is_interrupt step then 1 else 0) →
      counts' ≡ counts_of (take (place + 1) steps)
  counts_with step is retired traps interrupts =
      let retired_are = more is_retirement step _ _ is (ap (λ (c : StepCounts). c.retired) so_far) retired in
      let traps_are = more is_trap step _ _ is (ap (λ (c : StepCounts). c.traps) so_far) traps in
      let interrupts_are = more is_interrupt step _ _ is (ap (λ (c : StepCounts). c.interrupts) so_far) interrupts in
      λ i. record { retired = retired_are i; traps = traps_are i; interrupts = interrupts_are i }
