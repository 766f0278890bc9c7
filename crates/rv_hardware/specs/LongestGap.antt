-- The longest gap of a run, by the stamps of its steps.
use Rattle.std.specs.Prelude.{◌⊎◌, ℕ, ◌+◌, ◌<◌, ◌≤◌, List}
use Rattle.std.specs.List.{All}
use Rattle.rv_hardware.specs.Step.{stamp_of}
use Rattle.rv_hardware.specs.declared.step.Step.{Step}

-- so many consecutive cycles, from the first on, have no step
abbrev pub IsGap : List Step → ℕ → ℕ → Type 0
IsGap steps first count = All (λ s. (stamp_of s < first) ⊎ (first + count ≤ stamp_of s)) steps

-- Of the cycles of a run, numbered from `start` to below `done`, so many consecutive ones have no step, and no more have none.
pub record IsLongestGap (start done : ℕ) (steps : List Step) (gap : ℕ) : Type 0 where
  pub first : ℕ
  pub since : start ≤ first
  pub within : first + gap ≤ done
  pub is_gap : IsGap steps first gap
  pub longest : (other count : ℕ) → start ≤ other → other + count ≤ done → IsGap steps other count → count ≤ gap
