-- Retirements that a cycle reports one after another, and one other step at most at their end, make a true cycle.
use Rattle.rv_hardware.proofs.Words.{◌≡◌, ℕ, Bool, true, false, ◌||◌, ◌↔◌, List, [], ◌∷◌, ◌++◌, Some, All, Option, sym}
use Rattle.rv_hardware.proofs.Words.{refl, ap, ◌∙◌, true≢false, false≢true, or_from, All-append, All-cons, All-nil}
use Rattle.rv_hardware.proofs.Words.{list_any-append, list_any, Lines, Layout, State, Stop, EndAtTraps, IsTrueCycle}
use Rattle.rv_hardware.proofs.Words.{Lead, nowhere, onwards, reference_step, is_breakpoint, is_retirement, stamp_of}
use Rattle.rv_hardware.proofs.Words.{Step, arith}
use Rattle.rv_arch.specs.Step.{Step as MachineStep}
use Rattle.rv_arch.specs.declared.outcome.RefStep.TheVariants as machine
use Rattle.rv_arch.specs.declared.outcome.Stop.TheVariants as stop
pub use Rattle.rv_hardware.proofs.Repeated.{Leads as LeavesEither}

-- ---- retirements in one cycle
abbrev pub AreRetirements : ℕ → List Step → Type 0
AreRetirements cycle [] = Unit {0}
AreRetirements cycle (x ∷ xs) = (is_retirement x ≡ true) × (stamp_of x ≡ cycle) × AreRetirements cycle xs

-- one more retirement of the cycle
pub retirements_push : {cycle : ℕ} (xs : List Step) (x : Step) → AreRetirements cycle xs → is_retirement x ≡ true →
    stamp_of x ≡ cycle → AreRetirements cycle (xs ++ x ∷ [])
retirements_push [] x all retires stamped = (retires, stamped, tt)
retirements_push {cycle} (y ∷ xs) x all retires stamped = (all.0, all.1, retirements_push xs x all.2 retires stamped)

true_cycle_stamped : (cycle : ℕ) (xs : List Step) → AreRetirements cycle xs → All (λ s. stamp_of s ≡ cycle) xs
true_cycle_stamped cycle [] all = All-nil (λ s. stamp_of s ≡ cycle)
true_cycle_stamped cycle (x ∷ xs) all =
    All-cons (λ s. stamp_of s ≡ cycle) x xs all.1 (true_cycle_stamped cycle xs all.2)

true_cycle_precise : (cycle : ℕ) (xs : List Step) → AreRetirements cycle xs → EndAtTraps xs
true_cycle_precise cycle [] all = tt
true_cycle_precise cycle (x ∷ xs) all =
    ((λ traps. absurd (true≢false (sym all.0 ∙ traps))), true_cycle_precise cycle xs all.2)

true_cycle_precise_push : (cycle : ℕ) (xs : List Step) (x : Step) → AreRetirements cycle xs → EndAtTraps (xs ++ x ∷ [])
true_cycle_precise_push cycle [] x all = ((λ traps. refl), tt)
true_cycle_precise_push cycle (y ∷ xs) x all =
    ((λ traps. absurd (true≢false (sym all.0 ∙ traps))), true_cycle_precise_push cycle xs x all.2)

retirement_breaks_nothing : (x : Step) → is_retirement x ≡ true → is_breakpoint x ≡ false
retirement_breaks_nothing x given = grind (arith, false≢true)

true_cycle_breakpoint : (cycle : ℕ) (xs : List Step) → AreRetirements cycle xs → list_any is_breakpoint xs ≡ false
true_cycle_breakpoint cycle [] all = refl
true_cycle_breakpoint cycle (x ∷ xs) all =
    or_from (is_breakpoint x) (list_any is_breakpoint xs) (retirement_breaks_nothing x all.0)
    (true_cycle_breakpoint cycle xs all.2)

-- the machine's steps so far, and one more
pub true_cycle_leads : {layout : Layout} {lines : Lines} {s t u : State} {xs : List Step} → Lead layout lines s xs t →
    (x : Step) → MachineStep layout t lines (reference_step x) u → Lead layout lines s (xs ++ x ∷ []) u
true_cycle_leads nowhere x takes = onwards takes nowhere
true_cycle_leads (onwards first rest) x takes = onwards first (true_cycle_leads rest x takes)

or-none : (b : Bool) → (b || false) ≡ b
or-none b = grind arith

module _ {layout : Layout} {lines : Lines} (cycle : ℕ) {before s : State} {xs : List Step}
    (leads : Lead layout lines before xs s) (all : AreRetirements cycle xs) where
  -- a cycle that reports retirements alone
  pub true_retirements : {ending : Option Stop} → (ending ≡ Some stop.Breakpoint → ⊥) →
      ((pc : ℕ) → ending ≡ Some (stop.Stale pc) → MachineStep layout s lines (machine.Stale pc) s) →
      IsTrueCycle layout lines cycle before xs ending s
  true_retirements breaks given =
      grind (arith, true_cycle_precise, true_cycle_stamped, false≢true, true_cycle_breakpoint)

  -- ... and one more step at its end
  pub true_push : (x : Step) (t : State) {ending : Option Stop} → MachineStep layout s lines (reference_step x) t →
      stamp_of x ≡ cycle → (ending ≡ Some stop.Breakpoint) ↔ (is_breakpoint x ≡ true) →
      ((pc : ℕ) → ending ≡ Some (stop.Stale pc) → ⊥) → IsTrueCycle layout lines cycle before (xs ++ x ∷ []) ending t
  true_push x t takes stamped breaks stale =
      let any : list_any is_breakpoint (xs ++ x ∷ []) ≡ is_breakpoint x =
      list_any-append is_breakpoint xs (x ∷ []) ∙
      ap (λ (b : Bool). b || (is_breakpoint x || false)) (true_cycle_breakpoint cycle xs all) ∙
      or-none (is_breakpoint x) in
      record {
        leads = true_cycle_leads leads x takes;
        precise = true_cycle_precise_push cycle xs x all;
        stamped = All-append (λ s. stamp_of s ≡ cycle) xs (x ∷ []) (true_cycle_stamped cycle xs all)
            (All-cons (λ s. stamp_of s ≡ cycle) x [] stamped (All-nil (λ s. stamp_of s ≡ cycle)));
        breakpoint = ((λ is. any ∙ breaks.0 is), (λ is. breaks.1 (sym any ∙ is)));
        stale = λ pc is. absurd (stale pc is);
      }
