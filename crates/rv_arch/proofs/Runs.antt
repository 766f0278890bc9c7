-- A run that goes on by one step.
use Rattle.std.proofs.Common.{◌≡◌, ℕ, ◌+◌, Bool, false, List, [], ◌∷◌, ◌++◌, refl, ap, sym, ◌∙◌, arith}
use Rattle.std.specs.Prelude.{if◌then◌else◌}
use Rattle.std.specs.List.{range_with_len}
use Rattle.std.proofs.lemmas.List.FromFn.{map-range_with_len_more}
use Rattle.std.proofs.lemmas.List.{map-id}
use Rattle.rv_isa.specs.declared.lines.Arrival.{Arrival}
use Rattle.rv_isa.specs.declared.lines.Lines.{Lines}
use Rattle.rv_isa.specs.Arrivals.{lines_at}
use Rattle.rv_arch.specs.declared.outcome.RefStep.{RefStep}
use Rattle.rv_memory.specs.Memory.{Layout}
use Rattle.rv_arch.specs.Run.{Run, ended, stepped, is_stale, count_of, lines_through}
use Rattle.rv_arch.specs.State.{State}
use Rattle.rv_arch.specs.Step.{Step}

-- a run and one more step from its end, whose outcome is not stale, are a run
pub run_more : {layout : Layout} {arrivals : List Arrival} {s t u : State} {stamps : List ℕ} {outcomes : List RefStep}
    (stamp : ℕ) {outcome : RefStep} →
    Run layout arrivals s stamps outcomes t → Step layout t (lines_at arrivals stamp) outcome u →
    is_stale outcome ≡ false →
    Run layout arrivals s (stamps ++ stamp ∷ []) (outcomes ++ outcome ∷ []) u
run_more stamp ended step fresh = stepped step fresh ended
run_more stamp (stepped first first_fresh rest) step fresh = stepped first first_fresh (run_more stamp rest step fresh)

-- one more outcome adds one to the count where it passes the test, and nothing where it fails
pub count_of_more : (test : RefStep → Bool) (outcomes : List RefStep) (outcome : RefStep) →
    count_of test (outcomes ++ outcome ∷ []) ≡ count_of test outcomes + (if test outcome then 1 else 0)
count_of_more test [] outcome = omega arith
count_of_more test (o ∷ outcomes) outcome = omega (arith, count_of_more test outcomes outcome)

-- after one more step the lines that the machine was last given are those at its stamp
pub lines_through_more : (arrivals : List Arrival) (before : Lines) (stamps : List ℕ) (stamp : ℕ) →
    lines_through arrivals before (stamps ++ stamp ∷ []) ≡ lines_at arrivals stamp
lines_through_more arrivals before [] stamp = refl
lines_through_more arrivals before (first ∷ stamps) stamp =
    lines_through_more arrivals (lines_at arrivals first) stamps stamp

-- the numbers below n + 1 are those below n, then n
pub range_more : (n : ℕ) → range_with_len 0 (n + 1) ≡ range_with_len 0 n ++ n ∷ []
range_more n =
    sym (map-id (range_with_len 0 (n + 1))) ∙ map-range_with_len_more (λ (k : ℕ). k) 0 n n (omega arith)
    ∙ ap (λ (ks : List ℕ). ks ++ n ∷ []) (map-id (range_with_len 0 n))
