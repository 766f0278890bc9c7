-- A job that is run on the neighbours of its machine, one after the other.
use Rattle.std.proofs.Common.{◌≡◌, ◌∙◌, ℕ, ◌+◌, ◌<◌, List, [], ◌∷◌, ◌++◌, length, take, get_or, sym, ap, subst}
use Rattle.std.proofs.lemmas.List.{take_more}
use Rattle.std.specs.List.{AllZip}
use Rattle.rv_job.specs.declared.job.Job.{Job}
use Rattle.rv_report.specs.declared.sensitivity.TriedRun.{TriedRun}
use Rattle.rv_report.specs.declared.{shown.TableOptions.TableOptions}
use Rattle.rv_sensitivity.specs.declared.neighbour.Neighbour.{Neighbour}
use Rattle.rv_program.specs.Sensitivity.{IsTried}

pairs_more : {A B : Type 0} (R : A → B → Type 0) (xs : List A) (ys : List B) (x : A) (y : B) → AllZip R xs ys → R x y →
    AllZip R (xs ++ x ∷ []) (ys ++ y ∷ [])
pairs_more R [] [] x y each last = (last, tt)
pairs_more R [] (first ∷ ys) x y each last = absurd each
pairs_more R (first ∷ xs) [] x y each last = absurd each
pairs_more R (first ∷ xs) (its ∷ ys) x y each last = (each.0, pairs_more R xs ys x y each.1 last)

-- one more neighbour
pub tried_more : (options : TableOptions) (job : Job) (neighbours : List Neighbour) (place : ℕ) →
    place < length neighbours → (runs : List TriedRun) → AllZip (IsTried options job) (take place neighbours) runs
    → (neighbour : Neighbour) → neighbour ≡ get_or neighbours place neighbour → (run : TriedRun) →
    IsTried options job neighbour run →
    AllZip (IsTried options job) (take (place + 1) neighbours) (runs ++ run ∷ [])
tried_more options job neighbours place below runs done neighbour is run here =
    subst (λ l. AllZip (IsTried options job) l (runs ++ run ∷ []))
    (ap (λ n. take place neighbours ++ n ∷ []) is ∙ sym (take_more neighbours place neighbour below))
    (pairs_more (IsTried options job) (take place neighbours) runs neighbour run done here)
