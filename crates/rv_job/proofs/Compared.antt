-- Steps of reading a comparison.
use Rattle.std.proofs.Common.{◌≡◌, ◌∙◌, ℕ, ◌+◌, ◌<◌, List, [], ◌∷◌, ◌++◌, length, take, drop, get_or, refl}
use Rattle.std.proofs.Common.{sym, ap, subst, add-one, arith, length-append, length-take-le, None, Ok}
use Rattle.std.proofs.Math.Seq.{drop-cons}
use Rattle.std.proofs.lemmas.List.{take_more, take-append-drop}
use Rattle.rv_isa.specs.declared.values.Values.{Values}
use Rattle.rv_describe.specs.Description.{description_of}
use Rattle.rv_job.specs.Comparison.{AreLoaded, Compares, IsAfter, IsLoaded}
use Rattle.rv_job.specs.Comparison.{RefusesDescribed, RefusesLoading, RefusesProgram}
use Rattle.rv_job.specs.Parts.{halves_of}
use Rattle.rv_job.specs.declared.errors.SimError.{SimError}
use Rattle.rv_job.specs.declared.job.Job.{Job}

-- after no description stands the whole text
after_none : {text rest : List ℕ} {machines : List Values} → IsAfter text machines rest → length machines ≡ 0 →
    rest ≡ text
after_none IsAfter.nothing none = refl
after_none (IsAfter.another {machines = machines} {machine = machine} front is described) none =
    absurd (omega (arith, none, length-append machines (machine ∷ [])))

-- a text without separator
pub compares_alone : (text rest : List ℕ) (machines : List Values) (machine : Values) → IsAfter text machines rest →
    length machines ≡ 0
    → halves_of rest ≡ None → description_of [] ≡ Ok machine → Compares text (machines ++ machine ∷ []) rest
compares_alone text rest [] machine front none last described =
    let whole = after_none front none in
    subst (Compares text (machine ∷ [])) (sym whole)
    (Compares.alone (subst (λ t. halves_of t ≡ None) whole last) described)
compares_alone text rest (first ∷ machines) machine front none last described = absurd (omega (arith, none))

module _ (program : List ℕ) (machines : List Values) (place : ℕ) (below : place < length machines) (jobs : List Job)
    (loaded : AreLoaded program (take place machines) jobs) (machine : Values)
    (is : machine ≡ get_or machines place machine) where
  -- one more machine
  pub loaded_more : (job : Job) → IsLoaded program machine job →
      AreLoaded program (take (place + 1) machines) (jobs ++ job ∷ [])
  loaded_more job here =
      subst (λ l. AreLoaded program l (jobs ++ job ∷ []))
      (ap (λ m. take place machines ++ m ∷ []) is ∙ sym (take_more machines place machine below))
      (AreLoaded.another loaded here)

  -- the program is refused on one of the machines
  pub refused_at : (error : SimError) → RefusesProgram (place + 1) program machine error →
      RefusesLoading program machines error
  refused_at error refused =
      let number : place ≡ length (take place machines) = sym (length-take-le place machines (omega arith)) in
      let whole : take place machines ++ machine ∷ drop (place + 1) machines ≡ machines =
      ap (λ m. take place machines ++ m ∷ drop (place + 1) machines) is
      ∙ ap (λ l. take place machines ++ l)
      (sym (drop-cons machines place machine below
      ∙ ap (λ n. get_or machines place machine ∷ drop n machines) (sym (add-one place))))
      ∙ take-append-drop place machines in
      subst (λ l. RefusesLoading program l error) whole
      (RefusesLoading.on machine (drop (place + 1) machines) loaded
      (subst (λ n. RefusesProgram (n + 1) program machine error) number refused))

-- what refuses the description with a number refuses the one with an equal number
pub renumbered : (number other : ℕ) (part : List ℕ) (error : SimError) → number ≡ other →
    RefusesDescribed (number + 1) part error → RefusesDescribed (other + 1) part error
renumbered number other part error is refused = subst (λ n. RefusesDescribed (n + 1) part error) is refused
