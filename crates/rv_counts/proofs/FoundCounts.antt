-- How many there are of a sort, place by place, and whether there is one.
use Rattle.std.proofs.Common.{◌≡◌, ◌∙◌, ℕ, ◌+◌, ◌<◌, ◌≤◌, ◌==◌, Bool, not, List, [], ◌∷◌, ◌++◌, get_or}
use Rattle.std.proofs.Common.{length, take, count_by, cond, refl, ap, sym, arith, inl, inr, ne_eqb}
use Rattle.std.proofs.lemmas.Bool.{cases_Bool}
use Rattle.std.proofs.lemmas.List.Sums.{count_by_more_no, count_by_more_yes, sum_by-append, sum_by-cons}
use Rattle.std.specs.List.{list_any}

module _ {X : Type 0} (test : X → Bool) where
  -- some pass a test where their count is not 0
  pub any_counted : (xs : List X) → not (count_by test xs == 0) ≡ list_any test xs
  any_counted [] = refl
  any_counted (x ∷ xs) =
      let count = sum_by-cons (λ (y : X). cond (test y) 1 0) x xs in
      elim (cases_Bool (test x)) [
        | inl passes ↦
            let some = count ∙ ap (λ t. cond t 1 0 + count_by test xs) passes in
            ap not (ne_eqb (count_by test (x ∷ xs)) 0 (λ none. omega (arith, none, some))) ∙ sym (rw passes refl)
        | inr fails ↦
            let same : count_by test (x ∷ xs) ≡ count_by test xs =
            omega (arith, count ∙ ap (λ t. cond t 1 0 + count_by test xs) fails) in
            ap (λ n. not (n == 0)) same ∙ any_counted xs ∙ sym (rw fails refl)
      ]

  -- of two runs their counts together
  pub counted_runs : (old young all : List X) (first second : ℕ) → old ++ young ≡ all → first ≡ count_by test old →
      second ≡ count_by test young →
      first + second ≡ count_by test all
  counted_runs old young all first second are olds youngs =
      (λ i. olds i + youngs i) ∙ sym (sum_by-append (λ (x : X). cond (test x) 1 0) old young) ∙ ap (count_by test) are

  -- the count goes on by a place
  pub counted_on : (xs : List X) (place found found' : ℕ) (x d : X) (answer : Bool) → place < length xs →
      x ≡ get_or xs place d →
      answer ≡ test x → (found ≡ count_by test (take place xs)) × (found ≤ place) →
      found' ≡ cond answer (found + 1) found →
      (found' ≡ count_by test (take (place + 1) xs)) × (found' ≤ place + 1)
  counted_on xs place found found' x d answer within is answered so_far more =
      grind (arith, count_by_more_yes, count_by_more_no)
