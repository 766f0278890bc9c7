-- Where the instructions that left are older than the others, all that left are among the first so many.
use Rattle.std.proofs.Common.{◌≡◌, ◌∙◌, ℕ, suc, ◌+◌, true, false, List, [], ◌∷◌, Option}
use Rattle.std.proofs.Common.{None, Some, refl, ap, sym, subst, arith, inl, inr, take}
use Rattle.std.specs.Prelude.{Bool, if◌then◌else◌, cond, count_by}
use Rattle.std.specs.List.{list_all}
use Rattle.std.proofs.lemmas.Bool.{cases_Bool}
use Rattle.std.proofs.lemmas.List.Sums.{sum_by-cons}
use Rattle.std.proofs.lemmas.Option.{none-some}
use Rattle.rv_passage.specs.Passage.{is_in_flight, is_running}
use Rattle.rv_passage.specs.declared.passage.{Ending.Ending, Passage.Passage}
use Rattle.rv_causes.specs.Keeping.{forgotten_in, one_more}
use Rattle.rv_causes.specs.Leaving.{HasAllThatLeft, with_left, with_row, with_rows}
use Rattle.rv_causes.specs.Setting.{Setting}
use Rattle.rv_causes.specs.Sought.{is_end, is_sought}
use Rattle.rv_causes.specs.declared.{leaving.Leaving.Leaving, way.Way.Way}
use Rattle.rv_causes.specs.declared.sought.Sought.TheVariants as sought
use Rattle.rv_causes.proofs.Forgotten.{same-count}

no-end : (e : Ending) → is_running e ≡ true → is_end e ≡ false
no-end e runs = grind arith

-- of what is in flight nothing leaves
open-rows : (s : Setting) (rows : List Passage) (ways : List Way) (leaving : Leaving) →
    list_all is_in_flight rows ≡ true
    → with_rows s rows ways leaving ≡ leaving
open-rows s [] ways leaving all = refl
open-rows s (p ∷ ps) [] leaving all = refl
open-rows s (p ∷ ps) (w ∷ ws) leaving all = elim (cases_Bool (is_in_flight p)) [
  | inl flies ↦
      let rest : list_all is_in_flight ps ≡ true = rw flies at all in
      ap (λ (b : Bool). with_rows s ps ws (if b then with_left s p w leaving else leaving)) (no-end p.ending flies)
      ∙ open-rows s ps ws leaving rest
  | inr ended ↦ let none : false ≡ true = rw ended at all in cc
]

count-cons : (p : Passage) (rows : List Passage)
    → count_by (is_sought sought.Ended) (p ∷ rows) ≡ cond (is_end p.ending) 1 0 + count_by (is_sought sought.Ended) rows
count-cons p rows = sum_by-cons (λ (q : Passage). cond (is_sought sought.Ended q) 1 0) p rows

open-count : (rows : List Passage) → list_all is_in_flight rows ≡ true → count_by (is_sought sought.Ended) rows ≡ 0
open-count [] all = refl
open-count (p ∷ ps) all = elim (cases_Bool (is_in_flight p)) [
  | inl flies ↦
      let rest : list_all is_in_flight ps ≡ true = rw flies at all in
      let none : is_end p.ending ≡ false = no-end p.ending flies in
      count-cons p ps ∙ ap (λ (b : Bool). cond b 1 0 + count_by (is_sought sought.Ended) ps) none
      ∙ ap (λ (n : ℕ). 0 + n) (open-count ps rest)
  | inr ended ↦ let none : false ≡ true = rw ended at all in cc
]

more-left : (p : Passage) (rows some : List Passage) → HasAllThatLeft rows some →
    (s : Setting) (ways : List Way) (leaving : Leaving)
    → with_rows s (p ∷ some) ways leaving ≡ with_rows s (p ∷ rows) ways leaving
more-left p rows some has s [] leaving = refl
more-left p rows some has s (w ∷ ws) leaving = has.leaving s ws (with_row s p w leaving)

one-more : (p : Passage) (rows some : List Passage) → HasAllThatLeft rows some → HasAllThatLeft (p ∷ rows) (p ∷ some)
one-more p rows some has = record {
  leaving = more-left p rows some has;
  count = count-cons p some ∙ ap (λ (n : ℕ). cond (is_end p.ending) 1 0 + n) has.count ∙ sym (count-cons p rows);
}

none-of : (rows : List Passage) → list_all is_in_flight rows ≡ true → HasAllThatLeft rows []
none-of rows all = grind (arith, open-rows, open-count)

next-has : (p : Passage) (ps : List Passage) (count : ℕ) (o : Option ℕ) →
    ((n : ℕ) → o ≡ Some n → HasAllThatLeft ps (take n ps))
    → one_more o ≡ Some count → HasAllThatLeft (p ∷ ps) (take count (p ∷ ps))
next-has p ps count None others is = absurd (none-some count is)
next-has p ps count (Some n) others is =
    let one : 1 + n ≡ count = same-count (1 + n) count is in
    let next : suc n ≡ count = omega (arith, one) in
    subst (λ (k : ℕ). HasAllThatLeft (p ∷ ps) (take k (p ∷ ps))) next (one-more p ps (take n ps) (others n refl))

-- all that left are among the first so many, where so many can be forgotten
pub all_left : (rows : List Passage) (count : ℕ) → forgotten_in rows ≡ Some count →
    HasAllThatLeft rows (take count rows)
all_left [] count is = subst (λ (n : ℕ). HasAllThatLeft [] (take n [])) (same-count 0 count is) (none-of [] refl)
all_left (p ∷ ps) count is = elim (cases_Bool (is_in_flight p)) [
  | inl flies ↦
      let here : (if list_all is_in_flight ps then Some 0 else None) ≡ Some count = rw flies at is in
      elim (cases_Bool (list_all is_in_flight ps)) [
        | inl all ↦
            let zero-is : Some 0 ≡ Some count = rw all at here in
            let both : list_all is_in_flight (p ∷ ps) ≡ true = rw flies all in
            subst (λ (n : ℕ). HasAllThatLeft (p ∷ ps) (take n (p ∷ ps))) (same-count 0 count zero-is)
            (none-of (p ∷ ps) both)
        | inr some ↦ let none : None ≡ Some count = rw some at here in absurd (none-some count none)
      ]
  | inr ended ↦
      let more : one_more (forgotten_in ps) ≡ Some count = rw ended at is in
      next-has p ps count (forgotten_in ps) (λ n it. all_left ps n it) more
]
