-- Where the instructions that left are older than the others, the events of the others are what comes after so many.
use Rattle.std.proofs.Common.{◌≡◌, ◌∙◌, ℕ, ◌+◌, ◌≤◌, true, false, List, [], ◌∷◌, ◌++◌, length, drop, Option, None, Some}
use Rattle.std.proofs.Common.{refl, ap, sym, arith, inl, inr}
use Rattle.std.specs.Prelude.{Bool, if◌then◌else◌, IfSome}
use Rattle.std.specs.List.{list_all}
use Rattle.std.specs.Option.{unwrap_or}
use Rattle.std.proofs.Math.Seq.{drop-append_seam}
use Rattle.std.proofs.lemmas.Bool.{cases_Bool}
use Rattle.std.proofs.lemmas.Option.{none-some}
use Rattle.rv_passage.specs.Passage.{is_in_flight}
use Rattle.rv_passage.specs.declared.passage.Passage.{Passage}
use Rattle.rv_causes.specs.Keeping.{forgotten_in, one_more}
use Rattle.rv_causes.specs.Path.{AreForgotten, still_in_flight}
use Rattle.rv_causes.specs.declared.way.Way.{Way}

-- what comes after so many
pub drop-joined : {X : Type 0} (n : ℕ) (front back : List X) → length front ≡ n → drop n (front ++ back) ≡ back
drop-joined n front back is = ap (λ k. drop k (front ++ back)) (sym is) ∙ drop-append_seam front back

-- two counts that are found by the same search are the same
pub same-count : (count other : ℕ) → Some count ≡ Some other → count ≡ other
same-count count other is = ap (λ (o : Option ℕ). unwrap_or o 0) is

-- where all are in flight, none is left out
open-all : (rows : List Passage) (ways : List Way) → list_all is_in_flight rows ≡ true → length ways ≡ length rows →
    still_in_flight rows ways ≡ ways
open-all [] [] all long = refl
open-all [] (w ∷ ws) all long = absurd (omega (arith, long))
open-all (p ∷ ps) [] all long = refl
open-all (p ∷ ps) (w ∷ ws) all long = elim (cases_Bool (is_in_flight p)) [
  | inl flies ↦
      let rest : list_all is_in_flight ps ≡ true = rw flies at all in
      let others : length ws ≡ length ps = omega (arith, long) in
      rw flies (ap (λ l. w ∷ l) (open-all ps ws rest others))
  | inr ended ↦ let none : false ≡ true = rw ended at all in cc
]

none-forgotten : (ps : List Passage) (w : Way) (ws : List Way) (count : ℕ) (all : Bool) →
    (all ≡ true → still_in_flight ps ws ≡ ws)
    → (if all then Some 0 else None) ≡ Some count → w ∷ still_in_flight ps ws ≡ drop count (w ∷ ws)
none-forgotten ps w ws count all others is = grind (arith, same-count, none-some)

more-forgotten : (ps : List Passage) (w : Way) (ws : List Way) (count : ℕ) (o : Option ℕ)
    → ((n : ℕ) → o ≡ Some n → still_in_flight ps ws ≡ drop n ws) → one_more o ≡ Some count →
    still_in_flight ps ws ≡ drop count (w ∷ ws)
more-forgotten ps w ws count o others is = grind (arith, none-some, same-count)

pub forgotten : (rows : List Passage) (ways : List Way) (count : ℕ) → forgotten_in rows ≡ Some count →
    length ways ≡ length rows
    → still_in_flight rows ways ≡ drop count ways
forgotten [] [] count is long = ap (λ (n : ℕ). drop n []) (same-count 0 count is)
forgotten [] (w ∷ ws) count is long = absurd (omega (arith, long))
forgotten (p ∷ ps) [] count is long = absurd (omega (arith, long))
forgotten (p ∷ ps) (w ∷ ws) count is long =
    let others : length ws ≡ length ps = omega (arith, long) in
    elim (cases_Bool (is_in_flight p)) [
      | inl flies ↦
          let here : (if list_all is_in_flight ps then Some 0 else None) ≡ Some count = rw flies at is in
          rw flies (none-forgotten ps w ws count (list_all is_in_flight ps) (λ all. open-all ps ws all others) here)
      | inr ended ↦
          let more : one_more (forgotten_in ps) ≡ Some count = rw ended at is in
          rw ended (more-forgotten ps w ws count (forgotten_in ps) (λ n it. forgotten ps ws n it others) more)
    ]

few-here : (long count : ℕ) (all : Bool) → (if all then Some 0 else None) ≡ Some count → count ≤ long
few-here long count true is = omega (arith, same-count 0 count is)
few-here long count false is = absurd (none-some count is)

few-more : (long count : ℕ) (o : Option ℕ) → ((n : ℕ) → o ≡ Some n → n ≤ long) → one_more o ≡ Some count →
    count ≤ long + 1
few-more long count None others is = absurd (none-some count is)
few-more long count (Some n) others is = omega (arith, same-count (1 + n) count is, others n refl)

pub forgotten-few : (rows : List Passage) (count : ℕ) → forgotten_in rows ≡ Some count → count ≤ length rows
forgotten-few [] count is = omega (arith, same-count 0 count is)
forgotten-few (p ∷ ps) count is = elim (cases_Bool (is_in_flight p)) [
  | inl flies ↦
      let here : (if list_all is_in_flight ps then Some 0 else None) ≡ Some count = rw flies at is in
      few-here (length (p ∷ ps)) count (list_all is_in_flight ps) here
  | inr ended ↦
      let more : one_more (forgotten_in ps) ≡ Some count = rw ended at is in
      omega (arith, few-more (length ps) count (forgotten_in ps) (λ n it. forgotten-few ps n it) more)
]

-- the events of those that left go, where there is one of each
pub are_forgotten : (rows : List Passage) (ways : List Way) (ended : Option ℕ) → ended ≡ forgotten_in rows →
    length ways ≡ length rows
    → IfSome ended (AreForgotten rows ways)
are_forgotten rows ways ended is long = grind (arith, forgotten-few, forgotten)
