-- An instruction in flight adds nothing to what is kept of a run.
use Rattle.std.proofs.Common.{◌≡◌, ◌∙◌, ℕ, suc, Bool, true, false, cond, List, [], ◌∷◌, ◌++◌, Option, None, refl, sym}
use Rattle.std.proofs.Common.{ap, arith, count_by}
use Rattle.std.proofs.lemmas.Bool.{false≢true}
use Rattle.std.proofs.lemmas.List.Sums.{sum_by-append}
use Rattle.std.specs.List.{AllPass}
use Rattle.rv_passage.specs.Left.{IsUpToYoungestLeft}
use Rattle.rv_passage.specs.Passage.{is_in_flight, is_retirement, is_running}
use Rattle.rv_passage.specs.declared.passage.{Ending.Ending, Passage.Passage}
use Rattle.rv_counts.specs.declared.loads.LoadCosts.{LoadCosts}
use Rattle.rv_counts.proofs.Mispredicted.{unretired-right}
use Rattle.rv_sentences.specs.Load.{loads_of, retired_load_cost}
use Rattle.rv_sentences.specs.WordCount.{with_all, with_one}
use Rattle.rv_sentences.specs.WordNotes.{Notes}
use Rattle.rv_sentences.specs.Work.{word_in}
use Rattle.rv_sentences.specs.declared.work.Class.TheVariants.{Branch, Mispredicted}

-- it did not retire
running : (e : Ending) → is_running e ≡ true → is_retirement e ≡ false
running e flies = grind (arith, false≢true)

unretired : (p : Passage) → is_in_flight p ≡ true → is_retirement p.ending ≡ false
unretired p flies = running p.ending flies

-- an instruction in flight is counted as no branch
pub no_branch : (p : Passage) → is_in_flight p ≡ true → word_in Branch p ≡ None
no_branch p flies = rw (unretired p flies) refl

-- nor is it one that was mispredicted
pub no_mispredicted : (p : Passage) → is_in_flight p ≡ true → word_in Mispredicted p ≡ None
no_mispredicted p flies = rw (unretired-right p (unretired p flies)) refl

no_load : (p : Passage) → is_in_flight p ≡ true → retired_load_cost p ≡ None
no_load p flies = rw (unretired p flies) refl

-- of the instructions up to the youngest that left there are as many in a class in which none is in flight
module _ (test : Passage → Bool) (fails : (p : Passage) → is_in_flight p ≡ true → test p ≡ false) where
  none_counted : (ps : List Passage) → AllPass is_in_flight ps → count_by test ps ≡ 0
  none_counted [] all = refl
  none_counted (p ∷ ps) all =
      rw (fails p (all 0 p (omega arith))) (none_counted ps (λ k d within. all (suc k) d (omega (arith, within))))

  counted_among : (kept others : List Passage) → AllPass is_in_flight others →
      count_by test (kept ++ others) ≡ count_by test kept
  counted_among kept others all =
      omega (arith, sum_by-append (λ p. cond (test p) 1 0) kept others, none_counted others all)

  counted_same : (rows kept : List Passage) → IsUpToYoungestLeft rows kept → count_by test kept ≡ count_by test rows
  counted_same rows kept up = sym (counted_among kept up.others up.in_flight) ∙ ap (count_by test) (sym up.rows_are)

-- and as many at each word
module _ (place : Passage → Option ℕ) (fails : (p : Passage) → is_in_flight p ≡ true → place p ≡ None) where
  none_noted : (ps : List Passage) (notes : Notes ℕ) → AllPass is_in_flight ps → with_all place ps notes ≡ notes
  none_noted [] notes all = refl
  none_noted (p ∷ ps) notes all =
      ap (λ o. with_one o (with_all place ps notes)) (fails p (all 0 p (omega arith)))
      ∙ none_noted ps notes (λ k d within. all (suc k) d (omega (arith, within)))

  noted_among : (kept others : List Passage) (notes : Notes ℕ) → AllPass is_in_flight others →
      with_all place (kept ++ others) notes ≡ with_all place kept notes
  noted_among [] others notes all = none_noted others notes all
  noted_among (p ∷ ps) others notes all = ap (with_one (place p)) (noted_among ps others notes all)

  -- so what is counted at words is the same without them
  pub noted_same : (rows kept : List Passage) (notes : Notes ℕ) → IsUpToYoungestLeft rows kept →
      with_all place kept notes ≡ with_all place rows notes
  noted_same rows kept notes up = sym (noted_among kept up.others notes up.in_flight)
      ∙ ap (λ ps. with_all place ps notes) (sym up.rows_are)

-- and so are the loads
pub loads_same : (costs : LoadCosts) (rows kept : List Passage) → IsUpToYoungestLeft rows kept →
    loads_of costs kept ≡ loads_of costs rows
loads_same costs rows kept up = grind (arith, counted_same, no_load)
