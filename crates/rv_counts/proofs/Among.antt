-- Where no instruction is so that does not pass a test, as many are so among those that pass it as among all.
use Rattle.std.proofs.Common.{◌≡◌, ◌∙◌, Bool, false, List, [], ◌∷◌, length, filter, count_by, refl, sym, ap, arith}
use Rattle.std.proofs.lemmas.List.Sums.{length-filter}
use Rattle.rv_passage.specs.declared.passage.Passage.{Passage}

module _ (passes test : Passage → Bool) (fails : (p : Passage) → passes p ≡ false → test p ≡ false) where
  -- they are the same ones
  pub filter-among : (ps : List Passage) → filter test (filter passes ps) ≡ filter test ps
  filter-among [] = refl
  filter-among (p ∷ ps) = grind (arith, filter-among ps)

  pub count-among : (ps : List Passage) → count_by test (filter passes ps) ≡ count_by test ps
  count-among ps = sym (length-filter test (filter passes ps)) ∙ ap length (filter-among ps) ∙ length-filter test ps
