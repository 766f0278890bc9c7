use Rattle.std.proofs.Common.{◌≡◌, ◌≤◌, ◌∙◌, ℕ, zero, suc, nat_le, true, false, List, [], ◌∷◌, length, get_or}
use Rattle.std.proofs.Common.{refl, sym, ap, subst, arith, inl, inr}
use Rattle.std.specs.List.{list_all}
use Rattle.std.proofs.lemmas.Bool.{cases_Bool}
use Rattle.std.proofs.lemmas.Bool.Decides.{nat_tests}
use Rattle.rv_passage.specs.Names.{register_names}
use Rattle.rv_passage.proofs.names.register_name.Goals as goal

few_letters : (letters : ℕ) → nat_le letters 4 ≡ true → letters ≤ 4
few_letters letters few = grind (arith, nat_tests)

-- of names with four letters at most each has no more, nor has none
short-name : (names : List (List ℕ)) (number : ℕ) → list_all (λ name. nat_le (length name) 4) names ≡ true →
    length (get_or names number []) ≤ 4
short-name [] number all = omega arith
short-name (n ∷ names) zero all = grind arith
short-name (n ∷ names) (suc number) all = elim (cases_Bool (nat_le (length n) 4)) [
  | inl few ↦
      let rest : list_all (λ name. nat_le (length name) 4) names ≡ true = rw few at all in
      short-name names number rest
  | inr many ↦ let none : false ≡ true = rw many at all in cc
]

-- the program's table is the definition's
pub returns : goal.returns
unfolding register_names
returns c =
    let place = c.from.ensures ∙ c.number.ensures.number in
    let name = c.name_at.ensures ∙ ap (λ number. get_or register_names number []) place in
    record {
      name = name;
      short = subst (λ l. length l ≤ 4) (sym name) (short-name register_names c.args.register refl);
    }
