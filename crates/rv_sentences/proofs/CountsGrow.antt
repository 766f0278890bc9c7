-- What is counted at the words of RAM, as more things come.
use Rattle.std.proofs.Common.{◌≡◌, ◌∙◌, ℕ, ◌+◌, List, [], ◌∷◌, ◌++◌, Option, cond, refl, ap, arith}
use Rattle.std.proofs.lemmas.List.Sums.{sum_by-append, sum_by-cons}
use Rattle.rv_isa.specs.declared.values.Values.{Values}
use Rattle.rv_sentences.specs.WordCount.{count_at, is_word, with_all, with_one}
use Rattle.rv_sentences.specs.WordNotes.{Notes, notes_of}
use Rattle.rv_sentences.proofs.WordTable.{change_one}

-- one thing more
pub with_one_at : (values : Values) (place : Option ℕ) (old new : ℕ → ℕ) →
    ((w : ℕ) → new w ≡ old w + cond (is_word w place) 1 0) → with_one place (notes_of values old) ≡ notes_of values new
with_one_at values place old new are = grind (arith, change_one)

-- some things more
pub with_all_at : {X : Type 0} (values : Values) (place : X → Option ℕ) (xs : List X) (old new : ℕ → ℕ) →
    ((w : ℕ) → new w ≡ old w + count_at place xs w)
    → with_all place xs (notes_of values old) ≡ notes_of values new
with_all_at values place [] old new are = grind arith
with_all_at values place (x ∷ xs) old new are =
    let rest : ℕ → ℕ = λ w. old w + count_at place xs w in
    ap (with_one (place x)) (with_all_at values place xs old rest (λ w. refl)) ∙
    with_one_at values (place x) rest new
    (λ w. omega (arith, are w, sum_by-cons (λ y. cond (is_word w (place y)) 1 0) x xs))

-- one place more at the end
pub with_last_at : {X : Type 0} (values : Values) (place : X → Option ℕ) (xs : List X) (x : X) →
    with_one (place x) (notes_of values (count_at place xs)) ≡ notes_of values (count_at place (xs ++ x ∷ []))
with_last_at values place xs x = grind (arith, with_one_at, sum_by-append)

-- the last of some things comes first
pub with_all-last : {X : Type 0} (place : X → Option ℕ) (xs : List X) (x : X) (counts : Notes ℕ) →
    with_all place (xs ++ x ∷ []) counts ≡ with_all place xs (with_one (place x) counts)
with_all-last place [] x counts = refl
with_all-last place (y ∷ xs) x counts = ap (with_one (place y)) (with_all-last place xs x counts)
