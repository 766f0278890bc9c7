-- The first instruction that is looked for, from a place on.
use Rattle.std.proofs.Common.{◌≡◌, ◌∙◌, ◌<◌, ℕ, zero, suc, List, [], ◌∷◌, None, Some}
use Rattle.std.proofs.Common.{arith, drop, drop-cons, false, length, refl, ap, sym}
use Rattle.std.proofs.lemmas.Bool.Decides.{nat_tests}
use Rattle.std.proofs.lemmas.List.Sums.{count_by-le-length}
use Rattle.std.specs.Prelude.{◌==◌, count_by, if◌then◌else◌, slice_get}
use Rattle.std.proofs.lemmas.Option.{get_or_from_slice_get, none-some, slice_get_within}
use Rattle.rv_passage.specs.declared.passage.Passage.{Passage}
use Rattle.rv_causes.specs.Lookup.{first_of}
use Rattle.rv_causes.specs.Sought.{is_sought}
use Rattle.rv_causes.specs.declared.{sought.Sought.Sought, way.Way.Way}

-- what comes from a place on begins with what is there
drop-here : {X : Type 0} (xs : List X) (k : ℕ) (x : X) → slice_get xs k ≡ Some x → drop k xs ≡ x ∷ drop (suc k) xs
drop-here xs k x is =
    drop-cons xs k x (slice_get_within xs k x is) ∙ ap (λ y. y ∷ drop (suc k) xs) (get_or_from_slice_get xs k x x is)

-- there is none where no instruction is
pub first_none : (sought : Sought) (k : ℕ) (rows : List Passage) (ways : List Way) → slice_get rows k ≡ None
    → first_of sought (drop k rows) ways ≡ None
first_none sought zero [] ways none = refl
first_none sought zero (p ∷ ps) ways none = absurd (none-some p (sym none))
first_none sought (suc k) [] ways none = refl
first_none sought (suc k) (p ∷ ps) ways none = first_none sought k ps ways none

-- it is the one at a place, or comes later
pub first_here : (sought : Sought) (k : ℕ) (rows : List Passage) (ways : List Way) (p : Passage) (w : Way)
    → slice_get rows k ≡ Some p → slice_get ways k ≡ Some w
    → first_of sought (drop k rows) (drop k ways)
    ≡ (if is_sought sought p then Some (record { row = p; way = w }) else first_of sought
    (drop (suc k) rows) (drop (suc k) ways))
first_here sought k rows ways p w row way = λ i. first_of sought (drop-here rows k p row i) (drop-here ways k w way i)

-- fewer instructions than are asked for are not as many
pub too_few : (sought : Sought) (rows : List Passage) (places : ℕ) → length rows < places →
    (count_by (is_sought sought) rows == places) ≡ false
too_few sought rows places few = grind (arith, nat_tests, count_by-le-length (is_sought sought) rows, few)
