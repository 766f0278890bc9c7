-- The instructions up to the youngest that left the hardware, from the youngest of all on.
use Rattle.std.proofs.Common.{◌≡◌, ◌∙◌, ℕ, ◌-◌, ◌<◌, ◌≤◌, false, List, [], ◌∷◌, ◌++◌, length, take, get_or, Some}
use Rattle.std.proofs.Common.{MatchOption, refl, sym, ap, subst, arith, append-nil}
use Rattle.std.specs.List.{AllPass, slice_get}
use Rattle.std.proofs.lemmas.List.{length_push, take_all, take_more}
use Rattle.rv_passage.specs.Left.{IsUpToYoungestLeft}
use Rattle.rv_passage.specs.Passage.{is_in_flight}
use Rattle.rv_passage.specs.declared.passage.Passage.{Passage}

-- those after the first ones are in flight
pub record AreInFlightAfter (rows left : List Passage) : Type 0 where
  pub others : List Passage
  pub rows_are : rows ≡ left ++ others
  pub in_flight : AllPass is_in_flight others

last_of : (before : List Passage) (p : Passage) → slice_get (before ++ p ∷ []) (length before) ≡ Some p
last_of [] p = refl
last_of (q ∷ before) p = last_of before p

pub none_after : (rows : List Passage) → AreInFlightAfter rows (take (length rows) rows)
none_after rows = record {
  others = [];
  rows_are = sym (append-nil (take (length rows) rows) ∙ take_all (length rows) rows (omega arith));
  in_flight = λ k d within. absurd (omega (arith, within));
}

pub none_left : (rows left : List Passage) → left ≡ [] → AreInFlightAfter rows left → IsUpToYoungestLeft rows left
none_left rows left none after = grind arith

module _ (rows left before : List Passage) (p : Passage) (last : left ≡ before ++ p ∷ [])
    (after : AreInFlightAfter rows left) where
  -- the last one left
  left_here : is_in_flight p ≡ false → IsUpToYoungestLeft rows left
  left_here ended =
      let place : length left - 1 ≡ length before = omega (arith, ap length last, length_push before p) in
      let there : slice_get left (length left - 1) ≡ Some p = (λ i. slice_get (last i) (place i)) ∙ last_of before p in
      record {
        others = after.others;
        rows_are = after.rows_are;
        in_flight = after.in_flight;
        youngest = subst (λ o. MatchOption o (left ≡ []) (λ q. is_in_flight q ≡ false)) (sym there) ended;
      }

-- the one before a count
module _ (rows : List Passage) (count : ℕ) (p : Passage) (some : 0 < count) (within : count ≤ length rows)
    (read : p ≡ get_or rows (count - 1) p) (after : AreInFlightAfter rows (take count rows)) where
  last_taken : take count rows ≡ take (count - 1) rows ++ p ∷ []
  last_taken = grind (arith, take_more)

  pub left_before : is_in_flight p ≡ false → IsUpToYoungestLeft rows (take count rows)
  left_before ended = left_here rows (take count rows) (take (count - 1) rows) p last_taken after ended
