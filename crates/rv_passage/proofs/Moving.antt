-- The passages through a cycle, one by one.
use Rattle.std.proofs.Common.{◌≡◌, ◌∙◌, ℕ, zero, suc, ◌+◌, ◌<◌, ◌≤◌, nat_lt, true, false, List, [], ◌∷◌, ◌++◌, length}
use Rattle.std.proofs.Common.{take, drop, set, get_or, slice_get, Option, None, Some, is_some, refl, sym, ap, arith}
use Rattle.std.proofs.Common.{inl, inr, length-append, append_assoc, add-one}
use Rattle.std.specs.List.{position, position_or_len}
use Rattle.std.specs.Option.{option_to_list}
use Rattle.std.proofs.lemmas.Bool.{cases_Bool, ltb-false}
use Rattle.std.proofs.lemmas.List.{drop_more, take_more_set, drop-set-lt}
use Rattle.std.proofs.lemmas.List.Quantifiers.{position-Some}
use Rattle.std.proofs.lemmas.Option.{slice_get_within, get_or_from_slice_get, none-some}
use Rattle.rv_hardware.specs.declared.step.Step.{Step}
use Rattle.rv_hardware.specs.declared.step.Step.TheVariants as step
use Rattle.rv_hardware.specs.Lessons.{first_pc}
use Rattle.rv_passage.specs.Passage.{is_in_flight, numbered, retired_by, trapped_by}
use Rattle.rv_passage.specs.Table.{AreMovedOn, Passages, at_the_end, left_after, moved, moved_on, next_before}
use Rattle.rv_passage.specs.Table.{numbered_from, with_fetched, with_oldest, with_rows, with_step, with_steps}
use Rattle.rv_passage.specs.declared.passage.Passage.{Passage}

-- the oldest in flight is the first
module _ (change : Passage → Passage) where
  with_oldest-first : (ps : List Passage) (i : ℕ) (d : Passage) → i < length ps → is_in_flight (get_or ps i d) ≡ true →
      ((k : ℕ) → k < i → is_in_flight (get_or ps k d) ≡ false) →
      with_oldest change ps ≡ set ps i (change (get_or ps i d))
  with_oldest-first [] i d within here before = absurd (omega arith)
  with_oldest-first (p ∷ ps) zero d within here before = rw here refl
  with_oldest-first (p ∷ ps) (suc i) d within here before =
      let ended : is_in_flight p ≡ false = before 0 (omega arith) in
      rw ended (ap (λ l. p ∷ l) (with_oldest-first ps i d (omega arith) here (λ k low. before (suc k) (omega arith))))

  -- where the first in flight stands at a place, the one there changes
  pub with_oldest-at : (ps : List Passage) (i : ℕ) (d : Passage) → position is_in_flight ps ≡ Some i →
      with_oldest change ps ≡ set ps i (change (get_or ps i d))
  with_oldest-at ps i d is = grind (arith, position-Some, with_oldest-first)

  with_oldest-all : (ps : List Passage) → length ps ≤ position_or_len is_in_flight ps → with_oldest change ps ≡ ps
  with_oldest-all [] none = refl
  with_oldest-all (p ∷ ps) none = elim (cases_Bool (is_in_flight p)) [
    | inl here ↦ let first : length (p ∷ ps) ≤ 0 = rw here at none in absurd (omega arith)
    | inr ended ↦
        let rest : length (p ∷ ps) ≤ 1 + position_or_len is_in_flight ps = rw ended at none in
        rw ended (ap (λ l. p ∷ l) (with_oldest-all ps (omega (arith, rest))))
  ]

  -- where none is in flight, none changes
  pub with_oldest-none : (ps : List Passage) → position is_in_flight ps ≡ None → with_oldest change ps ≡ ps
  with_oldest-none ps none = elim (cases_Bool (nat_lt (position_or_len is_in_flight ps) (length ps))) [
    | inl here ↦ let some : Some (position_or_len is_in_flight ps) ≡ None = rw here at none in
        absurd (none-some _ (sym some))
    | inr past ↦ with_oldest-all ps (ltb-false _ _ past)
  ]

-- what is left of those in flight from a place on
pub drop-at : {X : Type 0} (xs : List X) (i : ℕ) (x : X) → slice_get xs i ≡ Some x → drop i xs ≡ x ∷ drop (i + 1) xs
drop-at xs i x is =
    drop_more xs i x (slice_get_within xs i x is) ∙ ap (λ y. y ∷ drop (i + 1) xs) (get_or_from_slice_get xs i x x is)

pub drop-none : {X : Type 0} (xs : List X) (i : ℕ) → slice_get xs i ≡ None → drop i xs ≡ []
drop-none [] zero none = refl
drop-none [] (suc i) none = refl
drop-none (x ∷ xs) zero none = absurd (none-some x (sym none))
drop-none (x ∷ xs) (suc i) none = drop-none xs i none

drop_one : {X : Type 0} (i : ℕ) (xs : List X) → drop (suc i) xs ≡ drop 1 (drop i xs)
drop_one zero xs = refl
drop_one (suc i) [] = refl
drop_one (suc i) (x ∷ xs) = drop_one i xs

set-parts : {X : Type 0} (xs : List X) (i : ℕ) (y : X) → i < length xs → take i xs ++ set (drop i xs) 0 y ≡ set xs i y
set-parts [] i y within = absurd (omega arith)
set-parts (x ∷ xs) zero y within = refl
set-parts (x ∷ xs) (suc i) y within = ap (λ l. x ∷ l) (set-parts xs i y (omega (arith, within)))

-- what comes next is the one at its place
next-at : (cycle place : ℕ) (now : List Passage) →
    next_before cycle (drop place now) ≡ next_before cycle (option_to_list (slice_get now place))
next-at cycle zero [] = refl
next-at cycle zero (n ∷ now) = refl
next-at cycle (suc place) [] = refl
next-at cycle (suc place) (n ∷ now) = next-at cycle place now

-- what is found at a place says what comes next of those from there on
pub next-found : (cycle place : ℕ) (now : List Passage) (found : Option Passage) → found ≡ slice_get now place →
    next_before cycle (option_to_list found) ≡ next_before cycle (drop place now)
next-found cycle place now found held = ap (λ o. next_before cycle (option_to_list o)) held
    ∙ sym (next-at cycle place now)

-- what is left of those in flight where one goes on
pub goes-left : (cycle next : ℕ) (now : List Passage) (p : Passage) → is_in_flight p ≡ true →
    is_some (next_before cycle (drop next now)) ≡ true → drop (next + 1) now ≡ left_after cycle (drop next now) p
goes-left cycle next now p flies some = rw (flies, some) (ap (λ k. drop k now) (add-one next) ∙ drop_one next now)

-- one at a place is changed where the others stand before and after it
pub set-split : {X : Type 0} (xs front back : List X) (i : ℕ) (y : X) → front ≡ take i xs → back ≡ drop i xs →
    i < length xs → front ++ set back 0 y ≡ set xs i y
set-split xs front back i y front_is back_is within = (λ k. front_is k ++ set (back_is k) 0 y) ∙ set-parts xs i y within

-- the first of those from a place on is the one at that place
pub first-is : {X : Type 0} (xs back : List X) (i : ℕ) (x d : X) → back ≡ drop i xs → slice_get xs i ≡ Some x →
    get_or back 0 d ≡ x
first-is xs back i x d back_is there = ap (λ l. get_or l 0 d) (back_is ∙ drop-at xs i x there)

-- one more passage is moved on, where those before it are
module _ (cycle : ℕ) (old now rows rows' : List Passage) (place next next' : ℕ) (p : Passage)
    (within : place < length rows) (read : p ≡ get_or rows place p)
    (goes : (number : ℕ) →
    moved_on cycle number [] old now
    ≡ take place rows ++ moved_on cycle number (take place rows) (drop place rows) (drop next now)) where
  abbrev rest : List Passage
  rest = drop (place + 1) rows

  abbrev Moved : Type 0
  Moved =
      (number : ℕ) →
      moved_on cycle number [] old now
      ≡ take (place + 1) rows'
      ++ moved_on cycle number (take (place + 1) rows') (drop (place + 1) rows') (drop next' now)

  here : drop place rows ≡ p ∷ rest
  here = drop_more rows place p within ∙ ap (λ q. q ∷ rest) (sym read)

  moved-to : (q : Passage) → take (place + 1) rows' ≡ take place rows ++ q ∷ [] → drop (place + 1) rows' ≡ rest
      → moved cycle (take place rows) (drop next now) p ≡ q → left_after cycle (drop next now) p ≡ drop next' now →
      Moved
  moved-to q front after becomes left number = grind (arith, here, append_assoc)

  moved-set : (q : Passage) → rows' ≡ set rows place q
      → moved cycle (take place rows) (drop next now) p ≡ q → left_after cycle (drop next now) p ≡ drop next' now →
      Moved
  moved-set q is becomes left = grind (arith, moved-to, take_more_set, drop-set-lt)

  -- its row is set to what becomes of it, and those in flight go on as it leaves them
  pub moved-here : rows' ≡ set rows place (moved cycle (take place rows) (drop next now) p) →
      drop next' now ≡ left_after cycle (drop next now) p → Moved
  moved-here set_is left = moved-set (moved cycle (take place rows) (drop next now) p) set_is refl (sym left)

-- one more instruction is fetched
pub fetched-more : (now : List Passage) (place : ℕ) (n : Passage) (t t' : Passages) → slice_get now place ≡ Some n →
    t' ≡ with_fetched (n ∷ []) t →
    with_fetched (drop (place + 1) now) t' ≡ with_fetched (drop place now) t
fetched-more now place n t t' there is =
    let later = drop (place + 1) now in
    let rows = append_assoc t.rows (numbered t.fetched n ∷ []) (numbered_from (t.fetched + 1) later) in
    let count : t.fetched + 1 + length later ≡ t.fetched + length (n ∷ later) = omega arith in
    ap (with_fetched later) is
    ∙ (λ i. record { rows = rows i; interrupts = t.interrupts; fetched = count i; retired = t.retired })
    ∙ ap (λ l. with_fetched l t) (sym (drop-at now place n there))

length-with_oldest : (change : Passage → Passage) (ps : List Passage) → length (with_oldest change ps) ≡ length ps
length-with_oldest change [] = refl
length-with_oldest change (p ∷ ps) = grind (arith, length-with_oldest change ps)

-- what so many steps change at most
pub record IsWithin (count : ℕ) (old new : Passages) : Type 0 where
  pub rows : length new.rows ≡ length old.rows
  pub interrupts : length new.interrupts ≤ length old.interrupts + count
  pub fetched : new.fetched ≡ old.fetched
  pub retired : new.retired ≤ old.retired + count

-- what one step changes at most
pub step-within : (s : Step) (next : ℕ) (t : Passages) → IsWithin 1 t (with_step s next t)
step-within (step.Retired row) next t = record {
  rows = length-with_oldest (retired_by row t.retired next) t.rows;
  interrupts = omega arith;
  fetched = refl;
  retired = omega arith;
}
step-within (step.Trap pc cause value cycle) next t = record {
  rows = length-with_oldest (trapped_by cause cycle) t.rows;
  interrupts = omega arith;
  fetched = refl;
  retired = omega arith;
}
step-within (step.Interrupt pc cause cycle) next t = record {
  rows = refl;
  interrupts = omega (arith, length-append t.interrupts (cycle ∷ []));
  fetched = refl;
  retired = omega arith;
}

-- what steps change at most, one after another
pub steps-within : (steps : List Step) (next : ℕ) (t : Passages) → IsWithin (length steps) t (with_steps steps next t)
steps-within [] next t = record { rows = refl; interrupts = omega arith; fetched = refl; retired = omega arith }
steps-within (s ∷ ss) next t =
    let first = step-within s (first_pc ss next) t in
    let rest = steps-within ss next (with_step s (first_pc ss next) t) in
    record {
      rows = rest.rows ∙ first.rows;
      interrupts = omega (arith, first.interrupts, rest.interrupts);
      fetched = rest.fetched ∙ first.fetched;
      retired = omega (arith, first.retired, rest.retired);
    }

-- the step at a place comes first of those that are left
pub with_steps-next : (steps : List Step) (place next : ℕ) (s : Step) (t : Passages) → place < length steps →
    s ≡ get_or steps place s → let rest = drop (place + 1) steps in
    with_steps (drop place steps) next t ≡ with_steps rest next (with_step s (first_pc rest next) t)
with_steps-next steps place next s t within read =
    ap (λ l. with_steps l next t) (drop_more steps place s within ∙ ap (λ x. x ∷ drop (place + 1) steps) (sym read))

-- as many are numbered as there are
pub length-numbered_from : (number : ℕ) (ps : List Passage) → length (numbered_from number ps) ≡ length ps
length-numbered_from number [] = refl
length-numbered_from number (p ∷ ps) = ap suc (length-numbered_from (number + 1) ps)

-- the end of a cycle, where the rows are moved on and those that were fetched in it stand after
pub ended-with : (cycle : ℕ) (now : List Passage) (t : Passages) (kept : List Passage) (place : ℕ) →
    AreMovedOn cycle now t.rows kept place → length kept ≡ length t.rows →
    with_fetched (drop place now) (with_rows kept t) ≡ at_the_end cycle now t
ended-with cycle now t kept place goes same =
    let rows = goes t.fetched in
    let added = numbered_from t.fetched (drop place now) in
    let count : t.fetched + length (drop place now) ≡ (at_the_end cycle now t).fetched =
    omega (arith, ap length rows, same, length-append kept added, length-numbered_from t.fetched (drop place now)) in
    λ i. record { rows = sym rows i; interrupts = t.interrupts; fetched = count i; retired = t.retired }
