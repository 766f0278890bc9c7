-- How rows move on through a cycle, one by one.
use Rattle.std.proofs.Common.{◌≡◌, ◌+◌, ◌≤◌, nat_lt, true, false, ℕ, List, [], ◌∷◌}
use Rattle.std.proofs.Common.{◌++◌, length, filter, None, refl, arith, inl, inr}
use Rattle.std.specs.List.{list_all}
use Rattle.std.proofs.lemmas.Bool.{cases_Bool}
use Rattle.rv_passage.specs.Passage.{is_in_flight, squashed_in}
use Rattle.rv_passage.specs.Producers.{standing_at}
use Rattle.rv_passage.specs.Table.{moved_on, next_before, numbered_from}
use Rattle.rv_passage.specs.declared.passage.Passage.{Passage}

-- Rows before a cycle, what is in flight at its end, and the rows then. One that left the hardware before stays, one in
-- flight is squashed or stands as what comes next, and what is left was fetched.
pub data MovesOn (cycle number : ℕ) : List Passage → List Passage → List Passage → Type 0 where
  fetched : {now : List Passage} → MovesOn cycle number [] now (numbered_from number now)
  stays : {p : Passage} {ps now rows : List Passage} → is_in_flight p ≡ false →
      MovesOn cycle number ps now rows → MovesOn cycle number (p ∷ ps) now (p ∷ rows)
  squashed : {p : Passage} {ps now rows : List Passage} → is_in_flight p ≡ true → next_before cycle now ≡ None →
      MovesOn cycle number ps now rows → MovesOn cycle number (p ∷ ps) now (squashed_in cycle p ∷ rows)
  stands : {p n : Passage} (older : List Passage) {ps now rows : List Passage} →
      is_in_flight p ≡ true → nat_lt n.fetched cycle ≡ true →
      MovesOn cycle number ps now rows → MovesOn cycle number (p ∷ ps) (n ∷ now) (standing_at older n p ∷ rows)

-- the rows that the definition gives for the end of a cycle move on so
pub moves_on : (cycle number : ℕ) (older ps now : List Passage) →
    MovesOn cycle number ps now (moved_on cycle number older ps now)
moves_on cycle number older [] now = fetched
moves_on cycle number older (p ∷ ps) [] = elim (cases_Bool (is_in_flight p)) [
  | inl flies ↦ rw flies (squashed flies refl (moves_on cycle number (older ++ squashed_in cycle p ∷ []) ps []))
  | inr ended ↦ rw ended (stays ended (moves_on cycle number (older ++ p ∷ []) ps []))
]
moves_on cycle number older (p ∷ ps) (n ∷ now) = elim (cases_Bool (is_in_flight p)) [
  | inl flies ↦ elim (cases_Bool (nat_lt n.fetched cycle)) [
    | inl before ↦
        let q = standing_at older n p in
        rw (flies, before) (stands older flies before (moves_on cycle number (older ++ q ∷ []) ps now))
    | inr later ↦
        let q = squashed_in cycle p in
        let rest = moves_on cycle number (older ++ q ∷ []) ps (n ∷ now) in
        rw (flies, later) (squashed {now = n ∷ now} flies (rw later refl) rest)
  ]
  | inr ended ↦ rw ended (stays ended (moves_on cycle number (older ++ p ∷ []) ps (n ∷ now)))
]

-- no more are in flight at its end than the hardware holds
pub open-moves : {cycle number : ℕ} {ps now rows : List Passage} → MovesOn cycle number ps now rows →
    length (filter is_in_flight rows) ≤ length now
open-moves {number = number} (fetched {now}) = open-numbered number now where
  open-numbered : (number : ℕ) (ps : List Passage) → length (filter is_in_flight (numbered_from number ps)) ≤ length ps
  open-numbered number [] = omega arith
  open-numbered number (p ∷ ps) = elim (cases_Bool (is_in_flight p)) [
    | inl flies ↦ rw flies (omega (arith, open-numbered (number + 1) ps))
    | inr ended ↦ rw ended (omega (arith, open-numbered (number + 1) ps))
  ]
open-moves (stays ended more) = rw ended (open-moves more)
open-moves (squashed flies none more) = open-moves more
open-moves (stands {n = n} older flies before more) = elim (cases_Bool (is_in_flight n)) [
  | inl still ↦ rw still (omega (arith, open-moves more))
  | inr ended ↦ rw ended (omega (arith, open-moves more))
]

-- and as many, where all that it holds is in flight
pub all-open-moves : {cycle number : ℕ} {ps now rows : List Passage} → MovesOn cycle number ps now rows →
    list_all is_in_flight now ≡ true →
    length now ≤ length (filter is_in_flight rows)
all-open-moves {number = number} (fetched {now}) all = open-numbered number now all where
  open-numbered : (number : ℕ) (ps : List Passage) → list_all is_in_flight ps ≡ true →
      length ps ≤ length (filter is_in_flight (numbered_from number ps))
  open-numbered number [] all = omega arith
  open-numbered number (p ∷ ps) all = elim (cases_Bool (is_in_flight p)) [
    | inl flies ↦
        let rest : list_all is_in_flight ps ≡ true = rw flies at all in
        rw flies (omega (arith, open-numbered (number + 1) ps rest))
    | inr ended ↦ let none : false ≡ true = rw ended at all in cc
  ]
all-open-moves (stays ended more) all = rw ended (all-open-moves more all)
all-open-moves (squashed flies none more) all = all-open-moves more all
all-open-moves (stands {n = n} older {now = now} flies before more) all = elim (cases_Bool (is_in_flight n)) [
  | inl still ↦
      let rest : list_all is_in_flight now ≡ true = rw still at all in
      rw still (omega (arith, all-open-moves more rest))
  | inr ended ↦ let none : false ≡ true = rw ended at all in cc
]

-- so as many are in flight as it holds
pub as_many-moves : {cycle number : ℕ} {ps now rows : List Passage} → MovesOn cycle number ps now rows →
    list_all is_in_flight now ≡ true →
    length (filter is_in_flight rows) ≡ length now
as_many-moves moves all = omega (arith, open-moves moves, all-open-moves moves all)
