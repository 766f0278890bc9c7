-- Rows after those that are dropped, and those that are still in flight among them.
use Rattle.std.proofs.Common.{◌≡◌, ◌∙◌, ℕ, suc, ◌+◌, ◌-◌, ◌≤◌, true, false, List, [], ◌∷◌, ◌++◌, length, filter, map}
use Rattle.std.proofs.Common.{drop, None, refl, ap, sym, arith, inl, inr}
use Rattle.std.specs.List.{list_all, position, position_or_len}
use Rattle.std.proofs.Math.Seq.{drop-append_seam}
use Rattle.std.proofs.lemmas.Bool.{cases_Bool}
use Rattle.rv_front.specs.FetchBuffer.{FetchBuffer}
use Rattle.rv_front.specs.declared.fetched.Fetched.{Fetched}
use Rattle.rv_rob.specs.ReorderBuffer.{ReorderBuffer}
use Rattle.rv_rob.specs.declared.entry.Entry.{Entry}
use Rattle.rv_passage.specs.Passage.{in_buffers, is_in_flight, of_entry, of_fetched}
use Rattle.rv_passage.specs.Table.{with_oldest}
use Rattle.rv_passage.specs.declared.passage.Passage.{Passage}

-- what comes after so many
pub drop-joined : {X : Type 0} (n : ℕ) (front back : List X) → length front ≡ n → drop n (front ++ back) ≡ back
drop-joined n front back is = ap (λ k. drop k (front ++ back)) (sym is) ∙ drop-append_seam front back

-- those in flight are none of the first ones that ended
pub open-after_first : (rows : List Passage) → filter is_in_flight (drop (position_or_len is_in_flight rows) rows)
    ≡ filter is_in_flight rows
open-after_first [] = refl
open-after_first (p ∷ ps) = elim (cases_Bool (is_in_flight p)) [
  | inl flies ↦ rw flies (rw flies refl)
  | inr ended ↦
      let next : 1 + position_or_len is_in_flight ps ≡ suc (position_or_len is_in_flight ps) = omega arith in
      rw ended (ap (λ k. filter is_in_flight (drop k (p ∷ ps))) next ∙ open-after_first ps)
]

-- no more rows come before the first in flight than there are
pub first-within : (rows : List Passage) → position_or_len is_in_flight rows ≤ length rows
first-within [] = omega arith
first-within (p ∷ ps) = elim (cases_Bool (is_in_flight p)) [
  | inl flies ↦ rw flies (omega arith)
  | inr ended ↦ rw ended (omega (arith, first-within ps))
]

-- where none is in flight, all come before the first that is
pub none_in_flight : (rows : List Passage) → position is_in_flight rows ≡ None →
    position_or_len is_in_flight rows ≡ length rows
none_in_flight rows none = grind (arith, first-within)

-- where all are in flight, none is left out
pub open-all : (rows : List Passage) → list_all is_in_flight rows ≡ true → filter is_in_flight rows ≡ rows
open-all [] all = refl
open-all (p ∷ ps) all = elim (cases_Bool (is_in_flight p)) [
  | inl flies ↦ let rest : list_all is_in_flight ps ≡ true = rw flies at all in
      rw flies (ap (λ l. p ∷ l) (open-all ps rest))
  | inr ended ↦ let none : false ≡ true = rw ended at all in cc
]

open-few : (rows : List Passage) → length (filter is_in_flight rows) ≤ length rows
open-few [] = omega arith
open-few (p ∷ ps) = elim (cases_Bool (is_in_flight p)) [
  | inl flies ↦ rw flies (omega (arith, open-few ps))
  | inr ended ↦ rw ended (omega (arith, open-few ps))
]

-- where as many are in flight as there are, all are
pub all-open : (rows : List Passage) → length rows ≤ length (filter is_in_flight rows) →
    list_all is_in_flight rows ≡ true
all-open [] as_many = refl
all-open (p ∷ ps) as_many = elim (cases_Bool (is_in_flight p)) [
  | inl flies ↦
      let rest : suc (length ps) ≤ suc (length (filter is_in_flight ps)) = rw flies at as_many in
      rw flies (all-open ps (omega (arith, rest)))
  | inr ended ↦
      let more : suc (length ps) ≤ length (filter is_in_flight ps) = rw ended at as_many in
      absurd (omega (arith, more, open-few ps))
]

-- where the oldest in flight changes, one at most leaves the hardware
pub open-with_oldest : (change : Passage → Passage) (rows : List Passage) →
    length (filter is_in_flight rows) ≤ length (filter is_in_flight (with_oldest change rows)) + 1
open-with_oldest change [] = omega arith
open-with_oldest change (p ∷ ps) = grind (arith, open-with_oldest change ps)

-- so of the rows after the dropped ones, of which so many were in flight, all but one still are
pub known-with_oldest : (change : Passage → Passage) (n known left : ℕ) (old read now new : List Passage) → new ≡ now →
    read ≡ old → drop n now ≡ with_oldest change (drop n read) → known ≤ length (filter is_in_flight (drop n old)) →
    left ≡ known - 1 → left ≤ length (filter is_in_flight (drop n new))
known-with_oldest change n known left old read now new is was changed were less = grind (arith, open-with_oldest)

-- all that is in the buffers is in flight
pub buffers-open : (rob : ReorderBuffer) (front : FetchBuffer) → list_all is_in_flight (in_buffers rob front) ≡ true
buffers-open rob front = entries-open rob.entries where
  words-open : (words : List Fetched) → list_all is_in_flight (map of_fetched words) ≡ true
  words-open [] = refl
  words-open (w ∷ ws) = words-open ws

  entries-open : (entries : List Entry) →
      list_all is_in_flight (map of_entry entries ++ map of_fetched front.entries) ≡ true
  entries-open [] = words-open front.entries
  entries-open (e ∷ es) = entries-open es
