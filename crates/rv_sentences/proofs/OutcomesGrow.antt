-- What became of the instructions in each word, as more leave the hardware.
use Rattle.std.proofs.Common.{◌≡◌, ◌∙◌, ℕ, zero, suc, ◌+◌, ◌-◌, ◌^◌, ◌<◌, ◌≤◌, nat_lt, Bool, true, false, List, [], ◌∷◌}
use Rattle.std.proofs.Common.{◌++◌, length, filter, map, Option, Some, None, refl, ap, sym, subst, arith, eq-eqb}
use Rattle.std.specs.Prelude.{IfSome, slice_set}
use Rattle.std.specs.List.{range_with_len, slice_get}
use Rattle.std.proofs.lemmas.List.Sums.{count_by-le-length}
use Rattle.rv_isa.specs.declared.values.Values.{Values}
use Rattle.rv_cache.specs.WriteBack.{Each}
use Rattle.rv_memory.specs.Memory.{word_of}
use Rattle.rv_passage.specs.declared.passage.Passage.{Passage}
use Rattle.rv_counts.specs.Counts.{one_more}
use Rattle.rv_counts.specs.Load.{is_hit, is_miss}
use Rattle.rv_counts.specs.declared.loads.LoadCosts.{LoadCosts}
use Rattle.rv_counts.proofs.Changes.{each-by}
use Rattle.rv_counts.proofs.CountsMore.{count_by-cons}
use Rattle.rv_counts.proofs.Rooms.{filter-le, one_more-within}
use Rattle.rv_sentences.specs.Load.{retired_load_cost}
use Rattle.rv_sentences.specs.Outcome.{CanCount, CanTake, IsWithin, is_forwarded, is_in, is_write_back, outcomes_at}
use Rattle.rv_sentences.specs.Outcome.{outcomes_of, outcomes_with, with_passages}
use Rattle.rv_sentences.specs.WordNotes.{Notes, changed, note_at, notes_of, with_change}
use Rattle.rv_sentences.specs.declared.outcomes.Outcomes.{Outcomes}
use Rattle.rv_sentences.proofs.WordTable.{change_one}

-- ---- what is so of each word

got-each : {X : Type 0} (P : X → Type 0) (xs : List X) (i : ℕ) → Each P xs → IfSome (slice_get xs i) P
got-each P [] i each = tt
got-each P (x ∷ xs) zero each = each.0
got-each P (x ∷ xs) (suc i) each = got-each P xs i each.1

note-each : {X : Type 0} (P : X → Type 0) (notes : Notes X) (word : ℕ) (below : Bool) →
    nat_lt word notes.first ≡ below → Each P notes.words → IfSome (note_at notes word) P
note-each P notes word true is each = rw is tt
note-each P notes word false is each = rw is (got-each P notes.words (word - notes.first) each)

each-note : {X : Type 0} (P : X → Type 0) (notes : Notes X) (word : ℕ) → Each P notes.words →
    IfSome (note_at notes word) P
each-note P notes word each = note-each P notes word (nat_lt word notes.first) refl each

module _ {X : Type 0} (P Q : X → Type 0) (change : X → X) (stays : (x : X) → P x → Q x) (then : (x : X) → P x →
    Q (change x)) where
  each-set : (xs : List X) (i : ℕ) (y : X) → Q y → Each P xs → Each Q (slice_set xs i y)
  each-set [] i y now each = tt
  each-set (x ∷ xs) zero y now each = (now, each-by xs stays each.1)
  each-set (x ∷ xs) (suc i) y now each = (stays x each.0, each-set xs i y now each.1)

  by_some : (notes : Notes X) (word : ℕ) (o : Option X) → IfSome o P → Each P notes.words →
      Each Q (changed change notes word o).words
  by_some notes word o has each = grind (arith, each-by, each-set)

  each-change : (notes : Notes X) (word : ℕ) → Each P notes.words → Each Q (with_change change notes word).words
  each-change notes word each = by_some notes word (note_at notes word) (each-note P notes word each) each

each-of : {X : Type 0} (P : X → Type 0) (f : ℕ → X) → ((w : ℕ) → P (f w)) → (a n : ℕ) →
    Each P (map f (range_with_len a n))
each-of P f all a zero = tt
each-of P f all a (suc n) = (all a, each-of P f all (a + 1) n)

-- ---- the counts can go on

within-more : (most more : ℕ) (o : Outcomes) → most ≤ more → IsWithin most o → IsWithin more o
within-more most more o over is = grind arith

within-with : (costs : LoadCosts) (p : Passage) (most : ℕ) (o : Outcomes) → IsWithin most o →
    IsWithin (most + 1) (outcomes_with costs p o)
within-with costs p most o is = grind (arith, one_more-within)

-- one more can be counted
pub can_count : (notes : Notes Outcomes) (word more : ℕ) → 1 ≤ more → CanTake notes more →
    IfSome (note_at notes word) CanCount
can_count notes word more some can = grind (arith, each-note, each-by, within-more)

-- and so many fewer after it
pub can_take_others : (costs : LoadCosts) (p : Passage) (old new : Notes Outcomes) (word fewer more : ℕ) →
    new ≡ with_change (outcomes_with costs p) old word → fewer + 1 ≤ more → CanTake old more → CanTake new fewer
can_take_others costs p old new word fewer more new_is under can = record {
  most = can.most + 1;
  within = subst (λ (notes : Notes Outcomes). Each (IsWithin (can.most + 1)) notes.words) (sym new_is)
      (each-change (IsWithin can.most) (IsWithin (can.most + 1)) (outcomes_with costs p)
      (λ o is. within-more can.most (can.most + 1) o (omega arith) is)
      (λ o is. within-with costs p can.most o is) old word can.within);
  countable = omega (arith, under, can.countable);
}

-- room for more is room for fewer
pub can_take_fewer : (notes : Notes Outcomes) (fewer more : ℕ) → fewer ≤ more → CanTake notes more → CanTake notes fewer
can_take_fewer notes fewer more under can =
    record { most = can.most; within = can.within; countable = omega (arith, can.countable, under) }

counts_within : (costs : LoadCosts) (ps : List Passage) (more : ℕ) → length ps ≤ more →
    IsWithin more (outcomes_of costs ps)
counts_within costs ps more few = grind (arith, count_by-le-length)

-- few instructions leave room for more
pub can_take : (values : Values) (costs : LoadCosts) (left : List Passage) (more : ℕ) → length left + more < 2 ^ 62 →
    CanTake (notes_of values (outcomes_at costs left)) more
can_take values costs left more few = record {
  most = length left;
  within =
      each-of (IsWithin (length left)) (outcomes_at costs left)
      (λ w. counts_within costs (filter (is_in w) left) (length left) (filter-le (is_in w) left))
      (word_of values.ram_base) (word_of values.ram_size);
  countable = few;
}

-- ---- what is no load that retired changes nothing

or_this : {X : Type 0} → X → Option X → X
or_this x None = x
or_this x (Some y) = y

set_got : {X : Type 0} (xs : List X) (i : ℕ) (x : X) → slice_get xs i ≡ Some x → slice_set xs i x ≡ xs
unfolding or_this
set_got [] i x is = refl
set_got (y ∷ xs) zero x is = ap (λ o. or_this y o ∷ xs) (sym is)
set_got (y ∷ xs) (suc i) x is = ap (λ l. y ∷ l) (set_got xs i x is)

changed_same : {X : Type 0} (change : X → X) (notes : Notes X) (word : ℕ) (below : Bool) →
    nat_lt word notes.first ≡ below → (got : Option X) → slice_get notes.words (word - notes.first) ≡ got
    → ((x : X) → change x ≡ x) → with_change change notes word ≡ notes
changed_same change notes word true is got got_is same = rw is refl
changed_same change notes word false is None got_is same = rw (is, got_is) refl
changed_same change notes word false is (Some x) got_is same = grind (arith, set_got)

-- an instruction that is no load that retired changes nothing
pub no_load : (costs : LoadCosts) (p : Passage) (notes : Notes Outcomes) (word : ℕ) (cost : Option ℕ) →
    cost ≡ retired_load_cost p → cost ≡ None → notes ≡ with_change (outcomes_with costs p) notes word
no_load costs p notes word cost cost_is is = grind (arith, one_more, changed_same)

-- the last of some instructions comes first
pub passages-last : (costs : LoadCosts) (ps : List Passage) (p : Passage) (notes : Notes Outcomes) →
    with_passages costs (ps ++ p ∷ []) notes
    ≡ with_passages costs ps (with_change (outcomes_with costs p) notes (word_of p.pc))
passages-last costs [] p notes = refl
passages-last costs (q ∷ ps) p notes = grind (arith, passages-last costs ps p notes)

-- ---- what is kept is what became of the instructions

outcomes-cons : (costs : LoadCosts) (p : Passage) (ps : List Passage) → outcomes_with costs p (outcomes_of costs ps)
    ≡ outcomes_of costs (p ∷ ps)
outcomes-cons costs p ps =
    let hits = count_by-cons (λ q. is_hit costs (retired_load_cost q)) p ps in
    let forwarded = count_by-cons (λ q. is_forwarded costs (retired_load_cost q)) p ps in
    let misses = count_by-cons (λ q. is_miss costs (retired_load_cost q)) p ps in
    let write_backs = count_by-cons (λ q. is_write_back costs (retired_load_cost q)) p ps in
    λ i. record {
      hits = sym hits i;
      forwarded = sym forwarded i;
      misses = sym misses i;
      write_backs = sym write_backs i;
    }

outcomes-here : (costs : LoadCosts) (p : Passage) (ps : List Passage) →
    outcomes_with costs p (outcomes_at costs ps (word_of p.pc)) ≡ outcomes_at costs (p ∷ ps) (word_of p.pc)
outcomes-here costs p ps =
    let here : filter (is_in (word_of p.pc)) (p ∷ ps) ≡ p ∷ filter (is_in (word_of p.pc)) ps =
    rw (eq-eqb (word_of p.pc) (word_of p.pc) refl) refl in
    outcomes-cons costs p (filter (is_in (word_of p.pc)) ps) ∙ sym (ap (outcomes_of costs) here)

-- some instructions before others
pub outcomes-left : (values : Values) (costs : LoadCosts) (ps left : List Passage) →
    with_passages costs ps (notes_of values (outcomes_at costs left)) ≡ notes_of values (outcomes_at costs (ps ++ left))
outcomes-left values costs [] left = refl
outcomes-left values costs (p ∷ ps) left = grind (arith, change_one, outcomes-here, outcomes-left values costs ps left)
