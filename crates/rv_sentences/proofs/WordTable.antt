-- What is kept of the words is a function of their numbers, and a change at one word changes it there alone.
use Rattle.std.proofs.Common.{◌≡◌, ◌∙◌, ℕ, zero, suc, ◌+◌, ◌-◌, ◌<◌, ◌≤◌, nat_lt, Bool, true, false, ◌∷◌, map, Some}
use Rattle.std.proofs.Common.{None, refl, ap, arith}
use Rattle.std.specs.Prelude.{replicate, slice_set}
use Rattle.std.specs.List.{range_with_len, slice_get}
use Rattle.rv_isa.specs.declared.values.Values.{Values}
use Rattle.rv_memory.specs.Memory.{word_of}
use Rattle.rv_sentences.specs.WordNotes.{Notes, notes_of, with_change, with_note}

same_words : {X : Type 0} (f g : ℕ → X) (a n : ℕ) → ((w : ℕ) → a ≤ w → w < a + n → f w ≡ g w) →
    map f (range_with_len a n) ≡ map g (range_with_len a n)
same_words f g a zero all = refl
same_words f g a (suc n) all = λ i. all a (omega arith) (omega arith) i
    ∷ same_words f g (a + 1) n (λ w low high. all w (omega arith) (omega arith)) i

word_set : {X : Type 0} (f g : ℕ → X) (a n i : ℕ) → i < n → ((w : ℕ) → (w ≡ a + i → ⊥) → f w ≡ g w) →
    slice_set (map f (range_with_len a n)) i (g (a + i)) ≡ map g (range_with_len a n)
word_set f g a zero i within others = absurd (omega arith)
word_set f g a (suc n) zero within others = grind (arith, same_words)
word_set f g a (suc n) (suc i) within others =
    let place : a + suc i ≡ (a + 1) + i = omega arith in
    let rest = ap (λ (w : ℕ). slice_set (map f (range_with_len (a + 1) n)) i (g w)) place
    ∙ word_set f g (a + 1) n i (omega arith) (λ w is_not. others w (λ is. is_not (omega arith))) in
    λ j. others a (λ is. omega arith) j ∷ rest j

word_got : {X : Type 0} (f : ℕ → X) (a n i : ℕ) → i < n → slice_get (map f (range_with_len a n)) i ≡ Some (f (a + i))
word_got f a zero i within = absurd (omega arith)
word_got f a (suc n) zero within = ap (λ (w : ℕ). Some (f w)) (omega arith)
word_got f a (suc n) (suc i) within = word_got f (a + 1) n i (omega arith) ∙ ap (λ (w : ℕ). Some (f w)) (omega arith)

no_word : {X : Type 0} (f : ℕ → X) (a n i : ℕ) → n ≤ i → slice_get (map f (range_with_len a n)) i ≡ None
no_word f a zero i past = refl
no_word f a (suc n) zero past = absurd (omega arith)
no_word f a (suc n) (suc i) past = no_word f (a + 1) n i (omega arith)

set_beyond : {X : Type 0} (f : ℕ → X) (a n i : ℕ) (x : X) → n ≤ i → slice_set (map f (range_with_len a n)) i x
    ≡ map f (range_with_len a n)
set_beyond f a zero i x past = refl
set_beyond f a (suc n) zero x past = absurd (omega arith)
set_beyond f a (suc n) (suc i) x past = ap (λ rest. f a ∷ rest) (set_beyond f (a + 1) n i x (omega arith))

notes_from : {X : Type 0} → (ℕ → X) → ℕ → ℕ → Notes X
notes_from f a n = record { first = a; words = map f (range_with_len a n) }

module _ {X : Type 0} (change : X → X) (f g : ℕ → X) (word a n : ℕ) (here : change (f word) ≡ g word)
    (others : (w : ℕ) → (w ≡ word → ⊥) → f w ≡ g w) where
  all_same : ((w : ℕ) → a ≤ w → w < a + n → w ≡ word → ⊥) → notes_from f a n ≡ notes_from g a n
  unfolding notes_from
  all_same outside = ap (λ words. record { first = a; words = words })
      (same_words f g a n (λ w low high. others w (outside w low high)))

  change_within : (i : ℕ) → i < n → word ≡ a + i → slice_set (map f (range_with_len a n)) i (change (f (a + i)))
      ≡ map g (range_with_len a n)
  change_within i within is = grind (arith, word_set)

  change_above : (inside : Bool) → nat_lt word a ≡ false → nat_lt (word - a) n ≡ inside →
      with_change change (notes_from f a n) word ≡ notes_from g a n
  unfolding notes_from
  change_above true above within = grind (arith, word_got, change_within)
  change_above false above past = grind (arith, no_word, all_same)

  change_of : (below : Bool) → nat_lt word a ≡ below → with_change change (notes_from f a n) word ≡ notes_from g a n
  unfolding notes_from
  change_of true below = grind (arith, all_same)
  change_of false above = change_above (nat_lt (word - a) n) above refl

  set_within : (i : ℕ) → i < n → word ≡ a + i → slice_set (map f (range_with_len a n)) i (g word)
      ≡ map g (range_with_len a n)
  set_within i within is = grind (arith, word_set)

  set_above : (inside : Bool) → nat_lt word a ≡ false → nat_lt (word - a) n ≡ inside →
      with_note (notes_from f a n) word (g word) ≡ notes_from g a n
  unfolding notes_from
  set_above true above within = grind (arith, set_within)
  set_above false above past = grind (arith, set_beyond, all_same)

  set_of : (below : Bool) → nat_lt word a ≡ below → with_note (notes_from f a n) word (g word) ≡ notes_from g a n
  unfolding notes_from
  set_of true below = grind (arith, all_same)
  set_of false above = set_above (nat_lt (word - a) n) above refl

-- another note of one word
pub set_one : {X : Type 0} (values : Values) (f g : ℕ → X) (word : ℕ) (note : X) → note ≡ g word →
    ((w : ℕ) → (w ≡ word → ⊥) → f w ≡ g w)
    → with_note (notes_of values f) word note ≡ notes_of values g
unfolding notes_from
set_one values f g word note is others =
    ap (with_note (notes_of values f) word) is ∙
    set_of (λ _. g word) f g word (word_of values.ram_base) (word_of values.ram_size) refl others
    (nat_lt word (word_of values.ram_base)) refl

-- a change at one word
pub change_one : {X : Type 0} (values : Values) (change : X → X) (f g : ℕ → X) (word : ℕ) → change (f word) ≡ g word →
    ((w : ℕ) → (w ≡ word → ⊥) → f w ≡ g w)
    → with_change change (notes_of values f) word ≡ notes_of values g
unfolding notes_from
change_one values change f g word here others = grind (arith, change_of)

-- the same is kept of each word
all_alike : {X : Type 0} (note : X) (a n : ℕ) → replicate n note ≡ map (λ (w : ℕ). note) (range_with_len a n)
all_alike note a zero = refl
all_alike note a (suc n) = ap (λ words. note ∷ words) (all_alike note (a + 1) n)

-- the same note at each word of RAM
pub notes_alike : {X : Type 0} (values : Values) (note : X) (notes : Notes X) → notes.first ≡ word_of values.ram_base →
    notes.words ≡ replicate (word_of values.ram_size) note → notes ≡ notes_of values (λ _. note)
notes_alike values note notes first words = grind (arith, all_alike)
