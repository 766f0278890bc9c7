-- The words that a list of rounds stands for.
use Rattle.std.proofs.Common.{◌≡◌, ℕ, ◌+◌, ◌-◌, ◌<◌, ◌≤◌, Bool, true, false, List, [], ◌∷◌, length, get_or, set}
use Rattle.std.proofs.Common.{replicate, refl, sym, ap, ◌∙◌, suc, zero, nat_eq, ◌||◌, inl, inr, arith, get_or-set_other}
use Rattle.std.specs.Prelude.{All, IsTrue}
use Rattle.std.specs.List.{list_any}
use Rattle.std.specs.Ordering.{nat_cmp}
use Rattle.std.specs.FinSet as set
use Rattle.std.proofs.lemmas.Bool.Decides.{nat_tests}
use Rattle.std.specs.Cmp.{nat_cmp_total, unsigned_tied}
use Rattle.std.proofs.lemmas.Bool.{cases_lt, cases_eq, or_from, or_left, ne_eqb, eq-eqb}
use Rattle.std.proofs.lemmas.Grind.{get_or-set_at}
use Rattle.std.proofs.lemmas.List.{get_or-map, get_or_past, length-map, map-set}
use Rattle.std.proofs.lemmas.List.Elements.{All-head, All-replicate, All-tail}
use mathlib.Core.Bool.{true≢false}
use Rattle.rv_memory.specs.Stale.{StaleWords, AreCovered, is_covered}
use Rattle.rv_memory.specs.StaleMarks.{marked_words, marks_of, words_of}

-- no word was marked in a round that is to come
no_marks : (first round : ℕ) (rounds : List ℕ) → All (λ r. r < round) rounds →
    marked_words first (marks_of round rounds) ≡ []
no_marks first round [] all = refl
no_marks first round (r ∷ rounds) all =
    let before = All-head (λ r. r < round) r rounds all in
    rw (ne_eqb r round (λ e. omega arith)) (no_marks (first + 1) round rounds (All-tail (λ r. r < round) r rounds all))

-- the set of the words that were marked in a round after all rounds so far is empty
pub words_of-later : (first round : ℕ) (rounds : List ℕ) → All (λ r. r < round) rounds →
    words_of first round rounds ≡ set.empty
words_of-later first round rounds all = rw (no_marks first round rounds all) refl

-- where every word has round 0, none was marked in round 1
pub words_of-none : (first n : ℕ) → words_of first 1 (replicate n 0) ≡ set.empty
words_of-none first n = words_of-later first 1 (replicate n 0) (All-replicate (λ r. r < 1) n 0 (omega arith))

-- where no word is stale, each is covered
pub none_are_covered : (stale : StaleWords) → stale.words ≡ set.empty → AreCovered stale
none_are_covered stale none word found =
    absurd (true≢false (sym found ∙ ap (λ s. set.contains s word) none ∙ set.contains-empty nat_cmp word))

abbrev has : ℕ → List ℕ → Bool
has q words = list_any (λ y. nat_eq y q) words

-- no word below the first
has_below : (first : ℕ) (marks : List Bool) (q : ℕ) → q < first → has q (marked_words first marks) ≡ false
has_below first [] q below = refl
has_below first (true ∷ marks) q below = grind (arith, nat_tests, has_below (first + 1) marks q (omega arith))
has_below first (false ∷ marks) q below = has_below (first + 1) marks q (omega arith)

-- a word is there where its mark is set
has_at : (first : ℕ) (marks : List Bool) (i q : ℕ) → q ≡ first + i → has q (marked_words first marks)
    ≡ get_or marks i false
has_at first [] i q at = refl
has_at first (true ∷ marks) zero q at = grind (arith, nat_tests)
has_at first (true ∷ marks) (suc i) q at = grind (arith, nat_tests, has_at (first + 1) marks i q (omega arith))
has_at first (false ∷ marks) zero q at = has_below (first + 1) marks q (omega arith)
has_at first (false ∷ marks) (suc i) q at = has_at (first + 1) marks i q (omega arith)

-- the set of the marked words
abbrev marked : ℕ → List Bool → set.FinSet nat_cmp
marked first marks = set.from_list (marked_words first marks)

contains_below : (first : ℕ) (marks : List Bool) (q : ℕ) → q < first → set.contains (marked first marks) q ≡ false
contains_below first marks q below = set.contains-from_list_nat (marked_words first marks) q
    ∙ has_below first marks q below

contains_at : (first : ℕ) (marks : List Bool) (i q : ℕ) → q ≡ first + i → set.contains (marked first marks) q
    ≡ get_or marks i false
contains_at first marks i q at = set.contains-from_list_nat (marked_words first marks) q ∙ has_at first marks i q at

insert-mark : (first : ℕ) (marks : List Bool) (i w : ℕ) → i < length marks → w ≡ first + i →
    marked first (set marks i true) ≡ set.insert (marked first marks) w
insert-mark first marks i w within at =
    let before = marked first marks in
    set.same_set nat_cmp_total set.nat_cmp-IsAntisymmetric _ _ (λ q.
    let added = set.contains-insert nat_cmp_total before w q
    ∙ ap (λ b. b || set.contains before q) (unsigned_tied q w) in
    elim (cases_lt q first) [
      | inl low ↦ contains_below first (set marks i true) q low
          ∙ sym (added ∙ or_from _ _ (ne_eqb q w (λ e. omega arith)) (contains_below first marks q low))
      | inr high ↦
          let after = contains_at first (set marks i true) (q - first) q (omega arith) in
          elim (cases_eq q w) [
            | inl same ↦ after ∙ get_or-set_at marks i (q - first) true false (omega arith) within
                ∙ sym (added ∙ or_left _ _ (eq-eqb q w same))
            | inr other ↦
                after
                ∙ get_or-set_other marks i (q - first) true false (λ e. other (omega arith))
                ∙ sym (contains_at first marks (q - first) q (omega arith))
                ∙ sym (added ∙ ap (λ b. b || set.contains before q) (ne_eqb q w other))
          ]
    ])

-- what the set of the words marked in a round has, and what one more mark adds to it
pub contains_word_below : (first round : ℕ) (rounds : List ℕ) (q : ℕ) → q < first →
    set.contains (words_of first round rounds) q ≡ false
contains_word_below first round rounds q below = contains_below first (marks_of round rounds) q below

-- a word was marked in a round exactly where its place has that round
pub contains_word_at : (first round : ℕ) (rounds : List ℕ) (i q : ℕ) → q ≡ first + i → i < length rounds →
    set.contains (words_of first round rounds) q ≡ nat_eq (get_or rounds i 0) round
contains_word_at first round rounds i q at within =
    contains_at first (marks_of round rounds) i q at ∙ get_or-map (λ r. nat_eq r round) rounds i 0 false within

-- no word after the last place was marked
pub contains_word_past : (first round : ℕ) (rounds : List ℕ) (i q : ℕ) → q ≡ first + i → length rounds ≤ i →
    set.contains (words_of first round rounds) q ≡ false
contains_word_past first round rounds i q at past =
    let long = length-map rounds (λ r. nat_eq r round) in
    contains_at first (marks_of round rounds) i q at ∙ get_or_past (marks_of round rounds) i false (omega arith)

-- a word that was marked has a place among those of the rounds
pub words_of-within : (first round : ℕ) (rounds : List ℕ) (q : ℕ) →
    IsTrue (set.contains (words_of first round rounds) q) → (first ≤ q) × (q < first + length rounds)
words_of-within first round rounds q found =
    elim (cases_lt q first) [
      | inl low ↦ absurd (true≢false (sym found ∙ contains_word_below first round rounds q low))
      | inr high ↦
          elim (cases_lt (q - first) (length rounds)) [
            | inl inside ↦ (high, omega arith)
            | inr past ↦ absurd (true≢false (sym found ∙ contains_word_past first round rounds (q - first)
                q (omega arith) past))
          ]
    ]

-- a round written at the place of a word adds this word to those marked in the round
pub insert_word : (first round : ℕ) (rounds : List ℕ) (i w : ℕ) → i < length rounds → w ≡ first + i →
    words_of first round (set rounds i round) ≡ set.insert (words_of first round rounds) w
insert_word first round rounds i w within at =
    let long = length-map rounds (λ r. nat_eq r round) in
    let moved : marks_of round (set rounds i round) ≡ set (marks_of round rounds) i true =
    map-set (λ r. nat_eq r round) rounds i round
    ∙ ap (λ b. set (marks_of round rounds) i b) (eq-eqb round round refl) in
    rw moved (insert-mark first (marks_of round rounds) i w (omega arith) at)

-- an address that is covered
pub covered_parts : (stale : StaleWords) (address : ℕ) → IsTrue (is_covered stale address) →
    (stale.base ≤ address) × (address < stale.base + stale.size)
covered_parts stale address covered = (grind (arith, nat_tests), grind (arith, nat_tests))
