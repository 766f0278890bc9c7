-- The counts of all addresses are determined: there is one list of them.
use Rattle.std.proofs.Common.{◌≡◌, ◌∙◌, ℕ, ◌<◌, List, [], ◌∷◌, inl, inr, refl, sym, ap, subst, arith}
use Rattle.rv_cache.specs.WriteBack.{Each}
use Rattle.rv_passage.specs.declared.passage.Passage.{Passage}
use Rattle.rv_counts.specs.Counts.{counts_at, times_of}
use Rattle.rv_counts.specs.Order.{AreAbove, HasAddress, IsInOrder}
use Rattle.rv_counts.specs.Profile.{IsProfileOf}
use Rattle.rv_counts.specs.declared.{counts.WordCounts.WordCounts, loads.LoadCosts.LoadCosts}

-- addresses above a word's are none of the lower ones
above_is_higher : (low address : ℕ) (words : List WordCounts) → AreAbove low words → HasAddress address words →
    low < address
above_is_higher low address [] above none = absurd none
above_is_higher low address (word ∷ words) above (inl same) = omega (arith, above.0, same)
above_is_higher low address (word ∷ words) above (inr further) = above_is_higher low address words above.1 further

module _ (at : ℕ → WordCounts) where
  abbrev AreAt : List WordCounts → Type 0
  AreAt words = Each (λ word. word ≡ at word.address) words

  -- each address of the one list is one of the other
  abbrev AreIn : List WordCounts → List WordCounts → Type 0
  AreIn words others = Each (λ word. HasAddress word.address others) words

  -- the first address of both is the same
  first_once : (word other : WordCounts) (words others : List WordCounts) → AreAbove word.address words →
      AreAbove other.address others
      → HasAddress word.address (other ∷ others) → HasAddress other.address (word ∷ words) →
      word.address ≡ other.address
  first_once word other words others above above' (inl same) there = sym same
  first_once word other words others above above' (inr further) (inl same) = same
  first_once word other words others above above' (inr further) (inr further') =
      absurd (omega (
        arith,
        above_is_higher other.address word.address others above' further,
        above_is_higher word.address
            other.address words above further',
      ))

  -- an address above the first is one of the others
  not_first : (low address : ℕ) (other : WordCounts) (others : List WordCounts) → low < address → other.address ≡ low →
      HasAddress address (other ∷ others) → HasAddress address others
  not_first low address other others higher first (inl same) = absurd (omega (arith, higher, first, same))
  not_first low address other others higher first (inr further) = further

  rest_in : (low : ℕ) (words : List WordCounts) (other : WordCounts) (others : List WordCounts) → other.address ≡ low →
      AreAbove low words → AreIn words (other ∷ others) → AreIn words others
  rest_in low [] other others first above are = tt
  rest_in low (word ∷ words) other others first above are =
      (not_first low word.address other others above.0 first are.0, rest_in low words other others first above.1 are.1)

  words_once : (words others : List WordCounts) → IsInOrder words → IsInOrder others → AreAt words → AreAt others →
      AreIn words others → AreIn others words → words ≡ others
  words_once [] [] order order' here here' are are' = refl
  words_once [] (other ∷ others) order order' here here' are are' = absurd are'.0
  words_once (word ∷ words) [] order order' here here' are are' = absurd are.0
  words_once (word ∷ words) (other ∷ others) order order' here here' are are' =
      let same = first_once word other words others order.0 order'.0 are.0 are'.0 in
      let first : word ≡ other = here.0 ∙ ap at same ∙ sym here'.0 in
      let rest = words_once words others order.1 order'.1 here.1 here'.1
      (rest_in word.address words other others (sym same) order.0 are.1)
      (rest_in other.address others word words same order'.0 are'.1) in
      λ i. first i ∷ rest i

-- what is seen is there in each list that has all that is seen
all_in : (at : ℕ → WordCounts) (words others : List WordCounts) → AreAt at words →
    Each (λ word. 0 < times_of word) words
    → ((address : ℕ) → 0 < times_of (at address) → HasAddress address others) → AreIn at words others
all_in at [] others here seen all = tt
all_in at (word ∷ words) others here seen all = (
  all word.address (subst (λ (w : WordCounts). 0 < times_of w) here.0 seen.0),
  all_in at words others here.1 seen.1 all,
)

-- two profiles of the same passages and heads are the same
pub counted_once : {costs : LoadCosts} {passages : List Passage} {heads : List ℕ} (words others : List WordCounts) →
    IsProfileOf costs passages heads words → IsProfileOf costs passages heads others
    → words ≡ others
counted_once {costs} {passages} {heads} words others is is' =
    let at : ℕ → WordCounts = counts_at costs passages heads in
    words_once at words others is.in_order is'.in_order is.counted is'.counted
    (all_in at words others is.counted is.seen is'.all) (all_in at others words is'.counted is'.seen is.all)
