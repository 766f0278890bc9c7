-- A store changes the bytes of its own word alone, and so do all stores that retired.
use Rattle.rv_hardware.proofs.Words.{◌≡◌, ℕ, ◌+◌, ◌-◌, ◌%◌, ◌≤◌, Bool, true, false, cond, ◌||◌, ◌≢◌, List, [], ◌∷◌}
use Rattle.rv_hardware.proofs.Words.{length, slice_index_or as get_or, slice_range, Some, None, nat_cmp, sym, refl, ap}
use Rattle.rv_hardware.proofs.Words.{◌∙◌, inl, inr, true≢false, arith, ext_get_or, eq-eqb, ne_eqb, cases_Bool, cases_lt}
use Rattle.rv_hardware.proofs.Words.{cond-false, eqb-false, or_left, or_parts, or_right, nat_tests, number_of}
use Rattle.rv_hardware.proofs.Words.{StoreAccess, overwritten, Layout, fetched_word, is_in_ram, number_at, word_of}
use Rattle.rv_hardware.proofs.Words.{get_or-overwritten_above, get_or-overwritten_below, get_or-overwritten_in}
use Rattle.rv_hardware.proofs.Words.{length-overwritten, Each, is_committed, Store as QueuedStore, StoreState, Filled}
use Rattle.rv_hardware.proofs.Words.{bytes_after, with_store}
use Rattle.std.specs.Cmp.{nat_cmp_total, unsigned_tied}
use Rattle.std.specs.FinSet as set
use Rattle.std.proofs.lemmas.List.Edits.{get_or-between, length-between}
use Rattle.rv_stores.specs.declared.store.StorePhase.{StorePhase}
use Rattle.rv_hardware.proofs.Headline.Retires.{IsStoreAccess}

-- ---- sets of stale words
pub still_marked : (words : set.FinSet nat_cmp) (k q : ℕ) → set.contains words q ≡ true →
    set.contains (set.insert words k) q ≡ true
still_marked words k q marked = set.contains-insert nat_cmp_total words k q ∙ or_right _ _ marked

-- a set of words holds what was just put into it
pub now_marked : (words : set.FinSet nat_cmp) (k : ℕ) → set.contains (set.insert words k) k ≡ true
now_marked words k =
    set.contains-insert nat_cmp_total words k k ∙ or_left _ _ (unsigned_tied k k ∙ eq-eqb k k refl)

-- a word that is not marked was not, and is another
pub not_marked : (words : set.FinSet nat_cmp) (k q : ℕ) → set.contains (set.insert words k) q ≡ false →
    (set.contains words q ≡ false) × (q ≢ k)
not_marked words k q fresh =
    let parts = or_parts _ (set.contains words q) (sym (set.contains-insert nat_cmp_total words k q) ∙ fresh) in
    (parts.1, eqb-false q k (sym (unsigned_tied q k) ∙ parts.0))

-- a marked word was, or is the one
pub marked_before : (words : set.FinSet nat_cmp) (k q : ℕ) → set.contains (set.insert words k) q ≡ true → q ≢ k →
    set.contains words q ≡ true
marked_before words k q marked other =
    let apart = unsigned_tied q k ∙ ne_eqb q k other in
    sym (ap (λ (b : Bool). b || set.contains words q) apart) ∙
    sym (set.contains-insert nat_cmp_total words k q) ∙ marked

-- ---- a word is its four bytes
pub fetched_same : (layout : Layout) (xs ys : List ℕ) (pc : ℕ) → pc % 4 ≡ 0 → length xs ≡ layout.size →
    length ys ≡ layout.size → ((i : ℕ) → word_of (layout.base + i) ≡ word_of pc → get_or xs i 0 ≡ get_or ys i 0) →
    fetched_word layout xs pc ≡ fetched_word layout ys pc
fetched_same layout xs ys pc aligned size size' same = elim (cases_Bool (is_in_ram layout pc 4)) [
  | inr outside ↦
      cond-false (is_in_ram layout pc 4) (Some (number_at layout xs pc 4)) None outside
      ∙ sym (cond-false (is_in_ram layout pc 4) (Some (number_at layout ys pc 4)) None outside)
  | inl inside ↦
      let above : layout.base ≤ pc = grind (arith, nat_tests) in
      let below : pc + 4 ≤ layout.base + layout.size = grind (arith, nat_tests) in
      let place = pc - layout.base in
      let size_x = length-between xs place (place + 4) (omega arith) in
      let size_y = length-between ys place (place + 4) (omega arith) in
      let bytes : slice_range xs place (place + 4) ≡ slice_range ys place (place + 4) =
      ext_get_or 0 _ _ (size_x ∙ sym size_y) (λ k within.
      get_or-between xs place (place + 4) k 0 (omega (arith, size_x))
      ∙ same (place + k) (omega (arith, size_x))
      ∙ sym (get_or-between ys place (place + 4) k 0 (omega (arith, size_x)))) in
      ap (λ (bs : List ℕ). cond (is_in_ram layout pc 4) (Some (number_of bs)) None) bytes
]

-- ---- what a store leaves
module _ {layout : Layout} {access : StoreAccess} (legal : IsStoreAccess layout access) (xs : List ℕ)
    (size : length xs ≡ layout.size) where
  abbrev at : ℕ
  at = access.address - layout.base

  fits : at + length access.bytes ≤ length xs
  fits = omega (arith, legal.above, legal.below)

  -- a store leaves RAM as long as it is
  pub length-stored : length (overwritten xs at access.bytes) ≡ layout.size
  length-stored = length-overwritten xs access.bytes at fits ∙ size

  -- the bytes of other words stay
  pub stored_elsewhere : (i : ℕ) → word_of (layout.base + i) ≢ word_of access.address →
      get_or (overwritten xs at access.bytes) i 0 ≡ get_or xs i 0
  stored_elsewhere i other = grind (arith, get_or-overwritten_below, get_or-overwritten_above)

  -- to store the same again changes nothing
  pub stored_again : overwritten (overwritten xs at access.bytes) at access.bytes ≡ overwritten xs at access.bytes
  stored_again =
      let once = overwritten xs at access.bytes in
      let fits_again : at + length access.bytes ≤ length once =
      omega (arith, fits, length-overwritten xs access.bytes at fits) in
      ext_get_or 0 _ _ (length-overwritten once access.bytes at fits_again) (λ i within. elim (cases_lt i at) [
        | inl below ↦ get_or-overwritten_below once access.bytes at fits_again i below
        | inr from ↦ elim (cases_lt i (at + length access.bytes)) [
          | inr above ↦ get_or-overwritten_above once access.bytes at fits_again i above
          | inl here ↦ get_or-overwritten_in once access.bytes at fits_again i from here ∙
              sym (get_or-overwritten_in xs access.bytes at fits i from here)
        ]
      ])

-- ---- stores that retired
pub record IsRetiredStore (layout : Layout) (words : set.FinSet nat_cmp) (s : QueuedStore) : Type 0 where
  pub access : StoreAccess
  pub phase : StorePhase
  pub state_is : s.state ≡ Filled access phase
  pub retired : is_committed s ≡ true
  pub legal : IsStoreAccess layout access
  pub marked : set.contains words (word_of access.address) ≡ true

module _ (layout : Layout) (words : set.FinSet nat_cmp) where
  stored_is : (s : QueuedStore) (xs : List ℕ) (retired : IsRetiredStore layout words s) →
      with_store layout.base s.state xs ≡ overwritten xs (retired.access.address - layout.base) retired.access.bytes
  stored_is s xs retired = ap (λ (state : StoreState). with_store layout.base state xs) retired.state_is

  pub length-with_retired : (s : QueuedStore) (xs : List ℕ) → IsRetiredStore layout words s → length xs ≡ layout.size →
      length (with_store layout.base s.state xs) ≡ layout.size
  length-with_retired s xs retired size = ap length (stored_is s xs retired) ∙ length-stored retired.legal xs size

  -- retired stores leave RAM as long as it is
  pub length-bytes_after : (ss : List QueuedStore) (xs : List ℕ) → Each (IsRetiredStore layout words) ss →
      length xs ≡ layout.size → length (bytes_after layout.base ss xs) ≡ layout.size
  length-bytes_after [] xs all size = size
  length-bytes_after (s ∷ ss) xs all size =
      length-bytes_after ss (with_store layout.base s.state xs) all.1 (length-with_retired s xs all.0 size)

  -- they change no byte of a word that is not stale
  pub bytes_after-fresh : (ss : List QueuedStore) (xs : List ℕ) → Each (IsRetiredStore layout words) ss →
      length xs ≡ layout.size → (i : ℕ) → set.contains words (word_of (layout.base + i)) ≡ false →
      get_or (bytes_after layout.base ss xs) i 0 ≡ get_or xs i 0
  bytes_after-fresh [] xs all size i fresh = refl
  bytes_after-fresh (s ∷ ss) xs all size i fresh =
      grind (
        arith,
        true≢false,
        length-with_retired,
        stored_is,
        stored_elsewhere,
        bytes_after-fresh ss (with_store layout.base s.state xs) all.1 (length-with_retired s xs all.0 size) i fresh,
      )

  -- more words may be stale
  pub IsRetiredStore-more : (k : ℕ) (s : QueuedStore) → IsRetiredStore layout words s →
      IsRetiredStore layout (set.insert words k) s
  IsRetiredStore-more k s given = grind (arith, still_marked)
