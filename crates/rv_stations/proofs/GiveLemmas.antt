-- Lanes of which those that are left still hold what they held, and the others are woken.
use Rattle.std.proofs.Common.{◌≡◌, ℕ, ◌<◌, ◌≤◌, ◌+◌, ◌%◌, ◌^◌, List, length, get_or, map, slice_set, cond, Bool, false}
use Rattle.std.proofs.Common.{eqb, refl, sym, ap, ◌∙◌, inl, inr, arith, w32, w64, bit_and, take, replicate, ap₂, []}
use Rattle.std.proofs.Common.{◌∷◌, ◌*◌}
use Rattle.std.specs.Int.{bit_at, trailing_zeros}
use Rattle.std.specs.Simd.Lanes.{zip2}
use lib.Lanes.{top, mask_l}
use Rattle.std.proofs.lemmas.Bool.{cases_eq, cases_lt}
use Rattle.std.proofs.lemmas.Grind.{same_number_lists}
use Rattle.std.proofs.lemmas.List.{take_all, get_or-set_same, get_or-set_other, get_or-map, length-map}
use Rattle.std.proofs.lemmas.Nat.{and_mask}
use Rattle.std.proofs.lemmas.Nat.Bits.{bit_at-trailing_zeros, bit_at-zero, bit_at_above, same_from_bits_below}
use Rattle.std.proofs.lemmas.Simd.{bitmask_splat, zip2_splat, bit_mask_l, mask_l-lt, length-zip2, get_or-zip2}
use Rattle.rv_stations.specs.Column.{OtherBitsStay, woken_tag, woken_value}

-- the lowest of eight marked lanes
pub lowest_lane : (left : ℕ) → 0 < left → left < 2 ^ 8 → (trailing_zeros w64 left < 8)
    × (bit_at left (trailing_zeros w64 left) ≡ 1)
lowest_lane left some few =
    let lowest = bit_at-trailing_zeros w64 left some (omega (arith, few)) in
    elim (cases_lt (trailing_zeros w64 left) 8) [
      | inl low ↦ (low, lowest.1)
      | inr high ↦ absurd (omega (arith, lowest.1, bit_at_above left 8 (trailing_zeros w64 left) few high))
    ]

-- where a bit is not set, the tag is not the number
pub no_like : (seq : ℕ) (tags : List ℕ) (i : ℕ) → i < length tags →
    bit_at (mask_l (map (λ t. eqb (t % 2 ^ 32) (seq % 2 ^ 32)) tags)) i ≡ 0 → eqb (get_or tags i 0) seq ≡ false
no_like seq tags i lt none = grind (arith, bit_mask_l, get_or-map)

-- where none is set, no tag is the number
pub none_like : (seq : ℕ) (tags : List ℕ) → mask_l (map (λ t. eqb (t % 2 ^ 32) (seq % 2 ^ 32)) tags) ≡ 0 →
    mask_l (map (λ t. eqb t seq) tags) ≡ 0
none_like seq [] none = refl
none_like seq (t ∷ ts) none =
    let here : eqb t seq ≡ false = no_like seq (t ∷ ts) 0 (omega arith) (ap (λ n. bit_at n 0) none ∙ bit_at-zero 0) in
    let twice : cond (eqb (t % 2 ^ 32) (seq % 2 ^ 32)) 1 0 + 2
    * mask_l (map (λ u. eqb (u % 2 ^ 32) (seq % 2 ^ 32)) ts) ≡ 0 = none in
    let rest : mask_l (map (λ u. eqb (u % 2 ^ 32) (seq % 2 ^ 32)) ts) ≡ 0 = omega (arith, twice) in
    rw (here, none_like seq ts rest) refl

-- the lower halves compared
like_mask : (seq : ℕ) (tags : List ℕ) →
    mask_l (map (λ x. eqb x (bit_and seq 4294967295)) (map (λ (x : ℕ). x) (map (λ t. bit_and t 4294967295) tags)))
    ≡ mask_l (map (λ t. eqb (t % 2 ^ 32) (seq % 2 ^ 32)) tags)
like_mask seq [] = refl
like_mask seq (t ∷ ts) =
    ap₂ (λ (b : Bool) (n : ℕ). cond b 1 0 + 2 * n) (ap₂ eqb (and_mask t 32) (and_mask seq 32)) (like_mask seq ts)

-- the mask of a comparison lane by lane is that of the tags whose lower 32 bits are the number's
pub like_lanes : (seq : ℕ) (tags : List ℕ) → length tags ≡ 8 →
    mask_l (map (top 31)
    (zip2 (λ a b. cond (eqb a b) 4294967295 0)
    (map (λ (x : ℕ). x) (zip2 bit_and (take 8 tags) (replicate 8 4294967295)))
    (replicate 8 (bit_and seq 4294967295)))) % 18446744073709551616
    ≡ mask_l (map (λ t. eqb (t % 2 ^ 32) (seq % 2 ^ 32)) tags)
like_lanes seq tags long =
    let whole : take 8 tags ≡ tags = take_all 8 tags (omega arith) in
    let lower : List ℕ = map (λ t. bit_and t 4294967295) tags in
    let many : length (map (λ (x : ℕ). x) lower) ≡ 8 = length-map lower (λ (x : ℕ). x)
    ∙ length-map tags (λ t. bit_and t 4294967295) ∙ long in
    rw whole
    (ap (λ xs. mask_l
    (map (top 31)
    (zip2 (λ a b. cond (eqb a b) 4294967295 0) (map (λ (x : ℕ). x) xs)
    (replicate 8 (bit_and seq 4294967295)))) % 18446744073709551616) (zip2_splat bit_and tags 8 4294967295 long)
    ∙ bitmask_splat w32 eqb (map (λ (x : ℕ). x) lower) 8 (bit_and seq 4294967295) many (omega arith)
    ∙ like_mask seq tags)

module _ (seq value : ℕ) (tags values : List ℕ) where
  -- the lanes that are left still have their tags and values; each other has given up the tag that was the number for its value
  pub record Giving (left woken : ℕ) (now_tags now_values : List ℕ) : Type 0 where
    pub rest_tags : (i : ℕ) → i < 8 → bit_at left i ≡ 1 → get_or now_tags i 0 ≡ get_or tags i 0
    pub rest_values : (i : ℕ) → i < 8 → bit_at left i ≡ 1 → get_or now_values i 0 ≡ get_or values i 0
    pub now_woken : (i : ℕ) → i < 8 → bit_at left i ≡ 0 → get_or now_tags i 0 ≡ woken_tag seq (get_or tags i 0)
    pub now_given : (i : ℕ) → i < 8 → bit_at left i ≡ 0 →
        get_or now_values i 0 ≡ woken_value seq value (get_or tags i 0) (get_or values i 0)
    pub bits : (i : ℕ) → i < 8 → bit_at left i ≡ 0 → bit_at woken i ≡ cond (eqb (get_or tags i 0) seq) 1 0
    pub above : (i : ℕ) → 8 ≤ i → i < 64 → bit_at woken i ≡ 0

  -- once one of the lanes that are left is woken, the rest are left
  pub Giving-next : (left next woken woken_next lane : ℕ) (now_tags now_values : List ℕ) → length now_tags ≡ 8 →
      length now_values ≡ 8 → lane < 8 → bit_at left lane ≡ 1 → OtherBitsStay lane left next →
      bit_at woken_next lane ≡ cond (eqb (get_or now_tags lane 0) seq) 1 0 → OtherBitsStay lane woken woken_next →
      bit_at next lane ≡ 0 → Giving left woken now_tags now_values →
      Giving next woken_next (slice_set now_tags lane (woken_tag seq (get_or now_tags lane 0)))
      (slice_set now_values lane (woken_value seq value (get_or now_tags lane 0) (get_or now_values lane 0)))
  Giving-next left next woken woken_next lane now_tags now_values long as_long within set stay bit others clear g =
      let tag = g.rest_tags lane within set in
      let held = g.rest_values lane within set in
      record {
        rest_tags = λ i lt still. elim (cases_eq i lane) [
          | inl same ↦ let gone : bit_at next i ≡ 0 = rw same clear in absurd (omega (arith, gone, still))
          | inr other ↦ get_or-set_other now_tags lane i _ 0 other
              ∙ g.rest_tags i lt (sym (stay i (omega arith) other) ∙ still)
        ];
        rest_values = λ i lt still. elim (cases_eq i lane) [
          | inl same ↦ let gone : bit_at next i ≡ 0 = rw same clear in absurd (omega (arith, gone, still))
          | inr other ↦ get_or-set_other now_values lane i _ 0 other
              ∙ g.rest_values i lt (sym (stay i (omega arith) other) ∙ still)
        ];
        now_woken = λ i lt none. elim (cases_eq i lane) [
          | inl same ↦ rw same (get_or-set_same now_tags lane _ 0 (omega arith) ∙ ap (woken_tag seq) tag)
          | inr other ↦ get_or-set_other now_tags lane i _ 0 other
              ∙ g.now_woken i lt (sym (stay i (omega arith) other) ∙ none)
        ];
        now_given = λ i lt none. elim (cases_eq i lane) [
          | inl same ↦
              rw same
              (get_or-set_same now_values lane _ 0 (omega arith)
              ∙ ap (λ t. woken_value seq value t (get_or now_values lane 0)) tag
              ∙ ap (woken_value seq value (get_or tags lane 0)) held)
          | inr other ↦ get_or-set_other now_values lane i _ 0 other
              ∙ g.now_given i lt (sym (stay i (omega arith) other) ∙ none)
        ];
        bits = λ i lt none. elim (cases_eq i lane) [
          | inl same ↦ rw same (bit ∙ ap (λ t. cond (eqb t seq) 1 0) tag)
          | inr other ↦ others i (omega arith) other ∙ g.bits i lt (sym (stay i (omega arith) other) ∙ none)
        ];
        above = λ i le lt. others i lt (λ same. absurd (omega (arith, same))) ∙ g.above i le lt;
      }

  module _ (woken : ℕ) (now_tags now_values : List ℕ) (many : length tags ≡ 8) (as_many : length values ≡ 8)
      (long : length now_tags ≡ 8) (as_long : length now_values ≡ 8) (g : Giving 0 woken now_tags now_values) where
    -- with no lane left, each tag that was the number is gone
    pub given-tags : now_tags ≡ map (woken_tag seq) tags
    given-tags = grind (arith, same_number_lists, length-map, get_or-map)

    -- with no lane left, each tag that was the number has its value
    pub given-values : now_values ≡ zip2 (woken_value seq value) tags values
    given-values = grind (arith, same_number_lists, length-zip2, get_or-zip2)

    equals : length (map (λ t. eqb t seq) tags) ≡ 8
    equals = length-map tags (λ t. eqb t seq) ∙ many

    small : mask_l (map (λ t. eqb t seq) tags) < 2 ^ 8
    small = rw equals at (mask_l-lt (map (λ t. eqb t seq) tags))

    -- with no lane left, the bits are those of the tags that were the number
    pub given-bits : woken < 2 ^ 64 → woken ≡ mask_l (map (λ t. eqb t seq) tags)
    given-bits fits =
        same_from_bits_below 64 woken (mask_l (map (λ t. eqb t seq) tags)) fits (omega (arith, small))
        (λ i lt. elim (cases_lt i 8) [
          | inl low ↦
              g.bits i low (bit_at-zero i)
              ∙ sym (bit_mask_l (map (λ t. eqb t seq) tags) i
              ∙ ap (λ b. cond b 1 0) (get_or-map (λ t. eqb t seq) tags i 0 false (omega arith)))
          | inr high ↦ g.above i high lt ∙ sym (bit_at_above (mask_l (map (λ t. eqb t seq) tags)) 8 i small high)
        ])
