-- The operands of tags and values that were written for a producer, and the mask of those that wait.
use Rattle.std.proofs.Common.{◌≡◌, sym, ℕ, suc, ◌+◌, ◌-◌, ◌*◌, ◌<◌, ◌≤◌, ◌^◌, ◌%◌, ◌/◌, not, inl, inr, Bool, true}
use Rattle.std.proofs.Common.{false, cond, List, [], ◌∷◌, ◌++◌, length, get_or, take, drop, map, replicate, slice_set}
use Rattle.std.proofs.Common.{bit_and, bit_or, min, ◌&&◌, arith, eqb, refl, ap, ap₂, ◌∙◌, length-take-le, w64}
use Rattle.std.specs.Int.{bit_at}
use Rattle.std.specs.Simd.Lanes.{zip2, mask_l}
use Rattle.std.proofs.lemmas.Bool.{cases_Bool, cases_eq, cases_lt, true≢false, eqb-true, eq-eqb}
use Rattle.std.proofs.lemmas.List.{get_or-take, get_or-drop, get_or-map, get_or-set_same, get_or-set_other}
use Rattle.std.proofs.lemmas.List.{get_or_append_left, get_or-append_right, get_or-replicate, length-map, length-set}
use Rattle.std.proofs.lemmas.List.{length-append, length-drop, take-append-drop}
use Rattle.std.proofs.lemmas.Nat.{pow_pos, shl_whole}
use Rattle.std.proofs.lemmas.Nat.Bits.{bit_at-zero, bit_at-lt, bit_at_above, bit_at_and, bit_at_or, shr_and_one}
use Rattle.std.proofs.lemmas.Nat.Bits.{bit_at_not, bit_at_cat_low, bit_at_cat_high}
use Rattle.std.proofs.lemmas.Simd.{length-zip2, bit_mask_l, mask_l-lt, chunk-drop, get_or-zip2}
use Rattle.rv_stations.specs.declared.waiting.Operand.{Operand}
use Rattle.rv_stations.specs.declared.waiting.Operand.TheVariants.{Value, Tag}
use Rattle.rv_stations.specs.Waiting.{has_value, woken_operand}
use Rattle.rv_stations.specs.Column.{IsWaitMask, OtherBitsStay, in_eight, operand_of, is_producer, woken_tag}
use Rattle.rv_stations.specs.Column.{woken_value}
use Rattle.rv_stations.specs.ColumnFields.{operands, IsSoundColumn}
use Rattle.rv_stations.specs.declared.column.OperandColumn.TheInside.{Inside}
use Rattle.rv_stations.proofs.LaneLemmas.{unheld-tags, unheld-values}
use Rattle.rv_stations.proofs.ZipLemmas.{zip2-append, zip2-take, zip2-drop}

-- there are as many operands as tags
pub length-column : (p : Inside) → IsSoundColumn p → length (operands p) ≡ length p.tags.items
length-column p sound = length-zip2 operand_of p.tags.items p.values.items (omega (arith, sound.as_many))

-- a place of an operand is one of a tag
pub place_within : (p : Inside) → IsSoundColumn p → (seen : List Operand) → operands p ≡ seen → (at : ℕ) →
    at < length seen → at < length p.tags.items
place_within p sound seen is at within = omega (arith, rw (← is) at within, length-column p sound)

-- the number of no producer says that the value is there
pub operand_of-value : (tag held : ℕ) → tag ≡ 18446744073709551615 → operand_of tag held ≡ Value (held % 4294967296)
operand_of-value tag held none = rw (eq-eqb tag 18446744073709551615 none) refl

-- an operand that has its value keeps it, and one with another tag keeps that
unwoken : (seq value tag held : ℕ) → eqb tag seq ≡ false →
    woken_operand seq value (operand_of tag held) ≡ operand_of tag held
unwoken seq value tag held other = grind arith

-- a tag that is the producer's number becomes the value
operand_of-woken : (seq value tag held : ℕ) → eqb seq 18446744073709551615 ≡ false → value < 2 ^ 32 →
    operand_of (woken_tag seq tag) (woken_value seq value tag held) ≡ woken_operand seq value (operand_of tag held)
operand_of-woken seq value tag held some small = grind (arith, unwoken)

pub operands-woken : (seq value : ℕ) (tags values : List ℕ) → eqb seq 18446744073709551615 ≡ false → value < 2 ^ 32 →
    zip2 operand_of (map (woken_tag seq) tags) (zip2 (woken_value seq value) tags values)
    ≡ map (woken_operand seq value) (zip2 operand_of tags values)
operands-woken seq value [] values some small = refl
operands-woken seq value (t ∷ ts) [] some small = refl
operands-woken seq value (t ∷ ts) (v ∷ vs) some small =
    ap₂ ◌∷◌ (operand_of-woken seq value t v some small) (operands-woken seq value ts vs some small)

-- an operand that waits has another tag than that of no producer
woken_by_none : (value tag held : ℕ) →
    woken_operand 18446744073709551615 value (operand_of tag held) ≡ operand_of tag held
woken_by_none value tag held = grind (arith, unwoken)

-- the number of no producer wakes no operand
pub operands-unwoken : (value : ℕ) (tags values : List ℕ) →
    map (woken_operand 18446744073709551615 value) (zip2 operand_of tags values) ≡ zip2 operand_of tags values
operands-unwoken value [] values = refl
operands-unwoken value (t ∷ ts) [] = refl
operands-unwoken value (t ∷ ts) (v ∷ vs) = ap₂ ◌∷◌ (woken_by_none value t v) (operands-unwoken value ts vs)

-- operands that all have their values are not woken
unwoken_all : (seq value : ℕ) (os : List Operand) →
    ((at : ℕ) → at < length os → has_value (get_or os at (Value 0)) ≡ true) → map (woken_operand seq value) os ≡ os
unwoken_all seq value [] have = refl
unwoken_all seq value (Value held ∷ os) have =
    ap (λ l. Value held ∷ l) (unwoken_all seq value os (λ at lt. have (suc at) (omega arith)))
unwoken_all seq value (Tag tag ∷ os) have = absurd (true≢false (sym (have 0 (omega arith))))

-- a bit that is not set shows a value that is there
pub set_bit : (b : Bool) → ◌≡◌ {A = ℕ} (cond b 0 1) 0 → b ≡ true
set_bit true zero_bit = refl
set_bit false zero_bit = absurd (omega (arith, zero_bit))

-- where no bit is set, no operand waits
pub operands-idle : (seq value : ℕ) (os : List Operand) → IsWaitMask os 0 → map (woken_operand seq value) os ≡ os
operands-idle seq value os marked =
    unwoken_all seq value os
    (λ at lt. set_bit (has_value (get_or os at (Value 0))) (sym (marked at lt) ∙ bit_at-zero at))

-- a tag shows whether there is a value
pub has_value-operand_of : (tag held : ℕ) → has_value (operand_of tag held) ≡ eqb tag 18446744073709551615
has_value-operand_of tag held = grind arith

-- an operand that has its value has the lower 32 bits of the number held for it
pub operand_of-has_value : (tag held : ℕ) → has_value (operand_of tag held) ≡ true →
    operand_of tag held ≡ Value (held % 4294967296)
operand_of-has_value tag held has =
    operand_of-value tag held (eqb-true tag 18446744073709551615 (sym (has_value-operand_of tag held) ∙ has))

-- the mask after one operand is written
pub IsWaitMask-set : (os : List Operand) (place tag held before after : ℕ) → length os ≤ 64 → place < length os →
    IsWaitMask os before → bit_at after place ≡ cond (is_producer tag) 1 0 → OtherBitsStay place before after →
    IsWaitMask (slice_set os place (operand_of tag held)) after
IsWaitMask-set os place tag held before after few within marked bit others at lt = elim (cases_eq at place) [
  | inl same ↦
      ap (bit_at after) same
      ∙ bit
      ∙ one_or_none (eqb tag 18446744073709551615)
      ∙ ap (λ b. cond b 0 1) (sym (has_value-operand_of tag held))
      ∙ ap (λ o. cond (has_value o) 0 1)
      (sym (ap (λ i. get_or (slice_set os place (operand_of tag held)) i (Value 0)) same
      ∙ get_or-set_same os place (operand_of tag held) (Value 0) within))
  | inr other ↦
      let long = length-set os place (operand_of tag held) in
      others at (omega (arith, long, lt)) other
      ∙ marked at (omega (arith, long, lt))
      ∙ ap (λ o. cond (has_value o) 0 1) (sym (get_or-set_other os place at (operand_of tag held) (Value 0) other))
]
  where
    one_or_none : (b : Bool) → ◌≡◌ {A = ℕ} (cond (not b) 1 0) (cond b 0 1)
    one_or_none true = refl
    one_or_none false = refl

-- the items of a list in which eight are changed
module _ {X : Type 0} (f : X → X) (start : ℕ) (xs : List X) (room : start + 8 ≤ length xs) (d : X) where
  front : length (take start xs) ≡ start
  front = length-take-le start xs (omega arith)

  eight : length (map f (take 8 (drop start xs))) ≡ 8
  eight =
      length-map (take 8 (drop start xs)) f ∙ length-take-le 8 (drop start xs) (omega (arith, length-drop start xs))

  -- an item before the eight stays
  pub in_eight-below : (i : ℕ) → i < start → get_or (in_eight start (map f) xs) i d ≡ get_or xs i d
  in_eight-below i lt = get_or_append_left (take start xs) _ d i (omega (arith, front)) ∙ get_or-take start xs i d lt

  -- an item after the eight stays
  pub in_eight-above : (i : ℕ) → start + 8 ≤ i → get_or (in_eight start (map f) xs) i d ≡ get_or xs i d
  in_eight-above i le = grind (arith, get_or-append_right, front, eight, get_or-drop)

  -- each of the eight is changed
  pub in_eight-inside : (i : ℕ) → start ≤ i → i < start + 8 → get_or (in_eight start (map f) xs) i d ≡ f (get_or xs i d)
  in_eight-inside i le lt =
      let back : start + (i - start) ≡ i = omega arith in
      get_or-append_right (take start xs) _ start i d front le
      ∙ get_or_append_left (map f (take 8 (drop start xs))) _ d (i - start) (omega (arith, eight))
      ∙ get_or-map f (take 8 (drop start xs)) (i - start) d d
      (omega (arith, eight, length-map (take 8 (drop start xs)) f))
      ∙ ap f (get_or-take 8 (drop start xs) (i - start) d (omega arith) ∙ get_or-drop start xs (i - start) d
      ∙ ap (λ n. get_or xs n d) back)

  -- as many items as before
  pub length-in_eight : length (in_eight start (map f) xs) ≡ length xs
  length-in_eight = grind (arith, length-append, front, eight, length-drop)

-- a change that changes nothing
pub in_eight-same : {X : Type 0} (start : ℕ) (change : List X → List X) (xs : List X) →
    change (take 8 (drop start xs)) ≡ take 8 (drop start xs) → in_eight start change xs ≡ xs
in_eight-same start change xs same =
    ap (λ l. take start xs ++ (l ++ drop (start + 8) xs)) same
    ∙ ap (λ l. take start xs ++ l) (sym (chunk-drop start 8 xs))
    ∙ take-append-drop start xs

-- the mask of eight lanes, moved to their place, and cleared from another mask
module _ (ms : List Bool) (start : ℕ) (eight : length ms ≡ 8) (room : start + 8 ≤ 64) where
  in_byte : mask_l ms < 2 ^ 8
  in_byte = rw eight at (mask_l-lt ms)

  moved_whole : mask_l ms * 2 ^ start % 18446744073709551616 ≡ mask_l ms * 2 ^ start
  moved_whole = shl_whole (mask_l ms) 8 start 64 in_byte (omega arith)

  moved_fits : mask_l ms * 2 ^ start < 18446744073709551616
  moved_fits = omega (arith, moved_whole)

  plain : mask_l ms * 2 ^ start + 0 ≡ mask_l ms * 2 ^ start
  plain = omega arith

  pub moved_below : (i : ℕ) → i < start → bit_at (mask_l ms * 2 ^ start) i ≡ 0
  moved_below i lt = ap (λ n. bit_at n i) (sym plain) ∙ bit_at_cat_low (mask_l ms) start 0 i lt ∙ bit_at-zero i

  moved_from : (i : ℕ) → start ≤ i → bit_at (mask_l ms * 2 ^ start) i ≡ bit_at (mask_l ms) (i - start)
  moved_from i le = ap (λ n. bit_at n i) (sym plain) ∙ bit_at_cat_high (mask_l ms) start 0 i (pow_pos start) le

  pub moved_inside : (i : ℕ) → start ≤ i → bit_at (mask_l ms * 2 ^ start) i ≡ cond (get_or ms (i - start) false) 1 0
  moved_inside i le = moved_from i le ∙ bit_mask_l ms (i - start)

  pub moved_above : (i : ℕ) → start + 8 ≤ i → bit_at (mask_l ms * 2 ^ start) i ≡ 0
  moved_above i le = moved_from i (omega arith) ∙ bit_at_above (mask_l ms) 8 (i - start) in_byte (omega arith)

  pub bit_at-cleared : (mask i : ℕ) → i < 64 →
      bit_at (bit_and mask (18446744073709551615 - mask_l ms * 2 ^ start % 18446744073709551616)) i
      ≡ min (bit_at mask i) (1 - bit_at (mask_l ms * 2 ^ start) i)
  bit_at-cleared mask i lt =
      rw moved_whole (bit_at_and mask _ i
      ∙ ap (min (bit_at mask i)) (bit_at_not w64 (mask_l ms * 2 ^ start) i moved_fits lt))

  pub not_cleared : (mask i : ℕ) → i < 64 → bit_at (mask_l ms * 2 ^ start) i ≡ 0 →
      bit_at (bit_and mask (18446744073709551615 - mask_l ms * 2 ^ start % 18446744073709551616)) i ≡ bit_at mask i
  not_cleared mask i lt none = bit_at-cleared mask i lt ∙ omega (arith, none, bit_at-lt mask i)

-- an operand whose tag is the number has its value then
has_value-woken : (seq value tag held : ℕ) → eqb seq 18446744073709551615 ≡ false → value < 2 ^ 32 →
    eqb tag seq ≡ true → has_value (woken_operand seq value (operand_of tag held)) ≡ true
has_value-woken seq value tag held some small same = grind (arith, operand_of-woken, has_value-operand_of)

-- the mask after eight operands are woken
module _ (seq value start waiting : ℕ) (tags values : List ℕ) (some : eqb seq 18446744073709551615 ≡ false)
    (small : value < 2 ^ 32) (as_many : length tags ≡ length values) (few : length tags ≤ 64)
    (room : start + 8 ≤ length tags) where
  abbrev operands_now : List Operand
  operands_now = zip2 operand_of tags values

  -- the same once eight of them are woken
  abbrev operands_after : List Operand
  operands_after = in_eight start (map (woken_operand seq value)) operands_now

  abbrev equals : List Bool
  equals = map (λ t. eqb t seq) (take 8 (drop start tags))

  abbrev after : ℕ
  after = bit_and waiting (18446744073709551615 - mask_l equals * 2 ^ start % 18446744073709551616)

  long : length operands_now ≡ length tags
  long = length-zip2 operand_of tags values as_many

  eights : length (take 8 (drop start tags)) ≡ 8
  eights = length-take-le 8 (drop start tags) (omega (arith, length-drop start tags))

  eight_lanes : length equals ≡ 8
  eight_lanes = length-map (take 8 (drop start tags)) (λ t. eqb t seq) ∙ eights

  lane : (at : ℕ) → start ≤ at → at < start + 8 → get_or equals (at - start) false ≡ eqb (get_or tags at 0) seq
  lane at le lt =
      let back : start + (at - start) ≡ at = omega arith in
      get_or-map (λ t. eqb t seq) (take 8 (drop start tags)) (at - start) 0 false (omega (arith, eights))
      ∙ ap (λ t. eqb t seq)
      (get_or-take 8 (drop start tags) (at - start) 0 (omega arith) ∙ get_or-drop start tags (at - start) 0
      ∙ ap (λ n. get_or tags n 0) back)

  operand_at : (at : ℕ) → at < length tags →
      get_or operands_now at (Value 0) ≡ operand_of (get_or tags at 0) (get_or values at 0)
  operand_at at lt = get_or-zip2 operand_of tags values at 0 0 (Value 0) lt (omega (arith, as_many))

  outside : (at : ℕ) → at < length tags → IsWaitMask operands_now waiting → bit_at (mask_l equals * 2 ^ start) at ≡ 0 →
      get_or operands_after at (Value 0) ≡ get_or operands_now at (Value 0) →
      bit_at after at ≡ cond (has_value (get_or operands_after at (Value 0))) 0 1
  outside at lt marked none same = grind (arith, not_cleared, eight_lanes, long)

  inside : (at : ℕ) → at < length tags → start ≤ at → at < start + 8 → IsWaitMask operands_now waiting →
      bit_at after at ≡ cond (has_value (get_or operands_after at (Value 0))) 0 1
  inside at lt le le8 marked = elim (cases_Bool (eqb (get_or tags at 0) seq)) [
    | inl same ↦
        let set : bit_at (mask_l equals * 2 ^ start) at ≡ 1 =
        moved_inside equals start eight_lanes (omega arith) at le ∙ ap (λ b. cond b 1 0) (lane at le le8 ∙ same) in
        let gone : bit_at after at ≡ 0 = bit_at-cleared equals start eight_lanes (omega arith) waiting at (omega arith)
        ∙ omega (arith, set) in
        let has = has_value-woken seq value (get_or tags at 0) (get_or values at 0) some small same in
        gone ∙ ap (λ b. cond b 0 1)
        (sym (ap has_value (changed ∙ ap (woken_operand seq value) (operand_at at lt)) ∙ has))
    | inr other ↦
        let clear : bit_at (mask_l equals * 2 ^ start) at ≡ 0 =
        moved_inside equals start eight_lanes (omega arith) at le ∙ ap (λ b. cond b 1 0) (lane at le le8 ∙ other) in
        outside at lt marked clear
        (changed ∙ ap (woken_operand seq value) (operand_at at lt)
        ∙ unwoken seq value (get_or tags at 0) (get_or values at 0) other ∙ sym (operand_at at lt))
  ]
    where
      changed : get_or operands_after at (Value 0) ≡ woken_operand seq value (get_or operands_now at (Value 0))
      changed = in_eight-inside (woken_operand seq value) start operands_now (omega (arith, long)) (Value 0) at le le8

  -- without the bits of those of the eight that had the number, the mask is that of the operands afterwards
  pub IsWaitMask-woken : IsWaitMask operands_now waiting → IsWaitMask operands_after after
  IsWaitMask-woken marked at within =
      let as_long = length-in_eight (woken_operand seq value) start operands_now (omega (arith, long)) (Value 0) in
      let within' : at < length tags = omega (arith, within, long, as_long) in
      elim (cases_lt at start) [
        | inl below ↦
            outside at within' marked (moved_below equals start eight_lanes (omega arith) at below)
            (in_eight-below (woken_operand seq value) start operands_now (omega (arith, long)) (Value 0) at below)
        | inr from ↦ elim (cases_lt at (start + 8)) [
          | inl in_them ↦ inside at within' from in_them marked
          | inr above ↦
              outside at within' marked (moved_above equals start eight_lanes (omega arith) at above)
              (in_eight-above (woken_operand seq value) start operands_now (omega (arith, long)) (Value 0) at above)
        ]
      ]

  -- the operands of what is written
  pub operands-in_eight : zip2 operand_of (in_eight start (map (woken_tag seq)) tags)
      (in_eight start (zip2 (woken_value seq value) (take 8 (drop start tags))) values)
      ≡ operands_after
  operands-in_eight =
      let front : length (take start tags) ≡ length (take start values) =
      length-take-le start tags (omega arith) ∙ sym (length-take-le start values (omega (arith, as_many))) in
      let middle : length (map (woken_tag seq) (take 8 (drop start tags)))
      ≡ length (zip2 (woken_value seq value) (take 8 (drop start tags)) (take 8 (drop start values))) =
      length-map (take 8 (drop start tags)) (woken_tag seq)
      ∙ sym (length-zip2 (woken_value seq value) (take 8 (drop start tags)) (take 8 (drop start values))
      (eights ∙ sym (length-take-le 8 (drop start values) (omega (arith, length-drop start values, as_many))))) in
      zip2-append operand_of (take start tags) _ (take start values) _ front
      ∙ ap₂ ◌++◌
      (zip2-take operand_of start tags values)
      (zip2-append operand_of _ (drop (start + 8) tags) _ (drop (start + 8) values) middle
      ∙ ap₂ ◌++◌
      (operands-woken seq value (take 8 (drop start tags)) (take 8 (drop start values)) some small
      ∙ ap (map (woken_operand seq value))
      (zip2-take operand_of 8 (drop start tags) (drop start values)
      ∙ ap (take 8) (zip2-drop operand_of start tags values as_many)))
      (zip2-drop operand_of (start + 8) tags values as_many))

  -- eight operands of which none has the number
  pub operands-unlike : mask_l equals ≡ 0 → operands_after ≡ operands_now
  operands-unlike none =
      let as_eight : length (take 8 (drop start tags)) ≡ length (take 8 (drop start values)) =
      eights ∙ sym (length-take-le 8 (drop start values) (omega (arith, length-drop start values, as_many))) in
      sym operands-in_eight
      ∙ ap₂ (zip2 operand_of)
      (in_eight-same start (map (woken_tag seq)) tags (unheld-tags seq (take 8 (drop start tags)) none))
      (in_eight-same start (zip2 (woken_value seq value) (take 8 (drop start tags))) values
      (unheld-values seq value (take 8 (drop start tags)) (take 8 (drop start values)) as_eight none))

-- a mask without the bits of eight places
pub cleared-inside : (mask start place : ℕ) → start + 8 ≤ 64 → start ≤ place → place < start + 8 →
    bit_at (bit_and mask (18446744073709551615 - 255 * 2 ^ start % 18446744073709551616)) place ≡ 0
cleared-inside mask start place room le lt =
    let set : bit_at (255 * 2 ^ start) place ≡ 1 =
    moved_inside (replicate 8 true) start refl room place le
    ∙ ap (λ b. cond b 1 0) (get_or-replicate 8 (place - start) true false (omega arith)) in
    bit_at-cleared (replicate 8 true) start refl room mask place (omega arith) ∙ omega (arith, set)

-- a bit below those of the eight places stays
pub cleared-below : (mask start place : ℕ) → start + 8 ≤ 64 → place < start →
    bit_at (bit_and mask (18446744073709551615 - 255 * 2 ^ start % 18446744073709551616)) place ≡ bit_at mask place
cleared-below mask start place room lt =
    not_cleared (replicate 8 true) start refl room mask place (omega arith)
    (moved_below (replicate 8 true) start refl room place lt)

-- a bit above those of the eight places stays
pub cleared-above : (mask start place : ℕ) → start + 8 ≤ 64 → start + 8 ≤ place → place < 64 →
    bit_at (bit_and mask (18446744073709551615 - 255 * 2 ^ start % 18446744073709551616)) place ≡ bit_at mask place
cleared-above mask start place room le lt =
    not_cleared (replicate 8 true) start refl room mask place lt
    (moved_above (replicate 8 true) start refl room place le)

-- of two masks no bit is set in a place where both operands have their values
pub both_ready : (first second place : ℕ) (a b : Bool) → bit_at first place ≡ cond a 0 1 →
    bit_at second place ≡ cond b 0 1 → (a && b) ≡ eqb (bit_and (bit_or first second / 2 ^ place) 1) 0
both_ready first second place a b of_first of_second = grind (arith, shr_and_one, bit_at_or)
