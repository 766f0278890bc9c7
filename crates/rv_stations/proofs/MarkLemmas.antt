-- The bits of the places in which instructions wait.
use Rattle.std.proofs.Common.{◌≡◌, ℕ, zero, suc, ◌+◌, ◌<◌, ◌≤◌, ◌∙◌, ◌/◌, ◌^◌, Bool, true, false, cond, eqb, bit_and}
use Rattle.std.proofs.Common.{bit_or, List, [], ◌∷◌, All, length, get_or, take, remove, slice_get, Some, refl, ap, sym}
use Rattle.std.proofs.Common.{arith, length-take-le}
use Rattle.std.specs.Int.{bit_at}
use Rattle.std.specs.List.{AllPairs}
use Rattle.std.specs.Option.{option_map}
use Rattle.std.proofs.lemmas.List.{get_or-take}
use Rattle.std.proofs.lemmas.List.Elements.{All-cons, All-head, All-more, All-nil, All-tail}
use Rattle.std.proofs.lemmas.Nat.Bits.{bit_at_and, shr_and_one}
use Rattle.std.proofs.lemmas.Option.{get_or_from_slice_get, slice_get_within, slice_get-get_or}
use Rattle.rv_isa.specs.Instruction.{is_load}
use Rattle.rv_stations.specs.declared.waiting.Waiting.{Waiting}
use Rattle.rv_stations.specs.Column.{IsWaitMask}
use Rattle.rv_stations.specs.Waiting.{is_asked, is_ready, loads}
use Rattle.rv_stations.specs.PoolFields.{some_waiting, nothing, pool, IsSoundPool}
use Rattle.rv_stations.specs.declared.pool.StationPool.TheInside.{Inside}
use Rattle.rv_stations.proofs.PlaceLemmas.{All-remove, All-others}
use Rattle.rv_stations.proofs.PoolLemmas.{length-pool, place_there, ready_by_bits, loads_by_instruction}
use Rattle.rv_stations.proofs.PoolLemmas.{is_ready-in_place}

-- no two places are the same
abbrev pub AreApart : List ℕ → Type 0
AreApart ks = AllPairs (λ a b. a ≡ b → ⊥) ks

flip : (a b : ℕ) → (a ≡ b → ⊥) → (b ≡ a → ⊥)
flip a b apart same = apart (sym same)

-- what holds of the places in use, and of the others still once one more is
module _ (P Q : ℕ → Type 0) (place : ℕ) (step : (k : ℕ) → k < 64 → (k ≡ place → ⊥) → P k → Q k) where
  -- where P holds of the places in use, and Q of the next place, Q holds of all once that is in use
  pub marks-next : (ks : List ℕ) (n : ℕ) → AreApart ks → All (λ k. k < 64) ks → slice_get ks n ≡ Some place → Q place →
      All P (take n ks) → All Q (take (n + 1) ks)
  marks-next ks n apart few is here marks =
      let within : n < length ks = slice_get_within ks n place is in
      let low : n ≤ length ks = omega arith in
      let last : get_or ks n 0 ≡ place = get_or_from_slice_get ks n place 0 is in
      let before : All Q (take n ks) =
      λ i d lt.
      let under : i < n = omega (arith, lt, length-take-le n ks low) in
      let same = get_or-take n ks i d under in
      step (get_or (take n ks) i d) (rw same (few i d (omega arith)))
      (λ equal. apart i n d under within (sym same ∙ equal ∙ sym (get_or_from_slice_get ks n place d is)))
      (marks i d lt) in
      All-more Q ks n 0 within before (rw last here)

  -- and once that one is not any more
  pub marks-removed : (ks : List ℕ) (at : ℕ) → AreApart ks → All (λ k. k < 64) ks → at < length ks →
      get_or ks at 0 ≡ place → All P ks → All Q (remove ks at)
  marks-removed ks at apart few within is marks = λ i d lt.
      step (get_or (remove ks at) i d) (All-remove (λ k. k < 64) at ks within few i d lt)
      (λ equal. All-others (λ a b. a ≡ b → ⊥) flip at ks 0 within apart i d lt (is ∙ sym equal))
      (All-remove P at ks within marks i d lt)

-- what holds of the first m places holds of the first n, where n is no larger
pub marks-shorter : (P : ℕ → Type 0) (n m : ℕ) (ks : List ℕ) → n ≤ m → All P (take m ks) → All P (take n ks)
marks-shorter P zero m ks order marks = All-nil P
marks-shorter P (suc n) zero ks order marks = absurd (omega arith)
marks-shorter P (suc n) (suc m) [] order marks = All-nil P
marks-shorter P (suc n) (suc m) (k ∷ ks) order marks =
    All-cons P k (take n ks) (All-head P k (take m ks) marks)
    (marks-shorter P n m ks (omega arith) (All-tail P k (take m ks) marks))

-- no two of the first n places are the same, where no two of all are
pub AreApart-take : (n : ℕ) (ks : List ℕ) → n ≤ length ks → AreApart ks → AreApart (take n ks)
AreApart-take n ks low apart = λ i j d lt within same.
    let under : j < n = omega (arith, within, length-take-le n ks low) in
    let before : i < n = omega arith in
    apart i j d lt (omega arith) (sym (get_or-take n ks i d before) ∙ same ∙ get_or-take n ks j d under)

-- the bit of a place in use
module _ (p : Inside) (sound : IsSoundPool p) (at : ℕ) (low : at < p.count) where
  pub place_in_use : slice_get p.places.items at ≡ Some (get_or p.places.items at 0)
  place_in_use = slice_get-get_or p.places.items at 0 (omega (arith, low, sound.within))

  pub place_few : get_or p.places.items at 0 < 64
  place_few = omega (arith, place_there p sound at (get_or p.places.items at 0) place_in_use, sound.few)

  in_front : at < length (take p.count p.places.items)
  in_front = omega (arith, low, length-take-le p.count p.places.items (omega (arith, sound.within)))

  there : length (pool p).waiting ≡ p.count
  there = length-pool p sound

  abbrev place : ℕ
  place = get_or p.places.items at 0

  same : get_or (take p.count p.places.items) at 0 ≡ place
  same = get_or-take p.count p.places.items at 0 low

  abbrev w : Waiting
  w = get_or (pool p).waiting at some_waiting

  here : slice_get (pool p).waiting at ≡ Some w
  here = slice_get-get_or (pool p).waiting at some_waiting (omega (arith, low, there))

  loads_here : loads w ≡ is_load (Some (get_or p.dispatched.items place nothing).instruction)
  loads_here =
      let known : slice_get p.dispatched.items place ≡ Some (get_or p.dispatched.items place nothing) =
      slice_get-get_or p.dispatched.items place nothing
      (omega (arith, place_there p sound at place place_in_use, sound.dispatched)) in
      let shown : Some (loads w) ≡ Some (is_load (Some (get_or p.dispatched.items place nothing).instruction)) =
      sym (ap (option_map loads) here)
      ∙ loads_by_instruction p sound at place (get_or p.dispatched.items place nothing) low place_in_use known in
      cc shown

  -- the places in use that are asked, without those of loads where loads wait
  abbrev asked_places : Bool → ℕ
  asked_places loads_wait = cond loads_wait (bit_and p.held p.others) p.held

  unasked_by : (loads_wait : Bool) → bit_at (asked_places loads_wait) place ≡ 0 → is_asked loads_wait w ≡ false
  unasked_by false unset = let set : bit_at p.held place ≡ 1 = rw same at (sound.held at 0 in_front) in
      absurd (omega (arith, set, unset))
  unasked_by true unset = grind (arith, same, in_front, loads_here, bit_at_and)

  asked_by : (loads_wait : Bool) → is_ready w ≡ true →
      bit_at (asked_places loads_wait) place ≡ 1 → is_asked loads_wait w ≡ true
  asked_by false ready set = rw ready refl
  asked_by true ready set = grind (arith, same, in_front, loads_here, bit_at_and)

  module _ (a b mask : ℕ) (of_first : IsWaitMask p.first a) (of_second : IsWaitMask p.second b) where
    -- where no operand waits, the mask has the bits of the places that are asked
    abbrev HoldsAsked : Bool → Type 0
    HoldsAsked loads_wait =
        (k : ℕ) → k < 64 → bit_at (bit_or a b) k ≡ 0 → bit_at mask k ≡ bit_at (asked_places loads_wait) k

    shown : is_ready w ≡ eqb (bit_and (bit_or a b / 2 ^ place) 1) 0
    shown = is_ready-in_place (pool p).waiting at w _ here
        (ready_by_bits p sound a b at place of_first of_second low place_in_use)

    -- an instruction whose bit is not set is not asked
    pub unasked : (loads_wait : Bool) → HoldsAsked loads_wait → bit_at mask place ≡ 0 →
        option_map (is_asked loads_wait) (slice_get (pool p).waiting at) ≡ Some false
    unasked loads_wait kept none = grind (arith, here, shr_and_one, shown, unasked_by, place_few)

    -- one whose bit is set is asked
    pub asked : (loads_wait : Bool) → HoldsAsked loads_wait →
        ((k : ℕ) → k < 64 → bit_at mask k ≡ 1 → bit_at (bit_or a b) k ≡ 0) → bit_at mask place ≡ 1 →
        option_map (is_asked loads_wait) (slice_get (pool p).waiting at) ≡ Some true
    asked loads_wait kept cleared set = grind (arith, place_few, shown, shr_and_one, here, asked_by)
