-- A retirement changes the store at one place: the first that is not committed.
use Rattle.std.proofs.Common.{◌≡◌, ℕ, zero, suc, Bool, true, false, cond, ◌<◌, List, [], ◌∷◌}
use Rattle.std.proofs.Common.{All, slice_get, slice_set, Some, None, refl, sym, ◌∙◌, arith}
use Rattle.std.proofs.lemmas.Bool.{true≢false}
use Rattle.std.specs.List.{prefix_len}
use Rattle.rv_stores.specs.declared.store.Store.{Store}
use Rattle.rv_stores.specs.Store.{is_committed, retired}
use Rattle.rv_isa.specs.Numbered.{IsInOrder}
use Rattle.rv_isa.proofs.Numbered.{IsInOrder-cons, IsInOrder-head, IsInOrder-tail}
use Rattle.std.proofs.lemmas.List.Elements.{All-cons, All-head, All-tail}
use Rattle.std.proofs.lemmas.List.Kept.{AllPairs-cons}
use Rattle.rv_stores.specs.Queue.{with_oldest_retired, ComeFirst}
use Rattle.rv_stores.proofs.Prefix.{ComeFirst-tail, ComeFirst-fails}

abbrev pub retired_store : Store → Store
retired_store s = record s { state = retired s.state }

-- a retirement replaces the first store after those that are committed by the retired one
pub with_oldest_retired-set : (ss : List Store) (i : ℕ) (x : Store) → i ≡ prefix_len is_committed ss →
    slice_get ss i ≡ Some x → with_oldest_retired ss ≡ slice_set ss i (retired_store x)
with_oldest_retired-set [] i x at is = absurd (cc)
with_oldest_retired-set (s ∷ ss) zero x at is = grind arith
with_oldest_retired-set (s ∷ ss) (suc i) x at is = grind (arith, with_oldest_retired-set ss i x)

-- where all stores are committed, a retirement changes none
pub with_oldest_retired-same : (ss : List Store) (i : ℕ) → i ≡ prefix_len is_committed ss → slice_get ss i ≡ None →
    with_oldest_retired ss ≡ ss
with_oldest_retired-same [] i at is = refl
with_oldest_retired-same (s ∷ ss) zero at is = absurd (cc)
with_oldest_retired-same (s ∷ ss) (suc i) at is = grind (arith, with_oldest_retired-same ss i)

above-retired : (n : ℕ) (ss : List Store) → All (λ s. n < s.seq) ss → All (λ s. n < s.seq) (with_oldest_retired ss)
above-retired n [] h = h
above-retired n (s ∷ ss) h =
    let above : ℕ → Store → Type 0 = λ m t. m < t.seq in
    elim (is_committed s) as (λ b. All (above n) (cond b (s ∷ with_oldest_retired ss) (retired_store s ∷ ss))) [
      | true ↦ All-cons (above n) s (with_oldest_retired ss) (All-head (above n) s ss h)
          (above-retired n ss (All-tail (above n) s ss h))
      | false ↦ All-cons (above n) (retired_store s) ss
          (All-head (above n) s ss h) (All-tail (above n) s ss h)
    ]

-- a retirement leaves the numbers in order
pub IsInOrder-retired : (ss : List Store) → IsInOrder (λ s. s.seq) ss → IsInOrder (λ s. s.seq) (with_oldest_retired ss)
IsInOrder-retired [] h = h
IsInOrder-retired (s ∷ ss) h =
    let seq : Store → ℕ = λ t. t.seq in
    elim (is_committed s) as (λ b. IsInOrder seq (cond b (s ∷ with_oldest_retired ss) (retired_store s ∷ ss))) [
      | true ↦ IsInOrder-cons seq s (with_oldest_retired ss) (above-retired s.seq ss (IsInOrder-head seq s ss h))
          (IsInOrder-retired ss (IsInOrder-tail seq s ss h))
      | false ↦ IsInOrder-cons seq (retired_store s) ss
          (IsInOrder-head seq s ss h) (IsInOrder-tail seq s ss h)
    ]

first_one : (b : Bool) (s : Store) (ss : List Store) → is_committed s ≡ b → ComeFirst is_committed (s ∷ ss) →
    ComeFirst is_committed (with_oldest_retired ss) →
    ComeFirst is_committed (cond b (s ∷ with_oldest_retired ss) (retired_store s ∷ ss))
first_one true s ss e h on =
    AllPairs-cons (λ x y. is_committed y ≡ true → is_committed x ≡ true) s (with_oldest_retired ss)
    (λ k d lt passes. e) on
first_one false s ss e h on =
    AllPairs-cons (λ x y. is_committed y ≡ true → is_committed x ≡ true) (retired_store s) ss
    (λ k d lt passes. absurd (true≢false (sym (ComeFirst-fails is_committed s ss h e k d lt passes) ∙ e)))
    (ComeFirst-tail is_committed s ss h)

-- a retirement leaves the committed stores first
pub ComeFirst-retired : (ss : List Store) → ComeFirst is_committed ss → ComeFirst is_committed (with_oldest_retired ss)
ComeFirst-retired [] h = h
ComeFirst-retired (s ∷ ss) h =
    first_one (is_committed s) s ss refl h (ComeFirst-retired ss (ComeFirst-tail is_committed s ss h))
