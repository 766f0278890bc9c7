-- A broadcast changes the store at one place: the first that is not below its number.
use Rattle.std.proofs.Common.{◌≡◌, ℕ, zero, suc, ◌<◌, ◌≤◌, true, false, nat_eq, nat_lt, List, []}
use Rattle.std.proofs.Common.{◌∷◌, All, map, slice_get, slice_set, get_or, Some, None, refl, sym, ◌∙◌, arith}
use Rattle.std.specs.List.{prefix_len}
use Rattle.std.proofs.lemmas.Bool.Decides.{nat_tests}
use Rattle.std.proofs.lemmas.List.Elements.{All-head, All-tail, All-map}
use Rattle.std.proofs.lemmas.List.Kept.{AllPairs-cons}
use Rattle.rv_stores.proofs.Prefix.{ComeFirst-tail}
use Rattle.rv_stores.specs.declared.store.StoreState.{StoreState}
use Rattle.rv_stores.specs.declared.store.Store.{Store}
use Rattle.rv_stores.specs.Store.{answered, is_committed, is_committed_state, told}
use Rattle.rv_isa.specs.Numbered.{IsInOrder}
use Rattle.rv_isa.proofs.Numbered.{IsInOrder-head, IsInOrder-tail}
use Rattle.rv_stores.specs.Queue.{ComeFirst}

module _ (seq : ℕ) (news : StoreState) where
  answered-other : (s : Store) → nat_eq s.seq seq ≡ false → answered seq news s ≡ s
  answered-other s e = rw e refl

  map-answered_above : (m : ℕ) (ss : List Store) → seq ≤ m → All (λ s. m < s.seq) ss → map (answered seq news) ss ≡ ss
  map-answered_above m [] le h = refl
  map-answered_above m (s ∷ ss) le h =
      let above = All-head (λ t. m < t.seq) s ss h in
      let other : nat_eq s.seq seq ≡ false = grind (arith, nat_tests) in
      rw (answered-other s other, map-answered_above m ss le (All-tail (λ t. m < t.seq) s ss h)) refl

  -- of stores in order, a broadcast changes no other than the first that is not below its number
  pub map-answered : (ss : List Store) (i : ℕ) (x : Store) → i ≡ prefix_len (λ s. nat_lt s.seq seq) ss →
      IsInOrder (λ t. t.seq) ss → slice_get ss i ≡ Some x →
      map (answered seq news) ss ≡ slice_set ss i (answered seq news x)
  map-answered [] i x at h is = absurd (cc)
  map-answered (s ∷ ss) zero x at h is =
      grind (arith, nat_tests, map-answered_above s.seq ss, IsInOrder-head (λ t. t.seq) s ss h)
  map-answered (s ∷ ss) (suc i) x at h is =
      grind (arith, nat_tests, map-answered ss i x, IsInOrder-tail (λ t. t.seq) s ss h)

  -- where all stores are below its number, a broadcast changes none
  pub map-answered_none : (ss : List Store) (i : ℕ) → i ≡ prefix_len (λ s. nat_lt s.seq seq) ss →
      slice_get ss i ≡ None → map (answered seq news) ss ≡ ss
  map-answered_none [] i at is = refl
  map-answered_none (s ∷ ss) zero at is = absurd (cc)
  map-answered_none (s ∷ ss) (suc i) at is = grind (arith, nat_tests, map-answered_none ss i)

  -- a broadcast leaves the number of a store
  pub seq-answered : (s : Store) → (answered seq news s).seq ≡ s.seq
  seq-answered s = grind arith

  committed-told : is_committed_state news ≡ false → (state : StoreState) → is_committed_state (told news state)
      ≡ is_committed_state state
  committed-told h state = grind arith

  pub committed-answered : is_committed_state news ≡ false → (s : Store) →
      is_committed (answered seq news s) ≡ is_committed s
  committed-answered h s =
      grind (arith, committed-told h)

  -- a change that the test does not see
  pub ComeFirst-answered : is_committed_state news ≡ false → (ss : List Store) → ComeFirst is_committed ss →
      ComeFirst is_committed (map (answered seq news) ss)
  ComeFirst-answered h [] first = first
  ComeFirst-answered h (s ∷ ss) first =
      AllPairs-cons (λ x y. is_committed y ≡ true → is_committed x ≡ true) (answered seq news s)
      (map (answered seq news) ss)
      (All-map (λ y. is_committed y ≡ true → is_committed (answered seq news s) ≡ true) (answered seq news) ss
      (λ k d lt passes. committed-answered h s
      ∙ first 0 (suc k) d (omega arith) (omega arith) (sym (committed-answered h (get_or ss k d)) ∙ passes)))
      (ComeFirst-answered h ss (ComeFirst-tail is_committed s ss first))
