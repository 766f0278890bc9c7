-- The start of a drain changes the oldest store.
use Rattle.std.proofs.Common.{◌≡◌, ℕ, suc, true, List, [], ◌∷◌, slice_get, slice_set, Some, None, arith}
use Rattle.std.proofs.lemmas.List.Kept.{AllPairs-cons}
use Rattle.rv_isa.specs.Numbered.{IsInOrder}
use Rattle.rv_isa.proofs.Numbered.{IsInOrder-cons, IsInOrder-head, IsInOrder-tail}
use Rattle.rv_stores.specs.declared.store.StoreState.{StoreState}
use Rattle.rv_stores.specs.declared.store.Store.{Store}
use Rattle.rv_stores.specs.Store.{draining, is_committed, is_committed_state}
use Rattle.rv_stores.specs.Queue.{with_oldest_draining, ComeFirst}
use Rattle.rv_stores.proofs.Prefix.{ComeFirst-tail}

abbrev pub draining_store : Store → Store
draining_store s = record s { state = draining s.state }

-- the start of a drain replaces the store at the first place by the draining one
pub with_oldest_draining-set : (ss : List Store) (x : Store) → slice_get ss 0 ≡ Some x →
    with_oldest_draining ss ≡ slice_set ss 0 (draining_store x)
with_oldest_draining-set ss x at = grind arith

-- where there is no store, the start of a drain changes nothing
pub with_oldest_draining-same : (ss : List Store) → slice_get ss 0 ≡ None → with_oldest_draining ss ≡ ss
with_oldest_draining-same ss at = grind arith

-- the start of a drain leaves the numbers in order
pub IsInOrder-draining : (ss : List Store) → IsInOrder (λ s. s.seq) ss →
    IsInOrder (λ s. s.seq) (with_oldest_draining ss)
IsInOrder-draining [] h = h
IsInOrder-draining (s ∷ ss) h =
    let seq : Store → ℕ = λ t. t.seq in
    IsInOrder-cons seq (draining_store s) ss (IsInOrder-head seq s ss h) (IsInOrder-tail seq s ss h)

committed-draining : (state : StoreState) → is_committed_state state ≡ true → is_committed_state (draining state) ≡ true
committed-draining state h = grind arith

-- the start of a drain leaves the committed stores first
pub ComeFirst-draining : (ss : List Store) → ComeFirst is_committed ss →
    ComeFirst is_committed (with_oldest_draining ss)
ComeFirst-draining [] h = h
ComeFirst-draining (s ∷ ss) h =
    AllPairs-cons (λ x y. is_committed y ≡ true → is_committed x ≡ true) (draining_store s) ss
    (λ k d lt passes. committed-draining s.state (h 0 (suc k) d (omega arith) (omega arith) passes))
    (ComeFirst-tail is_committed s ss h)
