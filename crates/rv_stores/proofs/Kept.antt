-- What keeps a queue's order: a change of states, and a younger store at the end.
use Rattle.std.proofs.Common.{◌≡◌, ℕ, ◌-◌, ◌<◌, Bool, true, false, nat_lt, List, [], ◌∷◌, ◌++◌}
use Rattle.std.proofs.Common.{length, drop, filter, Some, None, refl, sym, ◌∙◌, arith, length-append}
use Rattle.std.proofs.lemmas.Bool.{true≢false}
use Rattle.std.proofs.lemmas.Option.{none-some, slice_get-get_or}
use Rattle.std.proofs.lemmas.Bool.Decides.{nat_tests}
use Rattle.std.proofs.lemmas.List.Kept.{AllPairs-filter}
use Rattle.std.proofs.lemmas.List.Quantifiers.{all_pairs_push}
use Rattle.circular_buffer.specs.Buffer.{keep_last, last_item}
use Rattle.rv_isa.specs.Numbered.{AreBelow, IsInOrder}
use Rattle.rv_isa.proofs.Numbered.{AreBelow-last, AreBelow-slice_get}
use Rattle.rv_stores.specs.declared.store.Store.{Store}
use Rattle.rv_stores.specs.Queue.{ComeFirst}
use Rattle.rv_stores.proofs.Prefix.{ComeFirst-tail}

module _ {X : Type 0} (p : X → Bool) where
  -- of the elements that another test keeps, those that pass still come first
  pub ComeFirst-filter : (q : X → Bool) (xs : List X) → ComeFirst p xs → ComeFirst p (filter q xs)
  ComeFirst-filter q xs h = AllPairs-filter (λ x y. p y ≡ true → p x ≡ true) q xs h

  -- one that does not pass, at the end
  pub ComeFirst-push : (xs : List X) (y : X) → p y ≡ false → ComeFirst p xs → ComeFirst p (xs ++ y ∷ [])
  ComeFirst-push xs y e h =
      all_pairs_push (λ x z. p z ≡ true → p x ≡ true) xs y h
      (λ k d lt passes. absurd (true≢false (sym passes ∙ e)))

  -- without the first element, if there is one, those that pass still come first
  pub ComeFirst-rest : (xs : List X) → ComeFirst p xs → ComeFirst p (drop 1 xs)
  ComeFirst-rest [] h = h
  ComeFirst-rest (x ∷ xs) h = ComeFirst-tail p x xs h

-- the stores below a number
pub ComeFirst-older : (n : ℕ) (ss : List Store) → IsInOrder (λ s. s.seq) ss → ComeFirst (λ s. nat_lt s.seq n) ss
ComeFirst-older n ss h i j d lt within passes = let rises = h i j d lt within in grind (arith, nat_tests)

-- one more store, where there is room
pub keep_last-room : (capacity : ℕ) (ss : List Store) (t : Store) → length ss < capacity →
    keep_last capacity (ss ++ t ∷ []) ≡ ss ++ t ∷ []
keep_last-room capacity ss t h =
    let none : length (ss ++ t ∷ []) - capacity ≡ 0 = omega (arith, length-append ss (t ∷ [])) in rw none refl

-- ---- the youngest store decides for all
pub AreBelow-none : (n : ℕ) (ss : List Store) → last_item ss ≡ None → AreBelow (λ s. s.seq) n ss
AreBelow-none n ss h k d lt = absurd (none-some _ (sym h ∙ slice_get-get_or ss (length ss - 1) d (omega arith)))

-- stores in order are below a number where the youngest is
pub AreBelow-youngest : (n : ℕ) (ss : List Store) (s : Store) → IsInOrder (λ t. t.seq) ss → last_item ss ≡ Some s →
    s.seq < n → AreBelow (λ t. t.seq) n ss
AreBelow-youngest n ss s order at lt = AreBelow-last (λ t. t.seq) n (length ss - 1) ss s order (omega arith) at lt

-- where all are below a number, the youngest is
pub youngest-below : (n : ℕ) (ss : List Store) (s : Store) → last_item ss ≡ Some s → AreBelow (λ t. t.seq) n ss →
    s.seq < n
youngest-below n ss s at are = AreBelow-slice_get (λ t. t.seq) n (length ss - 1) ss s are at
