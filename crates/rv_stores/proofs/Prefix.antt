-- Those that pass a test and come before all others.
use Rattle.std.proofs.Common.{◌≡◌, ℕ, suc, ◌+◌, Bool, true, false, List, []}
use Rattle.std.proofs.Common.{◌∷◌, inl, inr, filter, take, All, refl, ap, sym, ◌∙◌, arith}
use Rattle.std.proofs.lemmas.Bool.{cases_Bool}
use Rattle.std.specs.List.{prefix_len}
use Rattle.std.proofs.lemmas.List.Elements.{All-tail}
use Rattle.rv_stores.specs.Queue.{ComeFirst}

module _ {X : Type 0} (p : X → Bool) where
  -- after the first element, those that pass still come first
  pub ComeFirst-tail : (x : X) (xs : List X) → ComeFirst p (x ∷ xs) → ComeFirst p xs
  ComeFirst-tail x xs h i j d lt within = h (suc i) (suc j) d (omega arith) (omega arith)

  -- after one that does not pass, none does
  pub ComeFirst-fails : (x : X) (xs : List X) → ComeFirst p (x ∷ xs) → p x ≡ false →
      All (λ y. p y ≡ true → p x ≡ true) xs
  ComeFirst-fails x xs h e k d lt = h 0 (suc k) d (omega arith) (omega arith)

  filter-none : (x : X) → p x ≡ false → (xs : List X) → All (λ y. p y ≡ true → p x ≡ true) xs → filter p xs ≡ []
  filter-none x e [] h = refl
  filter-none x e (y ∷ ys) h =
      grind (arith, h 0 y, filter-none x e ys (All-tail (λ z. p z ≡ true → p x ≡ true) y ys h))

  -- those that pass are a beginning of the list
  pub take-prefix_len : (xs : List X) → ComeFirst p xs → take (prefix_len p xs) xs ≡ filter p xs
  take-prefix_len [] h = refl
  take-prefix_len (x ∷ xs) h =
      let one : 1 + prefix_len p xs ≡ suc (prefix_len p xs) = omega arith in
      elim (cases_Bool (p x)) [
        | inl passes ↦ rw (passes, one) (ap (λ l. x ∷ l) (take-prefix_len xs (ComeFirst-tail x xs h)))
        | inr fails ↦ rw fails (sym (filter-none x fails xs (ComeFirst-fails x xs h fails)))
      ]

  -- the same for a number that is equal to the length of that beginning
  pub take-prefix_len_at : (xs : List X) (n : ℕ) → n ≡ prefix_len p xs → ComeFirst p xs → take n xs ≡ filter p xs
  take-prefix_len_at xs n e h = ap (λ k. take k xs) e ∙ take-prefix_len xs h
