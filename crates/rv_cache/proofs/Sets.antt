-- What holds of each line and of each set.
use Rattle.std.proofs.Common.{ℕ, Bool, true, false, List, [], ◌∷◌, get_or, set}
use Rattle.std.proofs.Common.{take, map, replicate, filter, cond, suc, zero}
use Rattle.std.specs.Option.{IfSome}
use Rattle.std.specs.List.{slice_get}
use Rattle.rv_cache.specs.WriteBack.{Each}

module _ {X : Type 0} (P : X → Type 0) where
  -- what each of some has, and the default too, the one read at a place has
  pub Each-at : (xs : List X) (i : ℕ) (d : X) → P d → Each P xs → P (get_or xs i d)
  Each-at [] i d past each = past
  Each-at (x ∷ xs) zero d past each = each.0
  Each-at (x ∷ xs) (suc i) d past each = Each-at xs i d past each.1

  -- what each of some has, each still has where one gives way to another that has it
  pub Each-set : (xs : List X) (i : ℕ) (y : X) → P y → Each P xs → Each P (set xs i y)
  Each-set [] i y new each = tt
  Each-set (x ∷ xs) zero y new each = (new, each.1)
  Each-set (x ∷ xs) (suc i) y new each = (each.0, Each-set xs i y new each.1)

  -- what each of some has, each of the first n has
  pub Each-take : (n : ℕ) (xs : List X) → Each P xs → Each P (take n xs)
  Each-take zero xs each = tt
  Each-take (suc n) [] each = tt
  Each-take (suc n) (x ∷ xs) each = (each.0, Each-take n xs each.1)

  -- what each of some has, each that passes a test has
  pub Each-filter : (p : X → Bool) (xs : List X) → Each P xs → Each P (filter p xs)
  Each-filter p [] each = tt
  Each-filter p (x ∷ xs) each =
      elim (p x) as (λ b. Each P (cond b (x ∷ filter p xs) (filter p xs)))
      [ true ↦ (each.0, Each-filter p xs each.1) | false ↦ Each-filter p xs each.1 ]

  -- what each of some has, the one at a place has if there is one
  pub Each-slice_get : (xs : List X) (i : ℕ) → Each P xs → IfSome (slice_get xs i) P
  Each-slice_get [] i each = tt
  Each-slice_get (x ∷ xs) zero each = each.0
  Each-slice_get (x ∷ xs) (suc i) each = Each-slice_get xs i each.1

  -- a change that keeps a property keeps it for each of some
  pub Each-map : (f : X → X) → ((x : X) → P x → P (f x)) → (xs : List X) → Each P xs → Each P (map f xs)
  Each-map f keeps [] each = tt
  Each-map f keeps (x ∷ xs) each = (keeps x each.0, Each-map f keeps xs each.1)

  -- what one has, each of its copies has
  pub Each-replicate : (n : ℕ) (x : X) → P x → Each P (replicate n x)
  Each-replicate zero x is = tt
  Each-replicate (suc n) x is = (is, Each-replicate n x is)
