-- What was fetched ahead of a program, word by word and cycle by cycle.
use Rattle.std.proofs.Common.{◌≡◌, ◌∙◌, ℕ, ◌+◌, ◌≤◌, Bool, true, false, List, [], ◌∷◌, ◌++◌, length, map, filter, take}
use Rattle.std.proofs.Common.{slice_get, Some, refl, ap, arith}
use Rattle.std.specs.Prelude.{if◌then◌else◌}
use Rattle.std.proofs.lemmas.List.{map-append}
use Rattle.std.proofs.lemmas.List.Elements.{filter_more}
use Rattle.std.proofs.lemmas.Option.{get_or_from_slice_get, slice_get_within}
use Rattle.rv_hardware.specs.History.{Moment}
use Rattle.rv_report.specs.Speculation.{Speculated, speculated_by, speculated_in}

-- one or none
pub few-if : {X : Type 0} (b : Bool) (x : X) → length (if b then x ∷ [] else []) ≤ 1
few-if true x = omega arith
few-if false x = omega arith

module _ {X Y : Type 0} (f : X → Y) where
  map-if : (b : Bool) (x : X) → map f (if b then x ∷ [] else []) ≡ (if b then f x ∷ [] else [])
  map-if true x = refl
  map-if false x = refl

  -- what is picked of one more
  pub picked-more : (p : X → Bool) (xs : List X) (place : ℕ) (x : X) → slice_get xs place ≡ Some x →
      map f (filter p (take (place + 1) xs)) ≡ map f (filter p (take place xs)) ++ (if p x then f x ∷ [] else [])
  picked-more p xs place x is =
      let here = get_or_from_slice_get xs place x x is in
      let front = filter p (take place xs) in
      ap (map f) (filter_more p xs place x (slice_get_within xs place x is)
      ∙ ap (λ y. front ++ (if p y then y ∷ [] else [])) here)
      ∙ map-append f front (if p x then x ∷ [] else [])
      ∙ ap (λ l. map f front ++ l) (map-if (p x) x)

-- one more cycle
pub speculated-push : (s : Speculated) (moments : List Moment) (last : Moment) →
    speculated_in s (moments ++ last ∷ []) ≡ speculated_by last (speculated_in s moments)
speculated-push s [] last = refl
speculated-push s (moment ∷ moments) last = speculated-push (speculated_by moment s) moments last
