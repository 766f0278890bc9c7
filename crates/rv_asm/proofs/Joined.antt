-- What was read so far, joined to what the rest gives.
use Rattle.std.proofs.Common.{◌≡◌, List, [], ◌∷◌, ◌++◌, map, Option, Some, None, refl, ap, append_assoc, append-nil}
use Rattle.std.specs.Option.{option_map}
use Rattle.std.proofs.lemmas.List.{map-append}

module _ {A B : Type 0} (read : A → B) where
  -- what the items so far stand for, before the others, if there are others
  abbrev pub joined : List A → Option (List B) → Option (List B)
  joined done others = option_map (λ rest. map read done ++ rest) others

  -- with no items so far there are the others alone
  pub joined-nil : (others : Option (List B)) → joined [] others ≡ others
  joined-nil None = refl
  joined-nil (Some rest) = refl

  -- the last of the items so far may as well be the first of the others
  pub joined-push : (done : List A) (item : A) (others : Option (List B)) →
      joined (done ++ item ∷ []) others ≡ joined done (option_map (λ rest. read item ∷ rest) others)
  joined-push done item None = refl
  joined-push done item (Some rest) = ap Some (simp (map-append, append_assoc))

  -- with no others left, there is what the items so far stand for
  pub joined-end : (done : List A) → joined done (Some []) ≡ Some (map read done)
  joined-end done = ap Some (append-nil (map read done))
