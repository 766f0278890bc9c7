-- Walks over a list's images are walks over the list.
use Rattle.std.proofs.Common.{◌≡◌, ◌||◌, Bool, List, [], ◌∷◌, map, Option, refl, ap}
use Rattle.std.specs.List.{cons_option, filter_map, list_any}

module _ {A B : Type 0} (view : A → B) where
  -- some image passes a test exactly where some item does by its image
  pub list_any-map : (test : B → Bool) (items : List A) → list_any test (map view items)
      ≡ list_any (λ item. test (view item)) items
  list_any-map test [] = refl
  list_any-map test (item ∷ later) = ap (λ rest. test (view item) || rest) (list_any-map test later)

  -- what is read of the images is what is read of the items through their images
  pub filter_map-map : {C : Type 0} (read : B → Option C) (items : List A) →
      filter_map read (map view items) ≡ filter_map (λ item. read (view item)) items
  filter_map-map read [] = refl
  filter_map-map read (item ∷ later) = ap (cons_option (read (view item))) (filter_map-map read later)
