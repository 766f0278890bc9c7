-- The values of an array, one after the other.
use Rattle.std.proofs.Common.{◌≡◌, ℕ, ◌+◌, ◌<◌, List, [], ◌∷◌, ◌++◌, map, length, get_or, slice_get, take, Option, None}
use Rattle.std.proofs.Common.{option_map, unwrap_or, sym, ap, ◌∙◌, append_assoc, append-nil, arith, length-append}
use Rattle.std.specs.List.{flat_map}
use Rattle.std.proofs.lemmas.Grind.{flat_map-append}
use Rattle.std.proofs.lemmas.List.{get_or-map, length-take-le, take_more}
use Rattle.std.proofs.lemmas.Option.{slice_get-map, unwrap_or-slice_get}
use Rattle.rv_text.specs.Said.{Says}
use Rattle.rv_text.specs.declared.sink.Sink.{Sink}
use Rattle.rv_text.proofs.Saying.{says_both, says_same}
use Rattle.rv_states.specs.Json.{Json, comma_at, values_from}

-- the values of two lists, one after the other
pub values_from-append : (n : ℕ) (xs ys : List Json) → values_from n (xs ++ ys) ≡ values_from n xs
    ++ values_from (n + length xs) ys
values_from-append n [] ys = ap (λ m. values_from m ys) (omega arith)
values_from-append n (x ∷ xs) ys = grind (arith, append_assoc, values_from-append (n + 1) xs ys)

module _ (items : List Json) (place : ℕ) (here : place < length items) where
  so_many : length (take place items) ≡ place
  so_many = length-take-le place items (omega (arith, here))

  values-more : values_from 0 (take (place + 1) items) ≡ values_from 0 (take place items)
      ++ (comma_at place ++ get_or items place [])
  values-more =
      let at : 0 + length (take place items) ≡ place = omega (arith, so_many) in
      ap (values_from 0) (take_more items place [] here)
      ∙ values_from-append 0 (take place items) (get_or items place [] ∷ [])
      ∙ ap (λ m. values_from 0 (take place items) ++ values_from m (get_or items place [] ∷ [])) at
      ∙ ap (λ l. values_from 0 (take place items) ++ l) (append-nil (comma_at place ++ get_or items place []))

  -- one value more
  pub says_value : {W : Type 0} {contents : W → Option (List ℕ)} {a b c : Sink W} →
      Says contents a b (values_from 0 (take place items)) →
      Says contents b c (comma_at place ++ get_or items place []) →
      Says contents a c (values_from 0 (take (place + 1) items))
  says_value front last = says_same (sym values-more) (says_both front last)

-- an array to which each item of a list gives some values: those of one item more stand after those of the items before
given-more : {X : Type 0} (values : X → List Json) (items : List X) (place : ℕ) → place < length items →
    flat_map values (take (place + 1) items) ≡ flat_map values (take place items) ++ get_or (map values items) place []
given-more values [] place here = absurd (omega (arith, here))
given-more values (first ∷ rest) place here =
    let items = first ∷ rest in
    ap (flat_map values) (take_more items place first here)
    ∙ flat_map-append values (take place items) (get_or items place first ∷ [])
    ∙ ap (λ last. flat_map values (take place items) ++ last) (append-nil (values (get_or items place first)))
    ∙ ap (λ last. flat_map values (take place items) ++ last) (sym (get_or-map values items place first [] here))

-- the values that an item gives are those at its place
pub given_at : {X : Type 0} (values : X → List Json) (items : List X) (place : ℕ) (item : X) → place < length items →
    item ≡ get_or items place item → values item ≡ get_or (map values items) place []
given_at values items place item here is = ap values is ∙ sym (get_or-map values items place item [] here)

module _ {X : Type 0} (values : X → List Json) (items : List X) (place written : ℕ) (here : place < length items)
    (count : written ≡ length (flat_map values (take place items))) where
  -- they are said
  pub says_given : {W : Type 0} {contents : W → Option (List ℕ)} {a b c : Sink W} →
      Says contents a b (values_from 0 (flat_map values (take place items))) →
      Says contents b c (values_from written (get_or (map values items) place [])) →
      Says contents a c (values_from 0 (flat_map values (take (place + 1) items)))
  says_given front last =
      let before = flat_map values (take place items) in
      let more = get_or (map values items) place [] in
      let at : 0 + length before ≡ written = omega (arith, count) in
      let whole = ap (values_from 0) (given-more values items place here)
      ∙ values_from-append 0 before more
      ∙ ap (λ n. values_from 0 before ++ values_from n more) at in
      says_same (sym whole) (says_both front last)

  -- and counted
  pub count_given : (now : ℕ) → now ≡ written + length (get_or (map values items) place []) →
      now ≡ length (flat_map values (take (place + 1) items))
  count_given now is = grind (arith, given-more, length-append)

-- where no item is found, nothing is given
pub missing_given : {X : Type 0} (values : X → List Json) (items : List X) (place : ℕ) → slice_get items place ≡ None →
    [] ≡ get_or (map values items) place []
missing_given values items place none =
    sym (ap (λ o. unwrap_or o []) (slice_get-map values items place ∙ ap (option_map values) none))
    ∙ unwrap_or-slice_get (map values items) place []
