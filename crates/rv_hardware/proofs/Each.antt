-- What holds of each element of a list holds of parts, of two lists together, of images, and where one changes.
use Rattle.std.proofs.Common.{◌≡◌, Bool, cond, List, [], ◌∷◌, ◌++◌, map, All, filter, ap, arith}
use Rattle.std.proofs.lemmas.List.Elements.{All-cons, All-head, All-nil, All-tail}
use Rattle.rv_cache.specs.WriteBack.{Each}

module _ {X : Type 0} (P : X → Type 0) where
  -- by recursion, and so of each place
  pub All-Each : (xs : List X) → Each P xs → All P xs
  All-Each [] h = All-nil P
  All-Each (x ∷ xs) h = All-cons P x xs h.0 (All-Each xs h.1)

  -- of each place, and so by recursion
  pub Each-All : (xs : List X) → All P xs → Each P xs
  Each-All [] all = tt
  Each-All (x ∷ xs) all = (All-head P x xs all, Each-All xs (All-tail P x xs all))

  -- of both of two lists together at each place, and so of the second
  pub All-right : (xs ys : List X) → All P (xs ++ ys) → All P ys
  All-right [] ys all = all
  All-right (x ∷ xs) ys all = All-right xs ys (All-tail P x (xs ++ ys) all)

  -- of two lists, and so of both together
  pub Each-append : (xs ys : List X) → Each P xs → Each P ys → Each P (xs ++ ys)
  Each-append [] ys h g = g
  Each-append (x ∷ xs) ys h g = (h.0, Each-append xs ys h.1 g)

  -- of both together, and so of the first
  pub Each-left : (xs ys : List X) → Each P (xs ++ ys) → Each P xs
  Each-left [] ys h = tt
  Each-left (x ∷ xs) ys h = (h.0, Each-left xs ys h.1)

  -- of both together, and so of the second
  pub Each-right : (xs ys : List X) → Each P (xs ++ ys) → Each P ys
  Each-right [] ys h = h
  Each-right (x ∷ xs) ys h = Each-right xs ys h.1

  -- of each element, and of one more at the end
  pub Each-push : (xs : List X) (y : X) → P y → Each P xs → Each P (xs ++ y ∷ [])
  Each-push xs y is h = Each-append xs (y ∷ []) h (is, tt)

  -- one of them is another one now
  pub Each-change : (xs ys : List X) (old new : X) → (P old → P new) → Each P (xs ++ old ∷ ys) → Each P (xs ++ new ∷ ys)
  Each-change [] ys old new keeps h = (keeps h.0, h.1)
  Each-change (x ∷ xs) ys old new keeps h = (h.0, Each-change xs ys old new keeps h.1)

  -- one of them is another one now that has the property
  pub Each-set : (xs ys : List X) (x y : X) → P y → Each P (xs ++ x ∷ ys) → Each P (xs ++ y ∷ ys)
  Each-set xs ys x y is h = Each-change xs ys x y (λ was. is) h

  -- of each element, and so of the one at a place
  pub Each-place : (xs ys : List X) (x : X) → Each P (xs ++ x ∷ ys) → P x
  Each-place xs ys x h = (Each-right xs (x ∷ ys) h).0

  -- what follows from a property of each element holds of each
  pub Each-weaker : (Q : X → Type 0) → ((x : X) → P x → Q x) → (xs : List X) → Each P xs → Each Q xs
  Each-weaker Q f [] h = tt
  Each-weaker Q f (x ∷ xs) h = (f x h.0, Each-weaker Q f xs h.1)

  -- what holds of everything holds of each element
  pub Each-all : ((x : X) → P x) → (xs : List X) → Each P xs
  Each-all f [] = tt
  Each-all f (x ∷ xs) = (f x, Each-all f xs)

  -- what follows from two properties of each element holds of each
  pub Each-both : {Q R : X → Type 0} → ((x : X) → P x → Q x → R x) → (xs : List X) → Each P xs → Each Q xs → Each R xs
  Each-both f [] h g = tt
  Each-both {Q} {R} f (x ∷ xs) h g = (f x h.0 g.0, Each-both f xs h.1 g.1)

  -- of the image of each element, and so of each element of the image
  pub Each-map : {Y : Type 0} (f : Y → X) (ys : List Y) → Each (λ y. P (f y)) ys → Each P (map f ys)
  Each-map f [] h = tt
  Each-map f (y ∷ ys) h = (h.0, Each-map f ys h.1)

  -- what holds of every image holds of each
  pub Each-images : {Y : Type 0} (f : Y → X) → ((y : Y) → P (f y)) → (ys : List Y) → Each P (map f ys)
  Each-images f holds [] = tt
  Each-images f holds (y ∷ ys) = (holds y, Each-images f holds ys)

  -- of each element of the image, and so of the image of each element
  pub Each-unmap : {Y : Type 0} (f : Y → X) (ys : List Y) → Each P (map f ys) → Each (λ y. P (f y)) ys
  Each-unmap f [] h = tt
  Each-unmap f (y ∷ ys) h = (h.0, Each-unmap f ys h.1)

  Each-pick : (b : Bool) (x : X) (xs : List X) → P x → Each P xs → Each P (cond b (x ∷ xs) xs)
  Each-pick b x xs h g = grind arith

  -- of each element, and so of those that pass a test
  pub Each-filter : (p : X → Bool) (xs : List X) → Each P xs → Each P (filter p xs)
  Each-filter p [] h = tt
  Each-filter p (x ∷ xs) h = Each-pick (p x) x (filter p xs) h.0 (Each-filter p xs h.1)

-- what follows from a property of each element holds of each; a list and its property are known from what is given
pub each_then : {X : Type 0} {P Q : X → Type 0} → ((x : X) → P x → Q x) → (xs : List X) → Each P xs → Each Q xs
each_then {P = P} {Q = Q} f xs h = Each-weaker P Q f xs h

-- what follows of the image from a property of each element holds of each image
pub each_image : {X Y : Type 0} (P : X → Type 0) {Q : Y → Type 0} {f : Y → X} → ((y : Y) → Q y → P (f y)) →
    (ys : List Y) → Each Q ys → Each P (map f ys)
each_image P {Q} {f} g ys h = Each-map P f ys (Each-weaker Q (λ y. P (f y)) g ys h)

-- of each element, and so of parts, of more, of images and of a list in which one is another now
pub ruleset each_moves = (Each-append, Each-left, Each-right, Each-place, Each-set, Each-weaker, Each-map, Each-all)

-- what a function takes from each element is the same where one of them is another one with the same
pub map-change : {X Y : Type 0} (f : X → Y) (xs ys : List X) (old new : X) → f new ≡ f old →
    map f (xs ++ new ∷ ys) ≡ map f (xs ++ old ∷ ys)
map-change f [] ys old new same = ap (λ y. y ∷ map f ys) same
map-change f (x ∷ xs) ys old new same = ap (λ zs. f x ∷ zs) (map-change f xs ys old new same)
