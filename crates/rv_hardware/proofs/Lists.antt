-- Relations of pairs, counts and beginnings go over to parts of lists, to images, and where one element changes.
use Rattle.rv_hardware.proofs.Each.{All-Each, Each-append, Each-left, Each-right, Each-place, Each-weaker, Each-map}
use Rattle.rv_hardware.proofs.Each.{Each-unmap}
use Rattle.std.proofs.Common.{◌≡◌, ℕ, suc, ◌+◌, ◌≤◌, Bool, true, false, cond, List, [], ◌∷◌, ◌++◌, map, length}
use Rattle.std.proofs.Common.{count_by, AllPairs, sym, refl, ap, ◌∙◌, append_assoc, append-nil, arith}
use Rattle.std.proofs.lemmas.List.{map-append}
use Rattle.std.proofs.lemmas.List.Kept.{AllPairs-cons}
use Rattle.std.proofs.lemmas.List.Recursion.{is_count_by}
use Rattle.rv_cache.specs.WriteBack.{Each}
use Rattle.rv_hardware.specs.Stamps.{EachAfter}

-- R of each element and each later one, by recursion
abbrev pub EveryPair : {X : Type 0} → (X → X → Type 0) → List X → Type 0
EveryPair R [] = Unit {0}
EveryPair R (x ∷ xs) = Each (R x) xs × EveryPair R xs

-- P of each element and of those before it, by recursion
abbrev pub EveryAfter : {X : Type 0} → (List X → X → Type 0) → List X → List X → Type 0
EveryAfter P before [] = Unit {0}
EveryAfter P before (x ∷ xs) = P before x × EveryAfter P (before ++ x ∷ []) xs

-- how many pass a test, by recursion
abbrev pub count : {X : Type 0} → (X → Bool) → List X → ℕ
count p [] = 0
count p (x ∷ xs) = cond (p x) (suc (count p xs)) (count p xs)

-- ys begins with xs
abbrev pub Beginning : {X : Type 0} → List X → List X → Type 0
Beginning {X} xs ys = (rest : List X) × (ys ≡ xs ++ rest)

module _ {X : Type 0} (R : X → X → Type 0) where
  -- by recursion, and so of each two places
  pub AllPairs-EveryPair : (xs : List X) → EveryPair R xs → AllPairs R xs
  AllPairs-EveryPair [] h = λ i j d lt within. absurd (omega arith)
  AllPairs-EveryPair (x ∷ xs) h = AllPairs-cons R x xs (All-Each (R x) xs h.0) (AllPairs-EveryPair xs h.1)

  -- each of a list to each of another
  abbrev pub Across : List X → List X → Type 0
  Across xs ys = Each (λ x. Each (R x) ys) xs

  -- of two lists and across them, and so of both together
  pub EveryPair-append : (xs ys : List X) → EveryPair R xs → EveryPair R ys → Across xs ys → EveryPair R (xs ++ ys)
  EveryPair-append [] ys h g a = g
  EveryPair-append (x ∷ xs) ys h g a = (Each-append (R x) xs ys h.0 a.0, EveryPair-append xs ys h.1 g a.1)

  -- of both together, and so of the first
  pub EveryPair-left : (xs ys : List X) → EveryPair R (xs ++ ys) → EveryPair R xs
  EveryPair-left [] ys h = tt
  EveryPair-left (x ∷ xs) ys h = (Each-left (R x) xs ys h.0, EveryPair-left xs ys h.1)

  -- of both together, and so of the second
  pub EveryPair-right : (xs ys : List X) → EveryPair R (xs ++ ys) → EveryPair R ys
  EveryPair-right [] ys h = h
  EveryPair-right (x ∷ xs) ys h = EveryPair-right xs ys h.1

  -- of both together, and so across them
  pub EveryPair-across : (xs ys : List X) → EveryPair R (xs ++ ys) → Across xs ys
  EveryPair-across [] ys h = tt
  EveryPair-across (x ∷ xs) ys h = (Each-right (R x) xs ys h.0, EveryPair-across xs ys h.1)

  -- what follows from a relation of each pair holds of each pair
  pub EveryPair-weaker : {S : X → X → Type 0} → ((x y : X) → R x y → S x y) → (xs : List X) →
      EveryPair R xs → EveryPair S xs
  EveryPair-weaker f [] h = tt
  EveryPair-weaker {S} f (x ∷ xs) h = (Each-weaker (R x) (S x) (f x) xs h.0, EveryPair-weaker f xs h.1)

  -- of the images of each pair, and so of each pair of images
  pub EveryPair-map : {Y : Type 0} (f : Y → X) (ys : List Y) → EveryPair (λ x y. R (f x) (f y)) ys →
      EveryPair R (map f ys)
  EveryPair-map f [] h = tt
  EveryPair-map f (y ∷ ys) h = (Each-map (R (f y)) f ys h.0, EveryPair-map f ys h.1)

  -- of each pair of images, and so of the images of each pair
  pub EveryPair-unmap : {Y : Type 0} (f : Y → X) (ys : List Y) → EveryPair R (map f ys) →
      EveryPair (λ x y. R (f x) (f y)) ys
  EveryPair-unmap f [] h = tt
  EveryPair-unmap f (y ∷ ys) h = (Each-unmap (R (f y)) f ys h.0, EveryPair-unmap f ys h.1)

  -- another element at a place
  pub EveryPair-set : (xs ys : List X) (x y : X) → ((z : X) → R z x → R z y) → ((z : X) → R x z → R y z) →
      EveryPair R (xs ++ x ∷ ys) → EveryPair R (xs ++ y ∷ ys)
  EveryPair-set [] ys x y f g h = (Each-weaker (R x) (R y) g ys h.0, h.1)
  EveryPair-set (z ∷ xs) ys x y f g h = (
    Each-append (R z) xs (y ∷ ys) (Each-left (R z) xs (x ∷ ys) h.0)
        (f z (Each-right (R z) xs (x ∷ ys) h.0).0, (Each-right (R z) xs (x ∷ ys) h.0).1),
    EveryPair-set xs ys x y f g h.1,
  )

module _ {X : Type 0} (p : X → Bool) where
  -- the count by recursion is std's
  pub count-count_by : (xs : List X) → count p xs ≡ count_by p xs
  count-count_by xs =
      is_count_by (count p) p refl (λ y ys. ap (λ n. cond (p y) n (count p ys)) (suc_is (count p ys))) xs
    where
      suc_is : (n : ℕ) → suc n ≡ 1 + n
      suc_is n = omega arith

  cond-suc : (b : Bool) (n m : ℕ) → cond b (suc (n + m)) (n + m) ≡ cond b (suc n) n + m
  cond-suc b n m = grind arith

  -- the count of two lists together is the sum of their counts
  pub count-append : (xs ys : List X) → count p (xs ++ ys) ≡ count p xs + count p ys
  count-append [] ys = omega arith
  count-append (x ∷ xs) ys = rw (count-append xs ys) (cond-suc (p x) (count p xs) (count p ys))

  -- where no element passes, the count is 0
  pub count-none : (xs : List X) → Each (λ x. p x ≡ false) xs → count p xs ≡ 0
  count-none [] h = refl
  count-none (x ∷ xs) h = rw h.0 (count-none xs h.1)

  -- an element that passes counts one
  pub count-yes : (x : X) (xs : List X) → p x ≡ true → count p (x ∷ xs) ≡ suc (count p xs)
  count-yes x xs h = rw h refl

  -- a count of images is a count of the elements
  pub count-map : {Y : Type 0} (f : Y → X) (ys : List Y) → count p (map f ys) ≡ count (λ y. p (f y)) ys
  count-map f [] = refl
  count-map f (y ∷ ys) = rw (count-map f ys) refl

  cond-le : {b c : Bool} (n m : ℕ) → (b ≡ true → c ≡ true) → n ≤ m → cond b (suc n) n ≤ cond c (suc m) m
  cond-le n m f le = grind arith

  -- where each element that passes one test passes another, the other counts no fewer
  pub count-le : (q : X → Bool) (xs : List X) → Each (λ x. p x ≡ true → q x ≡ true) xs → count p xs ≤ count q xs
  count-le q [] h = omega arith
  count-le q (x ∷ xs) h = cond-le (count p xs) (count q xs) h.0 (count-le q xs h.1)

  -- no more elements pass than there are
  pub count-length : (xs : List X) → count p xs ≤ length xs
  count-length [] = omega arith
  count-length (x ∷ xs) = cond-le (count p xs) (length xs) (λ e. refl) (count-length xs)

  -- another element at a place
  pub count-set-same : (xs ys : List X) (x y : X) → p x ≡ p y → count p (xs ++ x ∷ ys) ≡ count p (xs ++ y ∷ ys)
  count-set-same xs ys x y same = grind (arith, count-append)

  cond-bounds : (b : Bool) (n : ℕ) → (n ≤ cond b (suc n) n) × (cond b (suc n) n ≤ suc n)
  cond-bounds b n = grind arith

  -- another element at a place counts one more at most
  pub count-set-more : (xs ys : List X) (x y : X) → count p (xs ++ y ∷ ys) ≤ suc (count p (xs ++ x ∷ ys))
  count-set-more xs ys x y = grind (arith, count-append, cond-bounds)

  -- one that passes where the other did
  pub count-set-grows : (xs ys : List X) (x y : X) → (p x ≡ true → p y ≡ true) →
      count p (xs ++ x ∷ ys) ≤ count p (xs ++ y ∷ ys)
  count-set-grows xs ys x y f = grind (arith, count-append, cond-le)

  -- one that passes where the other did not
  pub count-set-one_more : (xs ys : List X) (x y : X) → p x ≡ false → p y ≡ true →
      count p (xs ++ y ∷ ys) ≡ suc (count p (xs ++ x ∷ ys))
  count-set-one_more xs ys x y no_more is = grind (arith, count-append)

  -- one that does not pass gives way
  pub count-set-less : (xs ys : List X) (x y : X) → p y ≡ false → count p (xs ++ y ∷ ys) ≤ count p (xs ++ x ∷ ys)
  count-set-less xs ys x y no_more = grind (arith, count-append, cond-bounds)

  -- one more element counts one more at most
  pub count-push : (xs : List X) (x : X) → count p (xs ++ x ∷ []) ≤ suc (count p xs)
  count-push xs x = grind (arith, count-append, cond-bounds)

  -- one more element that does not pass counts none
  pub count-push-no : (xs : List X) (x : X) → p x ≡ false → count p (xs ++ x ∷ []) ≡ count p xs
  count-push-no xs x fails = grind (arith, count-append)

  -- one more element between two lists counts one more at most
  pub count-push-most : (xs ys : List X) (x : X) → count p (xs ++ x ∷ ys) ≤ suc (count p xs + count p ys)
  count-push-most xs ys x = grind (arith, count-append, cond-bounds)

  -- no more pass of the first than of both together
  pub count-left : (xs ys : List X) → count p xs ≤ count p (xs ++ ys)
  count-left xs ys = let all = count-append xs ys in omega (arith, all)

-- beginnings

module _ {X : Type 0} where
  -- a list begins with itself
  pub Beginning-self : (xs : List X) → Beginning xs xs
  Beginning-self xs = ([], sym (append-nil xs))

  -- a beginning of a beginning is one
  pub Beginning-trans : (xs ys zs : List X) → Beginning xs ys → Beginning ys zs → Beginning xs zs
  Beginning-trans xs ys zs f g = (f.0 ++ g.0, g.1 ∙ ap (λ l. l ++ g.0) f.1 ∙ append_assoc xs f.0 g.0)

  -- no more pass of a beginning than of the whole
  pub Beginning-count : (p : X → Bool) (xs ys : List X) → Beginning xs ys → count p xs ≤ count p ys
  Beginning-count p xs ys f = rw (f.1, count-append p xs f.0) (omega arith)

  -- of both together, and so of the first
  pub EveryAfter-left : (P : List X → X → Type 0) (before xs ys : List X) → EveryAfter P before (xs ++ ys) →
      EveryAfter P before xs
  EveryAfter-left P before [] ys h = tt
  EveryAfter-left P before (x ∷ xs) ys h = (h.0, EveryAfter-left P (before ++ x ∷ []) xs ys h.1)

  -- of one list, and of another after it, and so of both together
  pub EveryAfter-append : (P : List X → X → Type 0) (before xs ys : List X) → EveryAfter P before xs →
      EveryAfter P (before ++ xs) ys → EveryAfter P before (xs ++ ys)
  EveryAfter-append P before [] ys h g = rw (append-nil before) at g
  EveryAfter-append P before (x ∷ xs) ys h g =
      (h.0, EveryAfter-append P (before ++ x ∷ []) xs ys h.1 (rw (← append_assoc before (x ∷ []) xs) at g))

  -- of both together, and so of the second after the first
  pub EveryAfter-right : (P : List X → X → Type 0) (before xs ys : List X) → EveryAfter P before (xs ++ ys) →
      EveryAfter P (before ++ xs) ys
  EveryAfter-right P before [] ys h = rw (append-nil before) h
  EveryAfter-right P before (x ∷ xs) ys h =
      rw (← append_assoc before (x ∷ []) xs) (EveryAfter-right P (before ++ x ∷ []) xs ys h.1)

  -- of the whole, and so of a beginning
  pub Beginning-EveryAfter : (P : List X → X → Type 0) (xs ys : List X) → Beginning xs ys → EveryAfter P [] ys →
      EveryAfter P [] xs
  Beginning-EveryAfter P xs ys f h = EveryAfter-left P [] xs f.0 (rw f.1 at h)

  -- after another beginning
  moved : (P Q : List X → X → Type 0) (pre pre' : List X) →
      ((mid : List X) (z : X) → P (pre ++ mid) z → Q (pre' ++ mid) z) → (acc ys : List X) →
      EveryAfter P (pre ++ acc) ys → EveryAfter Q (pre' ++ acc) ys
  moved P Q pre pre' f acc [] h = tt
  moved P Q pre pre' f acc (y ∷ ys) h =
      grind (arith, append_assoc, moved P Q pre pre' f (acc ++ y ∷ []) ys (rw (append_assoc pre acc (y ∷ [])) at h.1))

  -- of a list after another beginning
  pub EveryAfter-moved : (P Q : List X → X → Type 0) (pre pre' : List X) →
      ((mid : List X) (z : X) → P (pre ++ mid) z → Q (pre' ++ mid) z) → (ys : List X) → EveryAfter P pre ys →
      EveryAfter Q pre' ys
  EveryAfter-moved P Q pre pre' f ys h = rw (append-nil pre') at (moved P Q pre pre' f [] ys (rw (append-nil pre) (h)))

  -- where nothing is after it
  pub EveryAfter-all : {Q : X → Type 0} {P : List X → X → Type 0} → ((before : List X) (x : X) → Q x → P before x) →
      (before xs : List X) → Each Q xs → EveryAfter P before xs
  EveryAfter-all f before [] h = tt
  EveryAfter-all {Q} {P} f before (x ∷ xs) h = (f before x h.0, EveryAfter-all f (before ++ x ∷ []) xs h.1)

  -- another element at a place
  pub EveryAfter-set : (P : List X → X → Type 0) (xs ys : List X) (m n : X) → (P xs m → P xs n) →
      ((mid : List X) (z : X) → P (xs ++ m ∷ mid) z → P (xs ++ n ∷ mid) z) → EveryAfter P [] (xs ++ m ∷ ys) →
      EveryAfter P [] (xs ++ n ∷ ys)
  EveryAfter-set P xs ys m n f g h =
      let right = EveryAfter-right P [] xs (m ∷ ys) h in
      let rest = moved P P (xs ++ m ∷ []) (xs ++ n ∷ [])
      (λ mid z is. rw (append_assoc xs (n ∷ []) mid) (g mid z (rw (append_assoc xs (m ∷ []) mid) at is))) [] ys
      (rw (append-nil (xs ++ m ∷ [])) (right.1)) in
      EveryAfter-append P [] xs (n ∷ ys) (EveryAfter-left P [] xs (m ∷ ys) h)
      (f right.0, rw (append-nil (xs ++ n ∷ [])) at rest)

  -- at any place
  pub EveryAfter-at : (P : List X → X → Type 0) (before after : List X) (x : X) →
      EveryAfter P [] (before ++ x ∷ after) → P before x
  EveryAfter-at P before after x h = (EveryAfter-right P [] before (x ∷ after) h).0

  -- each element that stands after some others
  pub EachAfter-EveryAfter : (P : List X → X → Type 0) (xs : List X) → EveryAfter P [] xs → EachAfter P xs
  EachAfter-EveryAfter P xs h before after x at = EveryAfter-at P before after x (rw at at h)

-- of each element of the image, and so of the image of each
pub EveryAfter-unmap : {X Y : Type 0} (P : List X → X → Type 0) (f : Y → X) (before ys : List Y) →
    EveryAfter P (map f before) (map f ys) → EveryAfter (λ b y. P (map f b) (f y)) before ys
EveryAfter-unmap P f before [] h = tt
EveryAfter-unmap P f before (y ∷ ys) h =
    (h.0, EveryAfter-unmap P f (before ++ y ∷ []) ys (rw (map-append f before (y ∷ [])) (h.1)))

-- what follows from what holds of each element after others holds of each
pub EveryAfter-weaker : {X : Type 0} {P Q : List X → X → Type 0} →
    ((before : List X) (x : X) → P before x → Q before x) → (before xs : List X) → EveryAfter P before xs →
    EveryAfter Q before xs
EveryAfter-weaker f before [] h = tt
EveryAfter-weaker {P} {Q} f before (x ∷ xs) h = (f before x h.0, EveryAfter-weaker f (before ++ x ∷ []) xs h.1)

-- what follows from a property of each element and what holds of each after others holds of each
pub EveryAfter-both : {X : Type 0} {P : X → Type 0} {Q R : List X → X → Type 0} →
    ((before : List X) (x : X) → P x → Q before x → R before x) → (before xs : List X) → Each P xs →
    EveryAfter Q before xs → EveryAfter R before xs
EveryAfter-both f before [] g h = tt
EveryAfter-both {P} {Q} {R} f before (x ∷ xs) g h =
    (f before x g.0 h.0, EveryAfter-both f (before ++ x ∷ []) xs g.1 h.1)

-- pairs and what stands after

module _ {X : Type 0} (R : X → X → Type 0) where
  after_one : (before : List X) (x : X) (more ys : List X) →
      EveryAfter (λ b y. Each (λ a. R a y) b) (before ++ x ∷ more) ys → Each (R x) ys
  after_one before x more [] h = tt
  after_one before x more (y ∷ ys) h = (
    Each-place (λ a. R a y) before more x h.0,
    after_one before x (more ++ y ∷ []) ys (rw (append_assoc before (x ∷ more) (y ∷ [])) at h.1),
  )

  -- a relation of each element to all before it is one of each pair
  pub EveryPair-EveryAfter : (before xs : List X) → EveryAfter (λ b y. Each (λ a. R a y) b) before xs → EveryPair R xs
  EveryPair-EveryAfter before [] h = tt
  EveryPair-EveryAfter before (x ∷ xs) h =
      (after_one before x [] xs h.1, EveryPair-EveryAfter (before ++ x ∷ []) xs h.1)

  -- a relation of each pair is one of each element to all before it
  pub EveryAfter-EveryPair : (before xs : List X) → Across R before xs → EveryPair R xs →
      EveryAfter (λ b y. Each (λ a. R a y) b) before xs
  EveryAfter-EveryPair before [] a h = tt
  EveryAfter-EveryPair before (x ∷ xs) a h = (
    Each-weaker (λ z. Each (R z) (x ∷ xs)) (λ z. R z x) (λ z w. w.0) before a,
    EveryAfter-EveryPair (before ++ x ∷ []) xs
        (Each-append (λ z. Each (R z) xs) before (x ∷ [])
        (Each-weaker (λ z. Each (R z) (x ∷ xs)) (λ z. Each (R z) xs) (λ z w. w.1) before a) (h.0, tt))
        h.1,
  )

-- of each pair, and of each element after others, and so of parts, of more and of a list in which one is another now
pub ruleset pair_moves = (EveryPair-append, EveryPair-left, EveryPair-right, EveryPair-across, EveryPair-set)

pub ruleset after_moves = (EveryAfter-append, EveryAfter-left, EveryAfter-right, EveryAfter-moved, EveryAfter-set)
