-- What several walks want past an event.
use Rattle.std.proofs.Common.{◌≡◌, ◌∙◌, ◌+◌, ◌<◌, Bool, true, false, List, [], ◌∷◌}
use Rattle.std.proofs.Common.{◌++◌, Option, Some, None, length, filter, refl, ap}
use Rattle.std.proofs.Common.{arith, inl, inr}
use Rattle.std.specs.Prelude.{not, if◌then◌else◌, ◌||◌}
use Rattle.std.specs.List.{list_any}
use Rattle.std.specs.Option.{option_to_list}
use Rattle.rv_causes.specs.Meeting.{HasPoint, IsAmong, passed, with_before}
use Rattle.rv_causes.specs.Point.{is_point}
use Rattle.rv_causes.specs.Walk.{AllComeTo, ComesTo, past}
use Rattle.rv_causes.specs.declared.{point.Point.Point, event.Event.Event}

-- what is dropped from some points
abbrev others : Event → List Point → List Point
others event points = filter (λ point. not (is_point event.at point)) points

has-left : (point : Point) (xs ys : List Point) → HasPoint point xs → HasPoint point (xs ++ ys)
has-left point [] ys has = absurd has
has-left point (x ∷ xs) ys (inl is) = inl is
has-left point (x ∷ xs) ys (inr later) = inr (has-left point xs ys later)

has-last : (point : Point) (xs : List Point) → HasPoint point (xs ++ point ∷ [])
has-last point [] = inl refl
has-last point (x ∷ xs) = inr (has-last point xs)

among-before : (before : Option Point) (points : List Point) → IsAmong before (with_before before points)
among-before None points = tt
among-before (Some point) points = has-last point points

-- one that is another is kept
has-kept : (here : Bool) (point x : Point) (rest : List Point) → HasPoint point rest →
    HasPoint point (if not here then x ∷ rest else rest)
has-kept true point x rest has = has
has-kept false point x rest has = inr has

has-others : (event : Event) (point : Point) (points : List Point) → is_point event.at point ≡ false →
    HasPoint point points
    → HasPoint point (others event points)
has-others event point [] other has = absurd has
has-others event point (x ∷ xs) other (inl is) = rw (ap (is_point event.at) is ∙ other) (inl is)
has-others event point (x ∷ xs) other (inr later) = has-kept (is_point event.at x) point x (others event xs)
    (has-others event point xs other later)

-- one that is the event's is found
or-true : (here found : Bool) → found ≡ true → (here || found) ≡ true
or-true true found is = refl
or-true false found is = is

any-has : (event : Event) (point : Point) (points : List Point) → is_point event.at point ≡ true → HasPoint point points
    → list_any (is_point event.at) points ≡ true
any-has event point [] same has = absurd has
any-has event point (x ∷ xs) same (inl is) = rw (ap (is_point event.at) is ∙ same) refl
any-has event point (x ∷ xs) same (inr later) = or-true (is_point event.at x) (list_any (is_point event.at) xs)
    (any-has event point xs same later)

-- What a walk among them wants past the event is among them then.
by_found : (found : Bool) (event : Event) (point : Point) (points : List Point) → is_point event.at point ≡ false →
    HasPoint point points
    → HasPoint point (if found then with_before event.before (others event points) else points)
by_found found event point points other has = grind (arith, has-left, has-others)

by_test : (here : Bool) (event : Event) (point : Point) (points : List Point) → is_point event.at point ≡ here →
    HasPoint point points
    → IsAmong (if here then event.before else Some point) (passed event points)
by_test here event point points same has = grind (arith, any-has, among-before, by_found)

-- past an event, what was among the points wanted is among those that are left
pub passed-covers : (event : Event) (wanted : Option Point) (points : List Point) → IsAmong wanted points
    → IsAmong (past event wanted) (passed event points)
passed-covers event None points among = tt
passed-covers event (Some point) points among = by_test (is_point event.at point) event point points refl among

all-both : (root : Option Point) (older : List Event) (xs ys : List Point) → AllComeTo root older xs →
    AllComeTo root older ys
    → AllComeTo root older (xs ++ ys)
all-both root older [] ys front back = back
all-both root older (x ∷ xs) ys front back = (front.0, all-both root older xs ys front.1 back)

-- those that are others come on past the event
others-by : (here : Bool) (root : Option Point) (older : List Event) (event : Event) (x : Point) (rest : List Point)
    → ComesTo root older (if here then event.before else Some x) → AllComeTo root older rest
    → AllComeTo root older (if not here then x ∷ rest else rest)
others-by true root older event x rest comes come = come
others-by false root older event x rest comes come = (comes, come)

others-come : (root : Option Point) (older : List Event) (event : Event) (points : List Point) →
    AllComeTo root (event ∷ older) points
    → AllComeTo root older (others event points)
others-come root older event [] come = tt
others-come root older event (x ∷ xs) come =
    others-by (is_point event.at x) root older event x (others event xs) come.0 (others-come root older event xs come.1)

-- and what the event waited for, where one of them wanted it
before-by : (here found : Bool) (root : Option Point) (older : List Event) (event : Event) (x : Point)
    → ComesTo root older (if here then event.before else Some x) → (here || found) ≡ true
    → (found ≡ true → ComesTo root older event.before) → ComesTo root older event.before
before-by true found root older event x comes is rest = comes
before-by false found root older event x comes is rest = rest is

before-comes : (root : Option Point) (older : List Event) (event : Event) (points : List Point) →
    list_any (is_point event.at) points ≡ true
    → AllComeTo root (event ∷ older) points → ComesTo root older event.before
before-comes root older event [] found come = absurd cc
before-comes root older event (x ∷ xs) found come =
    before-by (is_point event.at x) (list_any (is_point event.at) xs) root older event x come.0 found
    (λ is. before-comes root older event xs is come.1)

before-all : (root : Option Point) (older : List Event) (before : Option Point) → ComesTo root older before
    → AllComeTo root older (option_to_list before)
before-all root older None comes = tt
before-all root older (Some point) comes = (comes, tt)

none-by : (here found : Bool) (root : Option Point) (older : List Event) (event : Event) (x : Point) (xs : List Point)
    → ComesTo root older (if here then event.before else Some x) → (here || found) ≡ false
    → (found ≡ false → AllComeTo root older xs) → AllComeTo root older (x ∷ xs)
none-by true found root older event x xs comes is rest = absurd cc
none-by false found root older event x xs comes is rest = (comes, rest is)

none-come : (root : Option Point) (older : List Event) (event : Event) (points : List Point) →
    list_any (is_point event.at) points ≡ false
    → AllComeTo root (event ∷ older) points → AllComeTo root older points
none-come root older event [] none come = tt
none-come root older event (x ∷ xs) none come =
    none-by (is_point event.at x) (list_any (is_point event.at) xs) root older event x xs come.0 none
    (λ is. none-come root older event xs is come.1)

-- Where walks come to a root through the event, they come to it past the event.
come-by : (found : Bool) (root : Option Point) (older : List Event) (event : Event) (points : List Point)
    → list_any (is_point event.at) points ≡ found → AllComeTo root (event ∷ older) points
    → AllComeTo root older (if found then with_before event.before (others event points) else points)
come-by found root older event points is come =
    grind (arith, all-both, others-come, before-all, before-comes, none-come)

-- past an event, the points that are left come to the root through the older events
pub passed-come : (root : Option Point) (older : List Event) (event : Event) (points : List Point) →
    AllComeTo root (event ∷ older) points
    → AllComeTo root older (passed event points)
passed-come root older event points come = come-by (list_any (is_point event.at) points) root older
    event points refl come

-- Where one is dropped there is room for another.
fewer-by : (here : Bool) (x : Point) (xs rest : List Point) → length rest < length xs + 1
    → length (if not here then x ∷ rest else rest) < length (x ∷ xs) + 1
fewer-by true x xs rest few = omega (arith, few)
fewer-by false x xs rest few = omega (arith, few)

no_more : (event : Event) (points : List Point) → length (others event points) < length points + 1
no_more event [] = omega arith
no_more event (x ∷ xs) = fewer-by (is_point event.at x) x xs (others event xs) (no_more event xs)

fewer-where : (here found : Bool) (x : Point) (xs rest : List Point) → (here || found) ≡ true →
    length rest < length xs + 1
    → (found ≡ true → length rest < length xs)
    → length (if not here then x ∷ rest else rest) < length (x ∷ xs)
fewer-where true found x xs rest is few fewer = omega (arith, few)
fewer-where false found x xs rest is few fewer = omega (arith, fewer is)

-- where a point is that of an event, fewer points are of other events
pub fewer : (event : Event) (points : List Point) → list_any (is_point event.at) points ≡ true →
    length (others event points) < length points
fewer event [] found = absurd cc
fewer event (x ∷ xs) found =
    fewer-where (is_point event.at x) (list_any (is_point event.at) xs) x xs (others event xs) found (no_more event xs)
    (λ is. fewer event xs is)
