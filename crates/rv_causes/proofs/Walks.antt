-- Walks through some events and then others, and what stands on them.
use Rattle.std.proofs.Common.{◌≡◌, ℕ, ◌≤◌, Bool, true, false, List, [], ◌∷◌, ◌++◌, Option, None, refl, ap, arith}
use Rattle.std.specs.Prelude.{if◌then◌else◌}
use Rattle.rv_causes.specs.Walk.{AreInTime, beyond, is_wanted, past, path_to}
use Rattle.rv_causes.specs.declared.{point.Point.Point, event.Event.Event}

-- a walk past two parts of the events goes past the one and then past the other
pub beyond-append : (xs ys : List Event) (wanted : Option Point) →
    beyond (xs ++ ys) wanted ≡ beyond ys (beyond xs wanted)
beyond-append [] ys wanted = refl
beyond-append (x ∷ xs) ys wanted = beyond-append xs ys (past x wanted)

path_to-by : (here : Bool) (x : Event) (xs ys : List Event) (wanted : Option Point)
    → path_to (xs ++ ys) x.before ≡ path_to xs x.before ++ path_to ys (beyond xs x.before)
    → path_to (xs ++ ys) wanted ≡ path_to xs wanted ++ path_to ys (beyond xs wanted)
    → (if here then x ∷ path_to (xs ++ ys) x.before else path_to (xs ++ ys) wanted)
    ≡ (if here then x ∷ path_to xs x.before else path_to xs wanted)
    ++ path_to ys (beyond xs (if here then x.before else wanted))
path_to-by true x xs ys wanted found past_it = ap (λ path. x ∷ path) found
path_to-by false x xs ys wanted found past_it = past_it

-- and its path is that through the one and then that through the other
pub path_to-append : (xs ys : List Event) (wanted : Option Point) → path_to (xs ++ ys) wanted ≡ path_to xs wanted
    ++ path_to ys (beyond xs wanted)
path_to-append [] ys wanted = refl
path_to-append (x ∷ xs) ys wanted = path_to-by (is_wanted wanted x) x xs ys wanted (path_to-append xs ys x.before)
    (path_to-append xs ys wanted)

-- nothing is wanted
pub path_to-none : (events : List Event) → path_to events None ≡ []
path_to-none [] = refl
path_to-none (event ∷ older) = path_to-none older

-- a walk that wants nothing wants nothing past any events
pub beyond-none : (events : List Event) → beyond events None ≡ None
beyond-none [] = refl
beyond-none (event ∷ older) = beyond-none older

-- what comes in time comes within more cycles
pub in_time-later : (n m : ℕ) (events : List Event) → n ≤ m → AreInTime n events → AreInTime m events
in_time-later n m [] more within = tt
in_time-later n m (event ∷ older) more within = (omega (arith, more, within.0), within.1)

in_time-by : (here : Bool) (cycles : ℕ) (event : Event) (found past_it : List Event) → event.cycle ≤ cycles →
    AreInTime event.cycle found
    → AreInTime cycles past_it
    → AreInTime cycles (if here then event ∷ found else past_it)
in_time-by true cycles event found past_it here within later = (here, within)
in_time-by false cycles event found past_it here within later = later

-- no event of a path comes later than the one that waited for it
pub path-in_time : (cycles : ℕ) (events : List Event) (wanted : Option Point) → AreInTime cycles events →
    AreInTime cycles (path_to events wanted)
path-in_time cycles [] wanted within = tt
path-in_time cycles (event ∷ older) wanted within =
    in_time-by (is_wanted wanted event) cycles event (path_to older event.before) (path_to older wanted) within.0
    (path-in_time event.cycle older event.before within.1)
    (in_time-later event.cycle cycles (path_to older wanted) within.0 (path-in_time event.cycle older wanted within.1))
