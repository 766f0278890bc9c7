-- The account of a path: of one part after another, and that its cycles add up.
use Rattle.std.proofs.Common.{◌≡◌, ◌∙◌, ℕ, ◌+◌, ◌<◌, ◌≤◌, List, [], ◌∷◌, ◌++◌, length, refl, ap, arith}
use Rattle.std.specs.Prelude.{slice_set, sum}
use Rattle.std.specs.List.{slice_index_or}
use Rattle.std.proofs.lemmas.List.{length-set}
use Rattle.std.proofs.lemmas.List.Sums.{sum_by-set}
use Rattle.rv_causes.specs.Account.{Accounted, account_of, nothing_accounted, with_cycles, with_event, with_path}
use Rattle.rv_causes.specs.Cause.{place_of}
use Rattle.rv_causes.specs.Walk.{AreInTime}
use Rattle.rv_causes.specs.declared.{cause.Cause.Cause, event.Event.Event}

-- the account of a path in two parts is that of the older part, and then of the newer one
pub with_path-append : (xs ys : List Event) (account : Accounted) → with_path (xs ++ ys) account
    ≡ with_path xs (with_path ys account)
with_path-append [] ys account = refl
with_path-append (x ∷ xs) ys account = ap (with_event x) (with_path-append xs ys account)

-- and that of a whole path begins with its older part
pub account-append : (xs ys : List Event) → account_of (xs ++ ys) ≡ with_path xs (account_of ys)
account-append xs ys = with_path-append xs ys nothing_accounted

-- each cause has a place
place_within : (why : Cause) → place_of why < 35
place_within why = grind arith

-- so many more at a place
pub sum-set : (counts : List ℕ) (place more : ℕ) → place < length counts
    → sum (slice_set counts place (slice_index_or counts place 0 + more)) ≡ sum counts + more
sum-set counts place more within =
    omega (arith, sum_by-set (λ n. n) counts place (slice_index_or counts place 0 + more) 0 within)

-- so many cycles more of a cause
pub sum-with : (why : Cause) (cycles : ℕ) (causes : List ℕ) → length causes ≡ 35 →
    sum (with_cycles why cycles causes) ≡ sum causes + cycles
sum-with why cycles causes all = sum-set causes (place_of why) cycles (omega (arith, all, place_within why))

-- The cycles of all causes are those of the path.
counts : (path : List Event) → length (account_of path).causes ≡ 35
counts [] = refl
counts (event ∷ older) = length-set _ _ _ ∙ counts older

-- the cycles of all causes add up to those of the path
pub adds_up : (path : List Event) → sum (account_of path).causes ≡ (account_of path).cycles
adds_up [] = refl
adds_up (event ∷ older) = grind (arith, sum-with, counts, adds_up older)

-- They are no more than there were before its end,
pub cycles-within : (cycles : ℕ) (path : List Event) → AreInTime cycles path → (account_of path).cycles ≤ cycles
cycles-within cycles [] within = omega arith
cycles-within cycles (event ∷ older) within = let rest = cycles-within event.cycle older within.1 in
    omega (arith, rest, within.0)

-- and all that were.
pub cycles-all : (event : Event) (older : List Event) → AreInTime event.cycle older →
    (account_of (event ∷ older)).cycles ≡ event.cycle
cycles-all event older within = let rest = cycles-within event.cycle older within in omega (arith, rest)
