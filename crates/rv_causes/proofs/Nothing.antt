-- Of no events nothing is found, and nothing comes of them.
use Rattle.std.proofs.Common.{◌≡◌, ◌<◌, ℕ, List, [], ◌∷◌, length, None, refl, arith}
use Rattle.rv_isa.specs.declared.values.Values.{Values}
use Rattle.rv_passage.specs.declared.passage.Passage.{Passage}
use Rattle.rv_causes.specs.Holding.{new_holds}
use Rattle.rv_causes.specs.Leaving.{with_rows}
use Rattle.rv_causes.specs.Lookup.{first_of, last_of}
use Rattle.rv_causes.specs.Path.{still_in_flight}
use Rattle.rv_causes.specs.Setting.{Setting}
use Rattle.rv_causes.specs.declared.{leaving.Leaving.Leaving, sought.Sought.Sought, way.Way.Way}

-- of no ways the first that is sought is none
pub first_of_nothing : (sought : Sought) (rows : List Passage) (ways : List Way) → length ways < 1 →
    first_of sought rows ways ≡ None
first_of_nothing sought [] ways none = refl
first_of_nothing sought (p ∷ ps) [] none = refl
first_of_nothing sought (p ∷ ps) (w ∷ ws) none = absurd (omega (arith, none))

pub last_of_nothing : (sought : Sought) (rows : List Passage) (ways : List Way) → length ways < 1 →
    last_of sought rows ways ≡ None
last_of_nothing sought [] ways none = refl
last_of_nothing sought (p ∷ ps) [] none = refl
last_of_nothing sought (p ∷ ps) (w ∷ ws) none = absurd (omega (arith, none))

pub with_rows_nothing : (s : Setting) (rows : List Passage) (ways : List Way) (leaving : Leaving) → length ways < 1
    → with_rows s rows ways leaving ≡ leaving
with_rows_nothing s [] ways leaving none = refl
with_rows_nothing s (p ∷ ps) [] leaving none = refl
with_rows_nothing s (p ∷ ps) (w ∷ ws) leaving none = absurd (omega (arith, none))

pub new_holds_nothing : (number : ℕ) (values : Values) (rows : List Passage) (ways : List Way) → length ways < 1
    → new_holds number values rows ways ≡ []
new_holds_nothing number values [] ways none = refl
new_holds_nothing number values (p ∷ ps) [] none = refl
new_holds_nothing number values (p ∷ ps) (w ∷ ws) none = absurd (omega (arith, none))

pub in_flight_nothing : (rows : List Passage) (ways : List Way) → length ways < 1 → still_in_flight rows ways ≡ []
in_flight_nothing [] ways none = refl
in_flight_nothing (p ∷ ps) [] none = refl
in_flight_nothing (p ∷ ps) (w ∷ ws) none = absurd (omega (arith, none))
