-- A series with one event more.
use Rattle.std.proofs.Common.{◌≡◌, ◌+◌, ◌<◌, ◌^◌, List, [], ◌∷◌, ◌++◌, length, Some, refl, ap, arith, length-append}
use Rattle.std.specs.Prelude.{IfSome}
use Rattle.rv_sentences.specs.Series.{continued, last_of, series_from, series_of, series_with}
use Rattle.rv_sentences.specs.declared.series.Series.{Series}

last_of-push : {E : Type 0} (first event : E) (events : List E) → last_of first (events ++ event ∷ []) ≡ event
last_of-push first event [] = refl
last_of-push first event (next ∷ events) = last_of-push next event events

-- a series that goes on, with one event more
pub series_from-push : {E : Type 0} (first event : E) (events : List E) →
    series_from first (events ++ event ∷ []) ≡ continued event (series_from first events)
series_from-push first event events = grind (arith, length-append, last_of-push)

-- a series with one event more
pub series_of-push : {E : Type 0} (events : List E) (event : E) → series_of (events ++ event ∷ [])
    ≡ series_with event (series_of events)
series_of-push [] event = refl
series_of-push (first ∷ events) event = ap Some (series_from-push first event events)

-- a series counts what it is of
pub series_counted : {E : Type 0} (events : List E) → length events + 1 < 2 ^ 64 →
    IfSome (series_of events) (λ (series : Series E). series.count + 1 < 2 ^ 64)
series_counted [] few = tt
series_counted (first ∷ events) few = omega (arith, few)
