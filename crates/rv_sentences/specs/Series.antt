-- Events of one kind: how many there were, the first and the last.
use Rattle.std.specs.Prelude.{◌+◌, List, [], ◌∷◌, length, Option, Some, None}
use Rattle.rv_sentences.specs.declared.series.Series.{Series}

-- the last of an event and of those after it
abbrev pub last_of : {E : Type 0} → E → List E → E
last_of event [] = event
last_of event (next ∷ events) = last_of next events

-- an event and those after it
abbrev pub series_from : {E : Type 0} → E → List E → Series E
series_from event events = record { count = length events + 1; first = event; last = last_of event events }

-- some events; of none there is no series
abbrev pub series_of : {E : Type 0} → List E → Option (Series E)
series_of [] = None
series_of (event ∷ events) = Some (series_from event events)

-- a series with one event more
abbrev pub continued : {E : Type 0} → E → Series E → Series E
continued event series = record series { count = series.count + 1; last = event }

-- the same where there may be none yet
abbrev pub series_with : {E : Type 0} → E → Option (Series E) → Option (Series E)
series_with event None = Some (series_from event [])
series_with event (Some series) = Some (continued event series)
