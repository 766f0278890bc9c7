-- The last instruction before the first exception of a run, with one cycle more.
use Rattle.std.proofs.Common.{◌≡◌, cond, is_some, List, [], ◌∷◌, ◌++◌, Option, Some, None, refl}
use Rattle.std.specs.List.{cons_option}
use Rattle.rv_hardware.specs.History.{Moment}
use Rattle.rv_sentences.specs.Exception.{exception_of_cycle, exceptions_of}
use Rattle.rv_sentences.specs.Kinds.{kept_of}
use Rattle.rv_sentences.specs.declared.exception.Exception.{Exception}
use Rattle.rv_explain.specs.declared.origin.Origin.{Origin}
use Rattle.rv_explain.specs.LastBefore.{last_before_from, last_before_with, last_since}

-- the first cycle, whether or not it takes an exception
alone : (taken : Option Exception) (here : Option Origin) → here ≡ cond (is_some taken) here here
alone None here = refl
alone (Some e) here = refl

-- several, of which the first takes an exception, or the others do what they do
after_first : (taken : Option Exception) (here : Option Origin) (rest : List Moment) (moment : Moment)
    → last_before_with (kept_of (exceptions_of rest)).all moment.report.steps (last_before_from here rest)
    ≡ last_before_from here (rest ++ moment ∷ [])
    → last_before_with (kept_of (cons_option taken (exceptions_of rest))).all moment.report.steps
    (cond (is_some taken) here (last_before_from here rest))
    ≡ cond (is_some taken) here (last_before_from here (rest ++ moment ∷ []))
after_first None here rest moment more = more
after_first (Some e) here rest moment more = refl

-- one cycle more
pub last_before-push : (last : Option Origin) (moments : List Moment) (moment : Moment) →
    last_before_with (kept_of (exceptions_of moments)).all moment.report.steps (last_before_from last moments)
    ≡ last_before_from last (moments ++ moment ∷ [])
last_before-push last [] moment = alone (exception_of_cycle moment) (last_since last moment.report.steps)
last_before-push last (first ∷ rest) moment =
    let here = last_since last first.report.steps in
    after_first (exception_of_cycle first) here rest moment (last_before-push here rest moment)
