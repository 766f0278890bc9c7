-- Exceptions by cause and place.
use Rattle.std.specs.Prelude.{ℕ, ◌+◌, ◌-◌, ◌<◌, ◌^◌, ◌==◌, ◌&&◌, ◌||◌, Bool, nat_le, if◌then◌else◌}
use Rattle.std.specs.Prelude.{List, [], ◌∷◌, ◌++◌, length, map, take, Option, Some, None, IfSome}
use Rattle.std.specs.List.{All, filter, list_any}
use Rattle.rv_isa.specs.Cause.{code_of}
use Rattle.rv_sentences.specs.Series.{continued, series_from, series_of, series_with}
use Rattle.rv_sentences.specs.declared.exception.Exception.{Exception}
use Rattle.rv_sentences.specs.declared.series.Series.{Series}

-- two exceptions have one cause and one place
abbrev pub is_alike : Exception → Exception → Bool
is_alike e other = (e.pc == other.pc) && (code_of e.cause == code_of other.cause)

-- The series of some exceptions, one for each cause and place, in the order in which they begin; of those before, each has its
-- series already.
abbrev pub kinds_after : List Exception → List Exception → List (Series Exception)
kinds_after before [] = []
kinds_after before (e ∷ es) =
    let rest = kinds_after (e ∷ before) es in
    if list_any (λ earlier. is_alike earlier e) before then rest else series_from e (filter (is_alike e) es) ∷ rest

-- what is kept of some exceptions: how many, the first and the last; and the same of each of the first eight kinds
pub record Kept : Type 0 where
  pub all : Option (Series Exception)
  pub kinds : List (Series Exception)

abbrev pub kept_of : List Exception → Kept
kept_of es = record { all = series_of es; kinds = take 8 (kinds_after [] es) }

-- an exception is of the kind of a series
abbrev pub belongs : Exception → Series Exception → Bool
belongs e kind = is_alike kind.first e

-- the series with one exception more, if it is of its kind
abbrev pub kind_with : Exception → Series Exception → Series Exception
kind_with e kind = if belongs e kind then continued e kind else kind

-- the kinds with one exception more, which may begin one while there are fewer than eight
abbrev pub kinds_with : Exception → List (Series Exception) → List (Series Exception)
kinds_with e kinds =
    if list_any (belongs e) kinds || nat_le 8 (length kinds) then map (kind_with e) kinds
    else map (kind_with e) kinds ++ series_from e [] ∷ []

-- one exception more
abbrev pub kept_with : Exception → Kept → Kept
kept_with e kept = record { all = series_with e kept.all; kinds = kinds_with e kept.kinds }

-- and where it is a cycle's, if it takes one
abbrev pub kept_after : Option Exception → Kept → Kept
kept_after None kept = kept
kept_after (Some e) kept = kept_with e kept

-- no count comes to 2^64 with one more
pub record IsCountable (kept : Kept) : Type 0 where
  pub all : IfSome kept.all (λ series. series.count + 1 < 2 ^ 64)
  pub kinds : All (λ (kind : Series Exception). kind.count + 1 < 2 ^ 64) kept.kinds

-- so many exceptions but for those of some kinds
abbrev pub others : ℕ → List (Series Exception) → ℕ
others all [] = all
others all (kind ∷ kinds) = others (all - kind.count) kinds
