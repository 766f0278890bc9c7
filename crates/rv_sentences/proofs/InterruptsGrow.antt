-- What is kept of some interrupts, with one more.
use Rattle.std.proofs.Common.{◌≡◌, ℕ, ◌+◌, ◌<◌, ◌^◌, Bool, true, false, cond, List, [], ◌∷◌, ◌++◌, length, ap, arith}
use Rattle.std.proofs.Common.{append-nil}
use Rattle.std.specs.Prelude.{IfSome}
use Rattle.std.proofs.lemmas.List.Elements.{filter-append}
use Rattle.std.proofs.lemmas.List.Sums.{count_by-le-length, length-filter}
use Rattle.rv_sentences.specs.Interrupt.{AreCountable, by_line, line_with, of_cause, with_interruption}
use Rattle.rv_sentences.specs.Series.{series_of, series_with}
use Rattle.rv_sentences.specs.declared.{interruption.Interruption.Interruption, series.Series.Series}
use Rattle.rv_sentences.proofs.SeriesGrows.{series_counted, series_of-push}

module _ (cause : ℕ) (interruption : Interruption) where
  kept_as : (some : List Interruption) (has : Bool) →
      series_of (some ++ cond has (interruption ∷ []) [])
      ≡ cond has (series_with interruption (series_of some)) (series_of some)
  kept_as some true = series_of-push some interruption
  kept_as some false = ap series_of (append-nil some)

  cause-push : (interruptions : List Interruption) →
      of_cause cause (interruptions ++ interruption ∷ []) ≡ line_with cause interruption (of_cause cause interruptions)
  cause-push interruptions = grind (arith, filter-append, kept_as)

-- the interrupts by line, with one more
pub by_line-push : (interruptions : List Interruption) (interruption : Interruption) →
    by_line (interruptions ++ interruption ∷ []) ≡ with_interruption interruption (by_line interruptions)
by_line-push interruptions interruption = grind (arith, cause-push)

cause_counted : (cause : ℕ) (interruptions : List Interruption) → length interruptions + 1 < 2 ^ 64 →
    IfSome (of_cause cause interruptions) (λ (series : Series Interruption). series.count + 1 < 2 ^ 64)
cause_counted cause interruptions little = grind (arith, series_counted, length-filter, count_by-le-length)

-- the counts of few interrupts can go on by one
pub lines_counted : (interruptions : List Interruption) → length interruptions + 1 < 2 ^ 64 →
    AreCountable (by_line interruptions)
lines_counted interruptions little = grind (arith, cause_counted)
