-- What was mispredicted retired, so it is counted among all as among those that retired.
use Rattle.std.proofs.Common.{◌≡◌, ◌∙◌, ℕ, false, List, Option, Some, None, count_by, refl, ap, true≢false}
use Rattle.rv_passage.specs.Passage.{is_retirement}
use Rattle.rv_passage.specs.Prediction.{differ, is_mispredicted, next_of, prediction_of}
use Rattle.rv_passage.specs.declared.passage.{Ending.Ending, Passage.Passage}
use Rattle.rv_passage.specs.declared.passage.Ending.TheVariants as ending
use Rattle.rv_counts.specs.Counts.{mispredicted_among}
use Rattle.rv_counts.proofs.Among.{count-among}

-- a prediction is not other than where nothing goes on
pub differ-none : (prediction : Option ℕ) → differ prediction None ≡ false
differ-none None = refl
differ-none (Some predicted) = refl

-- what did not retire was not mispredicted
pub unretired-right : (p : Passage) → is_retirement p.ending ≡ false → is_mispredicted p ≡ false
unretired-right p other = ap (differ (prediction_of p)) (none p.ending other) ∙ differ-none (prediction_of p) where
  none : (e : Ending) → is_retirement e ≡ false → next_of e ≡ None
  none ending.InFlight other = refl
  none (ending.Retired order cycle written next) other = absurd (true≢false other)
  none (ending.Trapped cycle cause) other = refl
  none (ending.Squashed cycle) other = refl

-- so they are counted among all
pub mispredicted-all : (ps : List Passage) → mispredicted_among ps ≡ count_by is_mispredicted ps
mispredicted-all ps = count-among (λ p. is_retirement p.ending) is_mispredicted unretired-right ps
