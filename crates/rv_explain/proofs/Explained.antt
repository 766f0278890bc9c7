-- A run that is tallied is explained by its sentences.
use Rattle.std.proofs.Common.{◌≡◌, ℕ, ◌^◌, ◌≤◌, ◌<◌, List, length, Option, refl, ap, arith, length-append}
use Rattle.std.specs.Prelude.{sum}
use Rattle.rv_isa.specs.declared.lines.Arrival.{Arrival}
use Rattle.rv_isa.specs.declared.values.Values.{Values}
use Rattle.rv_hardware.specs.Guided.{GuidedHardware}
use Rattle.rv_passage.specs.Table.{still_open}
use Rattle.rv_passage.specs.Walk.{passages_after}
use Rattle.rv_counts.specs.Left.{left_after}
use Rattle.rv_causes.specs.Account.{Accounted}
use Rattle.rv_source.specs.Listing.{Listed}
use Rattle.rv_explain.specs.Explanation.{CanBeWritten, IsExplanation, IsTallied, explanation, tallied_of}
use Rattle.rv_sentences.specs.Head.{accounts_of, itself}
use Rattle.rv_sentences.specs.Stay.{awaited_of}
use Rattle.rv_sentences.specs.WordCount.{count_at}
use Rattle.rv_sentences.specs.WordNotes.{notes_of}
use Rattle.rv_sentences.specs.Work.{word_in}
use Rattle.rv_explain.specs.declared.{figures.Figures.Figures, running.Tallied.Tallied}
use Rattle.rv_sentences.specs.declared.work.Class.TheVariants.{Branch, Mispredicted}
use Rattle.rv_sentences.proofs.AccountsGrow.{length-accounts}
use Rattle.rv_sentences.proofs.CountSums.{counted_within}
use Rattle.rv_sentences.proofs.StaysGrow.{length-awaited}
use Rattle.rv_passage.proofs.EndedRun.{length-reports_of}

module _ {arrivals : List Arrival} {limit : ℕ} {values : Values} {old new : GuidedHardware} {run : Tallied}
    (tallied : IsTallied arrivals limit values old new run) where
  -- what is written of a tallied run is its explanation
  pub explained : (figures : Figures) (path : Option Accounted) (listing : Listed) →
      IsExplanation arrivals limit figures values path listing old new run.stop
      (explanation figures path listing new.hardware run)
  explained figures path listing = grind arith

  -- no more is noted at the words of RAM than there was of what is noted
  noted_few : {X : Type 0} (place : X → Option ℕ) (all : List X) (noted most : Tallied → ℕ) →
      let ended = tallied_of values arrivals old.hardware tallied.moments run.stop in
      noted ended ≡ sum (notes_of values (count_at place all)).words → length all ≤ most ended → noted run ≤ most run
  noted_few place all noted most is few =
      omega (arith, counted_within place values all, is, few, ap noted tallied.kept, ap most tallied.kept)

  -- so the sentences on it can be written
  pub can_be_written : run.fetched < 2 ^ 64 → CanBeWritten new.hardware run
  can_be_written countable =
      let moments = tallied.moments in
      let left = left_after old.hardware moments in
      let fewer = length-append (passages_after still_open old.hardware moments).rows left in
      let branches = noted_few (word_in Branch) left (λ t. sum t.tally.branches.words) (λ t. t.fetched) refl
      (omega (arith, fewer)) in
      let mispredicted = noted_few (word_in Mispredicted) left
      (λ t. sum t.tally.mispredicted.words) (λ t. t.fetched) refl
      (omega (arith, fewer)) in
      record {
        heads = noted_few itself (accounts_of old.hardware moments) (λ t. sum t.tally.heads.words)
            (λ t. t.progress.cycles)
            refl (omega (arith, length-accounts old.hardware moments, length-reports_of moments));
        awaited = noted_few itself (awaited_of old.hardware moments) (λ t. sum t.tally.awaited.words)
            (λ t. t.progress.cycles) refl
            (omega (arith, length-awaited old.hardware moments, length-reports_of moments));
        branches = omega (arith, branches, countable);
        mispredicted = omega (arith, mispredicted, countable);
        stays = tallied.few_stays;
        places = tallied.few;
      }
