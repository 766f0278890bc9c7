-- The path of a run.
use Rattle.std.specs.Prelude.{◌≡◌, ℕ, ◌+◌, ◌^◌, ◌≤◌, List, length, sum}
use Rattle.rv_isa.specs.declared.lines.Arrival.{Arrival}
use Rattle.rv_arch.specs.declared.outcome.Stop.{Stop}
use Rattle.rv_front.specs.Predictors.{guide_of}
use Rattle.rv_front.specs.declared.predictors.DescribedPredictor.{DescribedPredictor}
use Rattle.rv_hardware.specs.Guided.{GuidedHardware, guided}
use Rattle.rv_hardware.specs.Hardware.{Hardware}
use Rattle.rv_hardware.specs.History.{Moment}
use Rattle.rv_passage.specs.EndedRun.{IsEndedRun}
use Rattle.rv_causes.specs.Account.{Accounted, AreWithin, words_cycles}
use Rattle.rv_causes.specs.Path.{account_of_run}
use Rattle.rv_causes.specs.Lines.{account_text}
use Rattle.rv_source.specs.Listing.{Listed}

-- So many cycles are those of a run that ended for a reason, and so many of them each cause has on its path, which are
-- all of them. A word of the program has those of its causes, and all words together have no more than the run.
pub record IsAccounted (arrivals : List Arrival) (limit : ℕ) (old new : GuidedHardware) (stop : Stop) (cycles : ℕ)
    (account : Accounted) : Type 0 where
  pub moments : List Moment
  pub run : IsEndedRun arrivals limit old moments new stop
  pub cycles_are : cycles ≡ length moments
  pub account_is : account ≡ account_of_run old.hardware moments
  pub adds_up : sum account.causes ≡ cycles
  pub each_word : AreWithin cycles account.words
  pub all_words : words_cycles account.words ≤ cycles

-- a text is that of the path of a run that ended for a reason
pub record IsPath (arrivals : List Arrival) (limit : ℕ) (listing : Listed) (old new : GuidedHardware) (stop : Stop)
    (text : List ℕ) : Type 0 where
  pub cycles : ℕ
  pub account : Accounted
  pub accounted : IsAccounted arrivals limit old new stop cycles account
  pub text_is : text ≡ account_text listing cycles account

-- of a run of at most so many cycles there is one answer of a kind, where a described predictor guides it
abbrev pub HasOneAnswer : {A : Type 0} → ℕ → (GuidedHardware → GuidedHardware → A → Type 0) → Type 0
HasOneAnswer {A} limit Is =
    (h : Hardware) (predictor : DescribedPredictor) (new new' : GuidedHardware) (answer answer' : A) →
    h.cycle + limit ≤ 2 ^ 40 → Is (guided h (guide_of predictor)) new answer →
    Is (guided h (guide_of predictor)) new' answer' → answer ≡ answer'
