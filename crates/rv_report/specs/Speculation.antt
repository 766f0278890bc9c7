-- What was fetched ahead of the program: what was predicted of it, and how much of it was squashed.
use Rattle.std.specs.Prelude.{ℕ, ◌+◌, ◌-◌, ◌^◌, ◌<◌, ◌==◌, Bool, false, if◌then◌else◌, List, [], ◌∷◌, ◌++◌}
use Rattle.std.specs.Prelude.{length, map, filter, take, drop, slice_get, Option, Some, option_and_then}
use Rattle.rv_front.specs.FetchBuffer.{FetchBuffer}
use Rattle.rv_front.specs.declared.fetched.Fetched.{Fetched}
use Rattle.rv_rob.specs.ReorderBuffer.{ReorderBuffer}
use Rattle.rv_hardware.specs.Hardware.{Hardware}
use Rattle.rv_hardware.specs.History.{Moment}
use Rattle.rv_hardware.specs.Lessons.{first_pc}
use Rattle.rv_hardware.specs.declared.step.Step.{Step}
use Rattle.rv_hardware.specs.declared.step.Step.TheVariants.{Retired, Trap, Interrupt}
use Rattle.rv_passage.specs.Passage.{of_fetched}
use Rattle.rv_passage.specs.Prediction.{differ, prediction_of}
use Rattle.rv_passage.specs.Table.{table_at}
use Rattle.rv_passage.specs.declared.passage.Passage.{Passage}

-- What was predicted at its fetch of each instruction in flight, oldest first, where it is a branch or a jump; how many
-- instructions were fetched; and how many branches and jumps retired after which the program did not go on as predicted.
pub record Speculated : Type 0 where
  pub predictions : List (Option ℕ)
  pub fetched : ℕ
  pub mispredicted : ℕ

-- of nothing but what is in flight
abbrev pub speculated_from : List Passage → Speculated
speculated_from rows = record { predictions = map prediction_of rows; fetched = length rows; mispredicted = 0 }

-- of the hardware
abbrev pub speculated_at : Hardware → Speculated
speculated_at h = speculated_from (table_at h).rows

-- how many instructions are in flight
abbrev pub in_flight : ReorderBuffer → FetchBuffer → ℕ
in_flight rob front = length rob.entries + length front.entries

-- the words that a cycle fetched, which wait for their dispatch at its end
abbrev pub fetched_by : ℕ → FetchBuffer → List Fetched
fetched_by cycle front = filter (λ f. f.cycle == cycle) front.entries

-- what was predicted of a fetched word
abbrev pub prediction_of_word : Fetched → Option ℕ
prediction_of_word f = prediction_of (of_fetched f)

-- what was predicted of the oldest instruction
abbrev pub oldest : List (Option ℕ) → Option ℕ
oldest predictions = option_and_then (λ prediction. prediction) (slice_get predictions 0)

-- the oldest instruction retires in a step, and the program does not go on as predicted, but at `next`
abbrev pub is_wrong : Step → ℕ → List (Option ℕ) → Bool
is_wrong (Retired row) next predictions = differ (oldest predictions) (Some next)
is_wrong (Trap pc cause value cycle) next predictions = false
is_wrong (Interrupt pc cause cycle) next predictions = false

-- a step ends the oldest instruction; an interrupt ends none
abbrev pub without_ended : Step → List (Option ℕ) → List (Option ℕ)
without_ended (Retired row) predictions = drop 1 predictions
without_ended (Trap pc cause value cycle) predictions = drop 1 predictions
without_ended (Interrupt pc cause cycle) predictions = predictions

-- all that some steps end
abbrev pub without_all : List Step → List (Option ℕ) → List (Option ℕ)
without_all [] predictions = predictions
without_all (step ∷ steps) predictions = without_all steps (without_ended step predictions)

-- the wrong predictions among some steps, after the last of which the program goes on at `next`
abbrev pub wrong_in : List Step → ℕ → List (Option ℕ) → ℕ
wrong_in [] next predictions = 0
wrong_in (step ∷ steps) next predictions =
    wrong_in steps next (without_ended step predictions)
    + (if is_wrong step (first_pc steps next) predictions then 1 else 0)

-- One more cycle, with these steps, which led to these buffers and to a pc. Of what did not end the oldest are still in flight,
-- as many as were not fetched in the cycle; all others were squashed.
abbrev pub speculated_after : ℕ → List Step → ReorderBuffer → FetchBuffer → ℕ → Speculated → Speculated
speculated_after cycle steps rob front pc s = record {
  predictions =
      take (in_flight rob front - length (fetched_by cycle front)) (without_all steps s.predictions)
      ++ map prediction_of_word (fetched_by cycle front);
  fetched = s.fetched + length (fetched_by cycle front);
  mispredicted = s.mispredicted + wrong_in steps pc s.predictions;
}

-- one more cycle of a run
abbrev pub speculated_by : Moment → Speculated → Speculated
speculated_by moment =
    speculated_after (moment.after.cycle - 1) moment.report.steps moment.after.rob moment.after.front moment.after.pc

-- cycles one after another
abbrev pub speculated_in : Speculated → List Moment → Speculated
speculated_in s [] = s
speculated_in s (moment ∷ moments) = speculated_in (speculated_by moment s) moments

-- the counts can go on by one cycle
pub record CanCount (s : Speculated) : Type 0 where
  pub fetched : s.fetched + 32 < 2 ^ 64
  pub mispredicted : s.mispredicted + 8 < 2 ^ 64
