-- What a viewer's pane of details shows of an instruction that left the hardware: how, what it wrote, what its
-- execution cost, what was predicted after a branch or a jump, and what it waited for.
use Rattle.std.specs.Prelude.{ℕ, List, [], ◌++◌, codes, decimal, Option, Some, None}
use Rattle.rv_drawing.specs.Title.{correction_text}
use Rattle.rv_isa.specs.Cause.{code_of}
use Rattle.rv_isa.specs.declared.{causes.Cause.Cause, issues.Issue.Issue}
use Rattle.rv_passage.specs.Names.{register_name}
use Rattle.rv_passage.specs.Prediction.{correction_of, prediction_of}
use Rattle.rv_passage.specs.declared.passage.{Ending.Ending, Passage.Passage}
use Rattle.rv_passage.specs.declared.passage.Ending.TheVariants.{InFlight, Retired, Trapped, Squashed}
use Rattle.rv_text.specs.Line.{word_text}
use Rattle.rv_log.specs.Waited.{waited_text}

-- that it retired, and the register that it wrote, with its value
unfoldable pub written_text : Option (ℕ × ℕ) → List ℕ
written_text None = codes "retired"
written_text (Some written) =
    codes "retired, x"
    ++ (decimal written.0 ++ (codes " (" ++ (register_name written.0 ++ (codes ") = " ++ word_text written.1))))

-- the cause of its trap
unfoldable pub cause_text : Cause → List ℕ
cause_text cause = codes "trapped, cause " ++ decimal (code_of cause)

-- how it ended
unfoldable pub ending_text : Ending → List ℕ
ending_text InFlight = []
ending_text (Retired order cycle written next) = written_text written
ending_text (Trapped cycle cause) = cause_text cause
ending_text (Squashed cycle) = codes "squashed"

-- the prediction after an instruction
unfoldable pub predicted_text : Option ℕ → Option ℕ → List ℕ
predicted_text None correction = []
predicted_text (Some predicted) correction = codes ", predicted " ++ (word_text predicted ++ correction_text correction)

-- that of a branch or a jump
unfoldable pub prediction_text : Passage → List ℕ
prediction_text passage = predicted_text (prediction_of passage) (correction_of passage)

-- what its execution cost, where it began
unfoldable pub cost_text : Option Issue → List ℕ
cost_text None = []
cost_text (Some issue) = codes ", cost " ++ decimal issue.cost

-- the label (L) of that pane, in a log from some cycle on, but for the end of its line
unfoldable pub details_text : ℕ → Passage → List ℕ
details_text first passage =
    (codes "L\t" ++ (decimal passage.number ++ codes "\t1\t")) ++
    (ending_text passage.ending ++ (cost_text passage.issue ++ (prediction_text passage ++ waited_text first passage)))
