-- The tip of a row: what was predicted after a branch or a jump, and whether that was wrong, or the cause of a trap.
use Rattle.std.specs.Prelude.{ℕ, Bool, true, false, List, [], ◌++◌, codes, decimal, Option, Some, None}
use Rattle.rv_isa.specs.Cause.{code_of}
use Rattle.rv_passage.specs.Prediction.{correction_of, prediction_of}
use Rattle.rv_passage.specs.declared.passage.{Ending.Ending, Passage.Passage}
use Rattle.rv_passage.specs.declared.passage.Ending.TheVariants.{InFlight, Retired, Trapped, Squashed}
use Rattle.rv_text.specs.Line.{word_text}

-- where the program went on, if not where that was predicted
unfoldable pub correction_text : Option ℕ → List ℕ
correction_text None = []
correction_text (Some next) = codes ", but went on at " ++ word_text next

-- a prediction, where there was one
unfoldable pub predicted_title : Option ℕ → Option ℕ → List ℕ
predicted_title None correction = []
predicted_title (Some predicted) correction =
    codes "<title>predicted " ++ (word_text predicted ++ (correction_text correction ++ codes "</title>\n"))

-- that of a branch or a jump
unfoldable pub prediction_title : Passage → List ℕ
prediction_title passage = predicted_title (prediction_of passage) (correction_of passage)

-- the cause of a trap
unfoldable pub trap_title : ℕ → List ℕ
trap_title code = codes "<title>trapped, cause " ++ (decimal code ++ codes "</title>\n")

-- the tip of a row by how its instruction ended
unfoldable pub row_title : Ending → Passage → List ℕ
row_title InFlight passage = prediction_title passage
row_title (Retired order cycle written next) passage = prediction_title passage
row_title (Trapped cycle cause) passage = trap_title (code_of cause)
row_title (Squashed cycle) passage = prediction_title passage

-- the tip of a row whose stale word ended the run
unfoldable pub stale_title : List ℕ
stale_title = codes "<title>the run ended here: the word is stale</title>\n"

-- the tip of a row that may be that
unfoldable pub title_of_row : Bool → Passage → List ℕ
title_of_row true passage = stale_title
title_of_row false passage = row_title passage.ending passage

-- the end of a row
unfoldable pub row_end : Bool → Passage → List ℕ
row_end is_stopped passage = title_of_row is_stopped passage ++ codes "</g>\n"
