-- The lines of a log in Konata's format: fields after tabs, the first of which says what the line says. An instruction
-- is reported by its number in order of fetch.
use Rattle.std.specs.Prelude.{ℕ, List, ◌++◌, codes, decimal}
use Rattle.rv_passage.specs.declared.passage.Passage.{Passage}
use Rattle.rv_source.specs.Listing.{Listed}
use Rattle.rv_text.specs.Line.{word_text}
use Rattle.rv_log.specs.Statement.{statement_text}
use Rattle.rv_log.specs.declared.stage.Stage.{Stage}
use Rattle.rv_log.specs.declared.stage.Stage.TheVariants.{Fetch, Dispatch, Execution, BusWait, Broadcast, Retirement}

-- an instruction appears (I), and its label (L) begins with its address
unfoldable pub introduction_text : ℕ → ℕ → List ℕ
introduction_text number pc =
    codes "I\t" ++ (decimal number
    ++ (codes "\t" ++ (decimal number ++ (codes "\t0\nL\t" ++ (decimal number ++ (codes "\t0\t" ++
    (word_text pc ++ codes ": ")))))))

-- it appears, with its label: its address and its statement
unfoldable pub appearance_text : Listed → Passage → List ℕ
appearance_text listing passage =
    introduction_text passage.number passage.pc ++ (statement_text listing passage ++ codes "\n")

-- the letter of a stage
unfoldable pub letter_of : Stage → List ℕ
letter_of Fetch = codes "F"
letter_of Dispatch = codes "D"
letter_of Execution = codes "X"
letter_of BusWait = codes "W"
letter_of Broadcast = codes "B"
letter_of Retirement = codes "C"

-- a stage of an instruction begins
unfoldable pub stage_line : ℕ → Stage → List ℕ
stage_line number stage = codes "S\t" ++ (decimal number ++ (codes "\t0\t" ++ (letter_of stage ++ codes "\n")))

-- it retires, so many before it
unfoldable pub retirement_line : ℕ → ℕ → List ℕ
retirement_line number order = codes "R\t" ++ (decimal number ++ (codes "\t" ++ (decimal order ++ codes "\t0\n")))

-- it is flushed
unfoldable pub flush_line : ℕ → List ℕ
flush_line number = codes "R\t" ++ (decimal number ++ (codes "\t" ++ (decimal number ++ codes "\t1\n")))
