-- The lines of the hardware before the first cycle, and of a cycle.
use Rattle.std.specs.Prelude.{ℕ, if◌then◌else◌, List, [], ◌∷◌, ◌++◌, codes, map}
use Rattle.std.specs.List.{flat_map}
use Rattle.rv_watch.specs.declared.progress.Progress.{Progress}
use Rattle.rv_front.specs.declared.predictors.DescribedPredictor.{DescribedPredictor}
use Rattle.rv_hardware.specs.Hardware.{Hardware}
use Rattle.rv_hardware.specs.declared.step.Step.{Step}
use Rattle.rv_passage.specs.Passage.{is_in_flight}
use Rattle.rv_passage.specs.declared.passage.Passage.{Passage}
use Rattle.rv_states.specs.Counts.{counts_text}
use Rattle.rv_states.specs.Instruction.{instruction_json}
use Rattle.rv_states.specs.Json.{Json, also, array, begins, numeral}
use Rattle.rv_states.specs.Predictor.{predictor_text}
use Rattle.rv_states.specs.State.{state_json}
use Rattle.rv_states.specs.Step.{step_json}

-- the counts so far, and the hardware
unfoldable pub rest_text : Hardware → Progress → List ℕ
rest_text h progress = counts_text progress ++ also (codes "state") (state_json h)

-- an instruction that is in flight
abbrev pub json_in_flight : Passage → List Json
json_in_flight row = if is_in_flight row then instruction_json row ∷ [] else []

-- the number of the next cycle, those of some instructions that are in flight before it, the counts so far, and the hardware
unfoldable pub start_line : List Passage → Hardware → Progress → List ℕ
start_line rows h progress =
    begins (codes "start") (numeral h.cycle) ++
    (also (codes "instructions") (array (flat_map json_in_flight rows)) ++ (rest_text h progress ++ codes "}\n"))

-- The number of a cycle, the instructions that are in flight at its end or left the hardware in it, in order of fetch, its steps,
-- the counts of the cycles so far, the hardware after it, and what it taught the predictor and asked of it, which is such after it.
unfoldable pub cycle_line : ℕ → List Passage → List Step → Hardware → Progress → DescribedPredictor → List ℕ
cycle_line cycle rows steps h progress predictor =
    begins (codes "cycle") (numeral cycle) ++
    (also (codes "instructions") (array (map instruction_json rows)) ++
    (also (codes "steps") (array (map step_json steps)) ++
    (rest_text h progress ++ (predictor_text predictor cycle steps h.front.entries ++ codes "}\n"))))
