-- What the machine's branch predictor knows of the steps of a run, which it begins untaught, and what it answers.
use Rattle.std.specs.Prelude.{ℕ, ◌==◌, ◌&&◌, Bool, true, false, is_none, if◌then◌else◌, List}
use Rattle.std.specs.Prelude.{[], ◌∷◌, ◌++◌, length, codes, slice_index, Option, Some, None}
use Rattle.std.specs.Option.{option_map, option_map_or}
use Rattle.std.specs.List.{flat_map, fold, range_with_len, slice_index_or}
use Rattle.rv_isa.specs.declared.values.Values.{Values}
use Rattle.rv_front.specs.Flow.{flow_at}
use Rattle.rv_front.specs.Lesson.{Lesson}
use Rattle.rv_front.specs.Predictors.{answer, described, place_of, tables_of, taught}
use Rattle.rv_front.specs.Tables.{Tables}
use Rattle.rv_front.specs.declared.{fetched.Fetched.Fetched, flow.Flow.Flow}
use Rattle.rv_front.specs.declared.{predictors.DescribedPredictor.DescribedPredictor}
use Rattle.rv_front.specs.declared.flow.Flow.TheVariants.{Sequential, Jump, Branch, Indirect}
use Rattle.rv_hardware.specs.declared.step.Step.{Step}
use Rattle.rv_hardware.specs.declared.step.Step.TheVariants.{Retired, Trap, Interrupt}
use Rattle.rv_states.specs.Json.{Json, also, array}
use Rattle.rv_states.specs.Prediction.{asked_json, place_json}

-- the machine's predictor that was taught nothing
abbrev pub untaught_predictor : Values → DescribedPredictor
untaught_predictor values = described values.predictor.kind values.predictor.entries

-- a predictor after some lessons, the first one first
abbrev pub after_lessons : DescribedPredictor → List Lesson → DescribedPredictor
after_lessons predictor lessons = fold taught predictor lessons

-- the line of a place, but for one that is as at first
abbrev pub place_if : ℕ → ℕ → Option ℕ → List ℕ
place_if place counter target =
    if (counter == 1) && is_none target then [] else place_json place counter target ++ codes "\n"

-- the line of a place of tables
abbrev pub place_line : Tables → ℕ → List ℕ
place_line tables place = place_if place (slice_index tables.counters place) (slice_index_or tables.targets place None)

-- those of all places
unfoldable pub place_lines : Tables → List ℕ
place_lines tables = flat_map (place_line tables) (range_with_len 0 (length tables.counters))

-- those of a predictor, if it has tables
abbrev pub predictor_lines : DescribedPredictor → List ℕ
predictor_lines predictor = option_map_or place_lines (tables_of predictor) []

-- branches and JALR alone are looked up in the tables, and change them
abbrev pub uses_tables : Flow → Bool
uses_tables Sequential = false
uses_tables (Jump target) = false
uses_tables (Branch target backward) = true
uses_tables Indirect = true

-- the place of a pc, as tables have it, where the word there uses them
abbrev pub place_at : Tables → ℕ → ℕ → List Json
place_at tables pc word =
    let place = place_of tables pc in
    if uses_tables (flow_at pc word)
    then place_json place (slice_index tables.counters place) (slice_index_or tables.targets place None) ∷ []
    else []

-- the place that the lesson of a step changed, as tables have it
abbrev pub place_taught : Tables → Step → List Json
place_taught tables (Retired row) = place_at tables row.pc row.word
place_taught tables (Trap pc cause value cycle) = []
place_taught tables (Interrupt pc cause cycle) = []

-- those of a cycle's steps, as its lessons left them
abbrev pub learned_places : Tables → List Step → List ℕ
learned_places tables steps = also (codes "learned") (array (flat_map (place_taught tables) steps))

-- if there are tables
unfoldable pub learned_text : DescribedPredictor → List Step → List ℕ
learned_text predictor steps = option_map_or (λ tables. learned_places tables steps) (tables_of predictor) []

-- the place of a pc, where there are tables
abbrev pub place_in : DescribedPredictor → ℕ → Option ℕ
place_in predictor pc = option_map (λ tables. place_of tables pc) (tables_of predictor)

-- what a predictor answers of the word at a pc, of which it is asked unless RAM gives none
abbrev pub asked_of : DescribedPredictor → ℕ → Option ℕ → List Json
asked_of predictor pc None = []
asked_of predictor pc (Some word) = asked_json pc (place_in predictor pc) (answer predictor pc (flow_at pc word)) ∷ []

-- of a word, if a cycle fetched it
abbrev pub asked_in : DescribedPredictor → ℕ → Fetched → List Json
asked_in predictor cycle f = if f.cycle == cycle then asked_of predictor f.pc f.word else []

-- of those in the fetch buffer
unfoldable pub asked_text : DescribedPredictor → ℕ → List Fetched → List ℕ
asked_text predictor cycle words = also (codes "asked") (array (flat_map (asked_in predictor cycle) words))

-- what a cycle with some steps taught a predictor, and what it answered of the words that the cycle fetched
unfoldable pub predictor_text : DescribedPredictor → ℕ → List Step → List Fetched → List ℕ
predictor_text predictor cycle steps words = learned_text predictor steps ++ asked_text predictor cycle words
