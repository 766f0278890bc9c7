-- The states of a run, line by line.
use Rattle.std.specs.Prelude.{◌≡◌, ℕ, ◌==◌, Bool, if◌then◌else◌, nat_lt, List, [], ◌∷◌, ◌++◌, length, Option}
use Rattle.rv_isa.specs.declared.{lines.Arrival.Arrival, values.Values.Values}
use Rattle.rv_arch.specs.declared.outcome.Stop.{Stop}
use Rattle.rv_watch.specs.Progress.{progress_of}
use Rattle.rv_watch.specs.declared.progress.Progress.{Progress}
use Rattle.rv_front.specs.declared.predictors.DescribedPredictor.{DescribedPredictor}
use Rattle.rv_hardware.specs.Guided.{GuidedHardware}
use Rattle.rv_hardware.specs.Hardware.{Hardware}
use Rattle.rv_hardware.specs.History.{Moment}
use Rattle.rv_hardware.specs.Lessons.{lessons_of}
use Rattle.rv_hardware.specs.declared.step.Step.{Step}
use Rattle.rv_passage.specs.EndedRun.{IsEndedRun}
use Rattle.rv_passage.specs.Table.{still_open, table_at}
use Rattle.rv_passage.specs.Walk.{FollowedCycle, walk}
use Rattle.rv_passage.specs.declared.passage.Passage.{Passage}
use Rattle.rv_source.specs.Listing.{Listed}
use Rattle.rv_text.specs.Said.{IsSaid}
use Rattle.rv_states.specs.Cycle.{cycle_line, start_line}
use Rattle.rv_states.specs.Grammar.{AreLines}
use Rattle.rv_states.specs.Listing.{listing_lines}
use Rattle.rv_states.specs.Machine.{header_line}
use Rattle.rv_states.specs.Markup.{HasNoMarkup}
use Rattle.rv_states.specs.Memory.{memory_lines}
use Rattle.rv_states.specs.Page.{after_lines, before_lines}
use Rattle.rv_states.specs.Predictor.{after_lessons, predictor_lines, untaught_predictor}
use Rattle.rv_states.specs.Sets.{set_lines}
use Rattle.rv_states.specs.Stop.{stop_line}
use Rattle.rv_states.specs.declared.form.Form.{Form}

-- the lines of memory and the cache
unfoldable pub storage_text : Hardware → List ℕ
storage_text h = memory_lines h h.values ++ set_lines h h.values.cache.sets

-- before the window's first cycle: memory, the cache, what the predictor knows, and the rest of the hardware
unfoldable pub window_text : List Passage → Hardware → Progress → DescribedPredictor → List ℕ
window_text rows h progress predictor = storage_text h ++ (predictor_lines predictor ++ start_line rows h progress)

-- the line of a cycle, unless it is one of the first `from`
abbrev pub shown_text : ℕ → ℕ → List Passage → List Step → Hardware → Progress → DescribedPredictor → List ℕ
shown_text from cycle rows steps after progress predictor =
    if nat_lt from progress.cycles then cycle_line cycle rows steps after progress predictor else []

-- the lines before the window, after the last of the cycles before it
abbrev pub begun_text : ℕ → List Passage → Hardware → Progress → DescribedPredictor → List ℕ
begun_text from rows h progress predictor =
    if progress.cycles == from then window_text rows h progress predictor else []

-- what is shown of a cycle, after which the predictor is such, with the counts of the cycles so far
unfoldable pub cycle_text : ℕ → FollowedCycle → DescribedPredictor → List ℕ
cycle_text from cycle predictor =
    shown_text from cycle.number cycle.passages.rows cycle.report.steps cycle.after
    (progress_of cycle.reports) predictor ++
    begun_text from cycle.passages.rows cycle.after (progress_of cycle.reports) predictor

-- the predictor after a cycle
abbrev pub taught_by : DescribedPredictor → FollowedCycle → DescribedPredictor
taught_by predictor cycle = after_lessons predictor (lessons_of cycle.report.steps cycle.after.pc)

-- what is shown of cycles one after the other, before which the predictor is such
abbrev pub cycles_text : ℕ → DescribedPredictor → List FollowedCycle → List ℕ
cycles_text from predictor [] = []
cycles_text from predictor (cycle ∷ cycles) =
    let after = taught_by predictor cycle in cycle_text from cycle after ++ cycles_text from after cycles

-- the machine and the program
unfoldable pub opening_text : ℕ → Listed → Values → List ℕ
opening_text from listing values = header_line from values ++ listing_lines listing values

-- what is shown before the first cycle of a run: the machine and the program, and what stands before the window where
-- it begins here
unfoldable pub head_text : ℕ → Listed → List Passage → Hardware → DescribedPredictor → List ℕ
head_text from listing rows first predictor =
    opening_text from listing first.values ++ begun_text from rows first (progress_of []) predictor

-- the lines of a run up to some cycle, which the machine's predictor begins untaught
unfoldable pub lines_text : ℕ → Listed → Hardware → List Moment → List ℕ
lines_text from listing first moments =
    let predictor = untaught_predictor first.values in
    head_text from listing (table_at first).rows first predictor
    ++ cycles_text from predictor (walk still_open first moments)

-- the lines of a run, whose last one says after how many cycles it ended and why
unfoldable pub states_text : ℕ → Listed → Hardware → List Moment → Stop → List ℕ
states_text from listing first moments stop = lines_text from listing first moments ++ stop_line (length moments) stop

-- A text has, in a form, the states of the cycles after the first `from` of a run that ended for a reason. Each line is
-- JSON, and no byte of the lines is one that HTML gives a meaning.
pub record IsStates (arrivals : List Arrival) (from limit : ℕ) (form : Form) (listing : Listed)
    (old new : GuidedHardware) (stop : Stop) (text : List ℕ) : Type 0 where
  pub moments : List Moment
  pub run : IsEndedRun arrivals limit old moments new stop
  pub json : AreLines (states_text from listing old.hardware moments stop)
  pub no_markup : HasNoMarkup (states_text from listing old.hardware moments stop)
  pub text_is : text ≡ before_lines form ++ (states_text from listing old.hardware moments stop ++ after_lines form)

-- that text is written, or a beginning of it where a write failed
abbrev pub WritesStates : List Arrival → ℕ → ℕ → Form → Listed → GuidedHardware → GuidedHardware → Stop → Bool →
    Option (List ℕ) → Option (List ℕ) → Type 0
WritesStates arrivals from limit form listing old new stop failed before after =
    (text : List ℕ) × IsStates arrivals from limit form listing old new stop text × IsSaid failed before after text
