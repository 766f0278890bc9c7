-- What several runs came to, in a table: a line for each run, its cells with a tab between two.
use Rattle.std.specs.Prelude.{◌≡◌, ℕ, ◌-◌, List, [], ◌∷◌, ◌++◌, codes, decimal, get_or, Option}
use Rattle.std.specs.List.{enumerate_from, flat_map}
use Rattle.rv_isa.specs.declared.lines.Arrival.{Arrival}
use Rattle.rv_arch.specs.declared.outcome.Stop.{Stop}
use Rattle.rv_counts.specs.Places.{AddUp, AreLostFor}
use Rattle.rv_hardware.specs.Guided.{GuidedHardware}
use Rattle.rv_hardware.specs.History.{History, Moment, reports_of}
use Rattle.rv_hardware.specs.Report.{all_stalls, count_of, stall_name}
use Rattle.rv_hardware.specs.Run.{IsStop}
use Rattle.rv_hardware.specs.declared.report.{Stall.Stall, StallCounts.StallCounts}
use Rattle.rv_report.specs.Events.{events_in}
use Rattle.rv_report.specs.Shown.{cells_text, heads_text, places_shown, words_of}
use Rattle.rv_report.specs.State.{stop_text}
use Rattle.rv_report.specs.Tally.{losses_of}
use Rattle.rv_report.specs.Totals.{totals_at}
use Rattle.rv_report.specs.declared.shown.{Columns.Columns, Shown.Shown, TableOptions.TableOptions}
use Rattle.rv_report.specs.declared.{losses.ComparedRun.ComparedRun, totals.Totals.Totals}
use Rattle.rv_text.specs.Plain.{plain_text}
use Rattle.rv_text.specs.ReadField.{cell_text}
use Rattle.rv_text.specs.declared.fields.Value.{Value}
use Rattle.rv_text.specs.declared.fields.Value.TheVariants.{Count, Ratio}

-- a run of some hardware that a predictor guides, up to a limit of cycles, came to this; what it says of the places for
-- dispatch adds up, and each is lost for what ended the dispatch phase of its cycle
pub record RunsTo (arrivals : List Arrival) (options : TableOptions) (old : GuidedHardware)
    (run : ComparedRun) : Type 0 where
  pub moments : List Moment
  pub new : GuidedHardware
  pub cycles : History arrivals old moments new
  pub stops : IsStop options.limit (reports_of moments) new.hardware run.totals.stop
  pub totals_are : run.totals ≡ totals_at (reports_of moments) run.totals.stop
  pub losses_are : run.losses ≡ losses_of old.hardware moments
  pub words_are : run.words ≡ words_of options.shown new.hardware
  pub events_are : run.events ≡ events_in old.hardware.values old.hardware moments
  pub places_are : run.places ≡ places_shown options.shown old.hardware moments new.hardware
  pub places_add_up : AddUp old.hardware moments new.hardware
  pub places_are_lost_for : AreLostFor arrivals old.hardware moments

-- the name of the column of a reason to dispatch nothing
abbrev pub stall_head : Stall → List ℕ
stall_head stall = codes "stall_" ++ (stall_name stall ++ codes "\t")

-- the names of the columns, but for those of what is shown besides
unfoldable pub table_head : List ℕ
table_head =
    codes "number\tcycles\tretired\tcpi\ttraps\tinterrupts\tbusy\t" ++ (flat_map stall_head all_stalls ++
    (codes "mispredicted\tsquashed\tmisses\tname\tstop\t" ++
    codes "ipc\tlongest_gap\tbranches\tloads\tdrains\thits\twrite_backs"))

-- the number of a run, and the counts of its cycles and steps
abbrev pub count_values : ℕ → Totals → List Value
count_values number totals =
    Count number ∷
    Count totals.cycles ∷
    Count totals.steps.retired ∷
    Ratio totals.cycles totals.steps.retired ∷
    Count totals.steps.traps ∷
    Count totals.steps.interrupts ∷
    Count totals.busy ∷
    []

-- the cycles that dispatched nothing for a reason
abbrev pub stall_cell : StallCounts → Stall → List ℕ
stall_cell stalls stall = cell_text (Count (count_of stall stalls))

-- what a run lost cycles to
abbrev pub loss_values : ComparedRun → List Value
loss_values run = Count run.losses.mispredicted ∷ Count run.losses.squashed ∷ Count run.events.misses ∷ []

-- the name of a run's machine in printing characters, or a hyphen where it has none
unfoldable pub name_text : List ℕ → List ℕ
name_text [] = codes "-"
name_text (first ∷ others) = plain_text (first ∷ others)

-- the instructions to each cycle, the longest gap, and what a run did
abbrev pub event_values : ComparedRun → List Value
event_values run =
    Ratio run.totals.steps.retired run.totals.cycles ∷
    Count run.totals.longest_gap ∷
    Count run.events.branches ∷
    Count run.events.loads ∷
    Count run.events.drains ∷
    Count run.events.hits ∷
    []

-- the cells from the name of a run's machine on
unfoldable pub name_and_stop : List ℕ → Stop → List ℕ
name_and_stop name stop = name_text name ++ (codes "\t" ++ (stop_text stop ++ codes "\t"))

-- the last count, and what is shown besides
unfoldable pub last_cells : Columns (Option Shown) → ComparedRun → List ℕ
last_cells shown run = decimal run.events.write_backs ++ (cells_text shown run.words run.places ++ codes "\n")

-- the line of a run
unfoldable pub table_row : Columns (Option Shown) → ℕ → List ℕ → ComparedRun → List ℕ
table_row shown number name run =
    flat_map cell_text (count_values number run.totals) ++ (flat_map (stall_cell run.totals.stalls) all_stalls ++
    (flat_map cell_text (loss_values run)
    ++ (name_and_stop name run.totals.stop ++ (flat_map cell_text (event_values run) ++ last_cells shown run))))

-- the line of a run with a number, where the machines from the first on have these names
abbrev pub row_of : Columns (Option Shown) → List (List ℕ) → ℕ × ComparedRun → List ℕ
row_of shown names run = table_row shown run.0 (get_or names (run.0 - 1) []) run.1

-- runs are numbered from 1
unfoldable pub table_of : Columns (Option Shown) → List (List ℕ) → List ComparedRun → List ℕ
table_of shown names runs =
    table_head ++ (heads_text shown ++ (codes "\n" ++ flat_map (row_of shown names) (enumerate_from 1 runs)))
