-- What a run came to, in sentences.
use Rattle.std.specs.Prelude.{◌≡◌, ℕ, ◌*◌, ◌^◌, ◌<◌, ◌≤◌, List, [], ◌++◌, codes, length, sum, Option, Some, None}
use Rattle.rv_isa.specs.declared.{lines.Arrival.Arrival, values.Values.Values}
use Rattle.rv_isa.specs.declared.csrs.Csr.TheVariants.{Mie, Mstatus}
use Rattle.rv_arch.specs.Csr.{value_of}
use Rattle.rv_arch.specs.declared.outcome.Stop.{Stop}
use Rattle.rv_watch.specs.Progress.{progress_of}
use Rattle.rv_watch.specs.declared.progress.Progress.{Progress}
use Rattle.rv_hardware.specs.Guided.{GuidedHardware}
use Rattle.rv_hardware.specs.Hardware.{Hardware}
use Rattle.rv_passage.specs.EndedRun.{IsEndedRun}
use Rattle.rv_counts.specs.Left.{passages_of_run}
use Rattle.rv_causes.specs.Account.{Accounted}
use Rattle.rv_causes.specs.Sentence.{sentences}
use Rattle.rv_source.specs.Listing.{Listed}
use Rattle.rv_text.specs.Line.{line_of, ratio_text}
use Rattle.rv_sentences.specs.Dispatch.{dispatches_text}
use Rattle.rv_sentences.specs.Drain.{drain_text}
use Rattle.rv_explain.specs.Crash.{crash_of, crash_text, first_way_text, lone_crash, whole_end_text}
use Rattle.rv_explain.specs.Ending.{ending_text, stuck_text}
use Rattle.rv_sentences.specs.Exception.{exceptions_text}
use Rattle.rv_hardware.specs.History.{Moment, reports_of}
use Rattle.rv_sentences.specs.Hotspot.{hotspots_text}
use Rattle.rv_sentences.specs.Interrupt.{interrupts_text}
use Rattle.rv_sentences.specs.Load.{load_text}
use Rattle.rv_sentences.specs.Longest.{longest_text}
use Rattle.rv_sentences.specs.PlaceLines.{greatest_places_text, places_text}
use Rattle.rv_counts.specs.Places.{AddUp, AreLostFor}
use Rattle.rv_sentences.specs.Stack.{count_text, stall_text}
use Rattle.rv_explain.specs.Tally.{tally_of_run}
use Rattle.rv_sentences.specs.Stay.{StaysAddUp, all_stays}
use Rattle.rv_sentences.specs.StayLines.{awaited_text, greatest_waits_text, stays_text}
use Rattle.rv_sentences.specs.Untaken.{all_untaken_text}
use Rattle.rv_sentences.specs.Work.{work_text}
use Rattle.rv_sentences.specs.Worst.{worst_text}
use Rattle.rv_explain.specs.declared.{figures.Figures.Figures, running.Tallied.Tallied, tally.Tally.Tally}
use Rattle.rv_sentences.specs.declared.exception.Exception.{Exception}

-- what is kept of cycles from some hardware on that ended for a reason: their counts, how many words were fetched in them or before
-- them, and the tally
abbrev pub tallied_of : Values → List Arrival → Hardware → List Moment → Stop → Tallied
tallied_of values arrivals first moments stop = record {
  stop = stop;
  progress = progress_of (reports_of moments);
  fetched = length (passages_of_run first moments);
  tally = tally_of_run values arrivals first moments;
}

-- a run that ended, and what was kept of it
pub record IsTallied (arrivals : List Arrival) (limit : ℕ) (values : Values) (old new : GuidedHardware)
    (tallied : Tallied) : Type 0 where
  pub moments : List Moment
  pub run : IsEndedRun arrivals limit old moments new tallied.stop
  pub kept : tallied ≡ tallied_of values arrivals old.hardware moments tallied.stop
  pub places_add_up : AddUp old.hardware moments new.hardware
  pub places_are_lost_for : AreLostFor arrivals old.hardware moments
  pub stays_add_up : StaysAddUp old.hardware moments
  pub few : tallied.progress.cycles * new.hardware.values.dispatch_width < 2 ^ 64
  pub few_stays : all_stays tallied.tally.stays < 2 ^ 64

-- the sentences on a run can be written: the cycles on account of all words are no more than there were, nor are those
-- in which a word was awaited, and no sum comes to 2^64
pub record CanBeWritten (h : Hardware) (run : Tallied) : Type 0 where
  pub heads : sum run.tally.heads.words ≤ run.progress.cycles
  pub awaited : sum run.tally.awaited.words ≤ run.progress.cycles
  pub branches : sum run.tally.branches.words < 2 ^ 64
  pub mispredicted : sum run.tally.mispredicted.words < 2 ^ 64
  pub stays : all_stays run.tally.stays < 2 ^ 64
  pub places : run.progress.cycles * h.values.dispatch_width < 2 ^ 64

-- the cycles, and those to each instruction
unfoldable pub cycle_text : Progress → ℕ → List ℕ
cycle_text progress retired =
    count_text progress.cycles retired ++
    (line_of (codes "cycles per instruction") (ratio_text progress.cycles retired) ++
    stall_text progress.cycles progress.busy progress.stalls)

-- the interrupt lines that are high and were never taken
abbrev pub untaken_lines : Hardware → Tally → List ℕ
untaken_lines h tally =
    all_untaken_text tally.raised tally.interrupts (value_of h.csrs h.lines Mstatus) (value_of h.csrs h.lines Mie)

-- what instructions in flight waited for most and what became of most places for dispatch, the lines that were awaited
-- most and stood longest at the head of the reorder buffer, and what became of all places
unfoldable pub lead_text : Listed → Hardware → Tallied → List ℕ
lead_text listing h run =
    greatest_waits_text run.tally.stays ++
    (greatest_places_text run.progress.cycles h.values.dispatch_width (length h.rob.entries) run.tally.places ++
    (awaited_text listing run.progress.cycles run.tally.outcomes run.tally.awaited ++
    (longest_text listing run.progress.cycles run.tally.heads run.tally.outcomes run.tally.stores
    run.tally.branches run.tally.mispredicted ++
    places_text run.progress.cycles h.values.dispatch_width (length h.rob.entries) run.tally.places)))

-- where the cycles went
unfoldable pub cost_text : Listed → Tallied → List ℕ
cost_text listing run =
    cycle_text run.progress run.tally.retired ++ (dispatches_text run.progress.busy run.tally.dispatches.cycles ++
    (work_text run.fetched run.tally.work ++ (worst_text listing run.tally.branches run.tally.mispredicted ++
    (stays_text run.tally.stays ++ (load_text run.tally.loads ++ (drain_text run.tally.drains ++
    hotspots_text listing run.progress.cycles run.tally.idle run.tally.heads run.tally.outcomes run.tally.stores))))))

-- how a run ended, its exceptions, where a program ends, interrupts and lines never taken, what leads to its cause, and
-- where its cycles went
unfoldable pub whole_text : Listed → Hardware → Tallied → List ℕ
whole_text listing h run =
    ending_text listing run.stop h run.tally.last_stores ++
    (stuck_text run.stop h run.tally.exceptions.all run.tally.last_before ++
    (first_way_text listing h run.tally.exceptions.all run.tally.last_before ++
    (exceptions_text listing run.tally.exceptions.all run.tally.exceptions.kinds ++
    (whole_end_text listing (crash_of run.stop run.tally.exceptions.all) run.tally.last_before ++
    (interrupts_text listing run.tally.interrupts ++ (untaken_lines h run.tally ++
    (lead_text listing h run ++ cost_text listing run)))))))

-- the sentences on a run, or on the crash that stands alone
unfoldable pub run_text : Option Exception → Listed → Hardware → Tallied → List ℕ
run_text None listing h run = whole_text listing h run
run_text (Some crash) listing h run =
    crash_text listing h crash run.tally.last_before run.tally.interrupts

-- the sentences on a path, where one is shown
unfoldable pub path_text : Listed → Option Accounted → List ℕ
path_text listing None = []
path_text listing (Some path) = sentences listing path

-- those on a path come first; after a crash its sentences stand alone, unless the figures are asked for
abbrev pub explanation : Figures → Option Accounted → Listed → Hardware → Tallied → List ℕ
explanation figures path listing h run =
    path_text listing path ++ run_text (lone_crash figures run.stop run.tally.exceptions.all) listing h run

-- a text explains a run that ended for a reason, by the hardware that it left, the instructions that left the hardware
-- in it and those in flight at its end, with the sentences on a path, where one is shown; what it says of the places
-- for dispatch adds up, and each is lost for what ended the dispatch phase of its cycle; what it says of the
-- instructions in flight adds up to all cycles of each
pub record IsExplanation (arrivals : List Arrival) (limit : ℕ) (figures : Figures) (values : Values)
    (path : Option Accounted) (listing : Listed) (old new : GuidedHardware) (stop : Stop) (text : List ℕ) : Type 0 where
  pub moments : List Moment
  pub run : IsEndedRun arrivals limit old moments new stop
  pub text_is : text ≡
      explanation figures path listing new.hardware (tallied_of values arrivals old.hardware moments stop)
  pub places_add_up : AddUp old.hardware moments new.hardware
  pub places_are_lost_for : AreLostFor arrivals old.hardware moments
  pub stays_add_up : StaysAddUp old.hardware moments
