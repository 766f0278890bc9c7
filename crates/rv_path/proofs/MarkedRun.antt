-- The marks of a run's path: what a marker has of the cycles so far, and that what is left of the path at the end has
-- all that are marked.
use Rattle.std.proofs.Common.{◌≡◌, ◌⊎◌, ◌∙◌, ℕ, ◌+◌, ◌-◌, ◌^◌, ◌<◌, ◌≤◌, List, []}
use Rattle.std.proofs.Common.{◌∷◌, Option, Some, sym, ap, subst, arith, length}
use Rattle.std.proofs.Common.{length-append, take, inl, inr}
use Rattle.std.proofs.lemmas.Bool.{cases_order}
use Rattle.std.proofs.lemmas.List.{take_all}
use Rattle.rv_isa.specs.declared.lines.Arrival.{Arrival}
use Rattle.rv_arch.specs.declared.outcome.Stop.{Stop}
use Rattle.rv_arch.specs.declared.outcome.Stop.TheVariants as stop
use Rattle.rv_watch.specs.Watching.{Watched, watched, with_shown}
use Rattle.rv_watch.specs.declared.progress.Progress.{Progress}
use Rattle.rv_watch.proofs.Shown.{moments_counted}
use Rattle.rv_drawing.specs.declared.mark.Mark.{Mark}
use Rattle.rv_hardware.specs.Guided.{GuidedHardware}
use Rattle.rv_hardware.specs.Hardware.{Hardware}
use Rattle.rv_hardware.specs.History.{Moment, reports_of}
use Rattle.rv_hardware.specs.Report.{Report}
use Rattle.rv_hardware.specs.Run.{IsStop}
use Rattle.rv_passage.specs.EndedRun.{IsEndedRun}
use Rattle.rv_passage.specs.Passage.{in_flight}
use Rattle.rv_passage.specs.Table.{Passages, still_open, table_at}
use Rattle.rv_passage.specs.Walk.{passages_after}
use Rattle.rv_passage.specs.declared.passage.Passage.{Passage}
use Rattle.rv_passage.proofs.EndedRun.{length-reports_of}
use Rattle.rv_view.specs.Viewing.{IsNextCycle, cycles_seen}
use Rattle.rv_view.specs.declared.shown_cycle.ShownCycle.{ShownCycle}
use Rattle.rv_causes.specs.Event.{nothing_yet}
use Rattle.rv_causes.specs.Keeping.{IsFollowed, IsKnown, known_of_path, made_shown}
use Rattle.rv_causes.specs.Numbering.{IsOneLater, number_by, row_numbers}
use Rattle.rv_causes.specs.Path.{Known, known_of}
use Rattle.rv_causes.specs.Setting.{last_left}
use Rattle.rv_causes.specs.Walk.{path_to}
use Rattle.rv_causes.specs.Window.{kept_events}
use Rattle.rv_causes.specs.WindowFrom.{HasAllMarked, IsNumbering}
use Rattle.rv_causes.specs.declared.{event.Event.Event, numbering.Numbering.Numbering}
use Rattle.rv_causes.specs.declared.{path.Path.Path, point.Point.Point}
use Rattle.rv_path.specs.Marker.{IsMarking}
use Rattle.rv_path.specs.Marking.{IsMarked, marks_of}
use Rattle.rv_path.specs.OnPath.{read_by}
use Rattle.rv_path.specs.declared.marking.Marker.{Marker}
use Rattle.rv_path.proofs.MarksKept.{marks-kept}
use Rattle.rv_path.proofs.Numbers.{length-numbered_from, numbering_kept, numbering_on}
use Rattle.rv_path.proofs.Pathing.{known-shown}
use Rattle.rv_causes.proofs.Unmarked.{has_all_followed, has_all_of, has_all_same, unmarked_begin, unmarked_in_time}
use Rattle.rv_causes.proofs.Within.{comes_in_time}

le_or_lt : (a b : ℕ) → (a ≤ b) ⊎ (b < a)
le_or_lt a b = by_order (cases_order a b) where
  by_order : (a ≡ b) ⊎ ((a < b) ⊎ (b < a)) → (a ≤ b) ⊎ (b < a)
  by_order (inl same) = inl (omega (arith, same))
  by_order (inr (inl less)) = inl (omega (arith, less))
  by_order (inr (inr more)) = inr more

-- no cycle yet
pub marking_nothing : (first : GuidedHardware) (arrivals : List Arrival) (marker : Marker) (rows : List Passage)
    → rows ≡ (table_at first.hardware).rows → length rows ≤ 576
    → IsKnown marker.path (known_of first.hardware []) → marker.cycles ≡ 0
    → marker.numbering.numbers.items ≡ row_numbers rows → marker.numbering.fetched ≡ length rows
    → IsMarking marker (watched arrivals first [] first)
marking_nothing first arrivals marker rows rows_are few path cycles numbers fetched =
    let none : List Moment = [] in
    let begun : take marker.from none ≡ none = take_all marker.from none (omega arith) in
    let table = ap (passages_after still_open first.hardware) begun in
    record {
      path = path;
      cycles = cycles;
      events = has_all_of marker.from marker.path.window (nothing_yet ∷ []) path.window (unmarked_begin marker.from);
      numbering = subst (IsNumbering marker.numbering) (sym table) (record {
        numbers = numbers ∙ ap row_numbers rows_are;
        fetched = fetched ∙ ap length rows_are ∙ length-numbered_from 0 (in_flight first.hardware);
      });
      few = omega (arith, fetched, few);
    }

-- room for one more cycle, where no event is dropped once the window begins
pub marking_still : (marker : Marker) (path' : Path) (seen : Watched) →
    IsKnown path' (known_of seen.first.hardware (cycles_seen seen))
    → (marker.from ≤ marker.cycles → path'.window.events.items ≡ marker.path.window.events.items)
    → IsMarking marker seen → IsMarking (record marker { path = path' }) seen
marking_still marker path' seen path same is = record {
  path = path;
  cycles = is.cycles;
  events = by_cycles (le_or_lt marker.from marker.cycles);
  numbering = is.numbering;
  few = is.few;
} where
  all : List Event
  all = (known_of seen.first.hardware (cycles_seen seen)).events

  by_cycles : (marker.from ≤ marker.cycles) ⊎ (marker.cycles < marker.from) → HasAllMarked marker.from path'.window all
  by_cycles (inl begun) = has_all_same marker.from marker.path.window path'.window all (same begun) is.events
  by_cycles (inr before) =
      has_all_of marker.from path'.window all path.window
      (unmarked_in_time (length seen.moments) marker.from all (omega (arith, before, is.cycles))
      (comes_in_time seen.first.hardware seen.moments).events)

-- the count of what was fetched can go on
pub fits : {seen : Watched} {cycle : ShownCycle} (next : IsNextCycle seen cycle) (marker : Marker) →
    IsMarking marker seen
    → marker.numbering.fetched + 576 < 2 ^ 64
fits {seen = seen} next marker is =
    let counted = moments_counted next.shown.passes in
    omega (arith, is.few, counted, length-reports_of seen.moments, next.shown.number, next.shown.counted)

-- one more cycle
module _ {seen : Watched} {cycle : ShownCycle} (next : IsNextCycle seen cycle) (old new : Marker)
    (is : IsMarking old seen) where
  cycles-is : cycle.progress.now.cycles ≡ length seen.moments + 1
  cycles-is =
      ap (λ (p : Progress). p.cycles) next.shown.progress_is
      ∙ length-append (reports_of seen.moments) (next.shown.report ∷ [])
      ∙ ap (λ n. n + 1) (length-reports_of seen.moments)

  -- the marks are under way after one cycle more
  pub marking_on : new.from ≡ old.from → new.cycles ≡ cycle.progress.now.cycles
      → IsKnown new.path (known_of seen.first.hardware (cycles_seen (with_shown seen next.shown)))
      → IsFollowed (made_shown (read_by cycle) (known_of_path old.path [])) old.path.window new.path.window
      → (new.cycles ≤ old.from →
      IsOneLater cycle.rows.now old.numbering.numbers.items old.numbering.fetched new.numbering.numbers.items
      new.numbering.fetched)
      → (old.from < new.cycles → new.numbering ≡ old.numbering)
      → IsMarking new (with_shown seen next.shown)
  marking_on from cycles path followed later begun = record {
    path = path;
    cycles = now ∙ sym more;
    events = subst (λ (n : ℕ). HasAllMarked n new.path.window events') (sym from)
        (subst (HasAllMarked old.from new.path.window)
        (ap (λ (k : Known). k.events) (known-shown next old.path is.path))
        (has_all_followed old.from made old.path.window new.path.window known.events followed is.events));
    numbering = subst (λ (n : ℕ). IsNumbering new.numbering (begun_at n)) (sym from)
        (by_cycles (le_or_lt new.cycles old.from)).0;
    few = omega (arith, more, (by_cycles (le_or_lt new.cycles old.from)).1, is.few);
  } where
    known : Known
    known = known_of seen.first.hardware (cycles_seen seen)

    made : List Event
    made = made_shown (read_by cycle) (known_of_path old.path [])

    events' : List Event
    events' = (known_of seen.first.hardware (cycles_seen (with_shown seen next.shown))).events

    begun_at : ℕ → Passages
    begun_at n = passages_after still_open seen.first.hardware (take n (with_shown seen next.shown).moments)

    now : new.cycles ≡ length seen.moments + 1
    now = cycles ∙ cycles-is

    more : length (with_shown seen next.shown).moments ≡ length seen.moments + 1
    more = length-append seen.moments (record { report = next.shown.report; after = cycle.hardware.now } ∷ [])

    by_cycles : (new.cycles ≤ old.from) ⊎ (old.from < new.cycles)
        → IsNumbering new.numbering (begun_at old.from) × (new.numbering.fetched ≤ old.numbering.fetched + 576)
    by_cycles (inl before) = (
      numbering_on next old.from old.numbering new.numbering (omega (arith, before, now)) (later before) is.numbering,
      omega (arith, (later before).fetched_are, next.few),
    )
    by_cycles (inr in_it) = (
      numbering_kept next old.from old.numbering new.numbering (omega (arith, in_it, now)) (begun in_it) is.numbering,
      omega (arith, ap (λ (n : Numbering). n.fetched) (begun in_it)),
    )

-- a run that would go on up to a limit that no run comes to
ended-sooner : (limit other cycles : ℕ) (reports : List Report) (new : Hardware) (reason : Stop) →
    length reports ≤ cycles → cycles < limit
    → cycles < other
    → IsStop limit reports new reason → IsStop other reports new reason
ended-sooner limit other cycles reports new stop.Limit few below above stops =
    absurd (omega (arith, few, below, stops.1))
ended-sooner limit other cycles reports new stop.Breakpoint few below above stops = (stops.0, omega (arith, few, above))
ended-sooner limit other cycles reports new (stop.Stale pc) few below above stops = (stops.0, omega (arith, few, above))
ended-sooner limit other cycles reports new stop.Exhausted few below above stops =
    (stops.0, omega (arith, few, above), stops.2)

-- the marks of the run
pub marked_run : {arrivals : List Arrival} {limit from cycles : ℕ} {old new : GuidedHardware} {moments : List
    Moment} {reason : Stop} (marker : Marker) (path : List Event) (marks : List Mark)
    → IsMarking marker (watched arrivals old moments new) → marker.from ≡ from →
    IsEndedRun arrivals limit old moments new reason
    → (from + cycles < 2 ^ 64 → limit ≡ from + cycles) → (2 ^ 64 ≤ from + cycles → limit ≡ 2 ^ 64 - 1) →
    new.hardware.cycle ≤ 2 ^ 40
    → path ≡ path_to (kept_events marker.path.window) (Some (last_left marker.path.before.left).at)
    → marks ≡ marks_of from (number_by marker.numbering.numbers.items marker.numbering.fetched) path
    → IsMarked arrivals from cycles old new marks
marked_run {arrivals} {limit} {from} {cycles} {old} {new} {moments} {reason} marker path marks is from_is run exact
    beyond within path_is marks_are = record {
      moments = moments;
      stop = reason;
      run = ended (le_or_lt (2 ^ 64) (from + cycles));
      marks_are =
          marks_are ∙ ap (marks_of from number) path_is
          ∙ marks-kept from number marker.path.window known.events wanted has
          ∙ (λ i. marks_of from (number_by (numbers i) (fetched i))
          (path_to known.events (Some (last_left (before i).left).at)));
    } where
      known : Known
      known = known_of old.hardware (cycles_seen (watched arrivals old moments new))

      number : ℕ → ℕ
      number = number_by marker.numbering.numbers.items marker.numbering.fetched

      wanted : Option Point
      wanted = Some (last_left marker.path.before.left).at

      has : HasAllMarked from marker.path.window known.events
      has = subst (λ (n : ℕ). HasAllMarked n marker.path.window known.events) from_is is.events

      numbered : IsNumbering marker.numbering (passages_after still_open old.hardware (take from moments))
      numbered = subst (λ (n : ℕ). IsNumbering marker.numbering
          (passages_after still_open old.hardware (take n moments))) from_is is.numbering

      numbers : marker.numbering.numbers.items
          ≡ row_numbers (passages_after still_open old.hardware (take from moments)).rows
      numbers = numbered.numbers

      fetched : marker.numbering.fetched ≡ (passages_after still_open old.hardware (take from moments)).fetched
      fetched = numbered.fetched

      before : marker.path.before ≡ known.before
      before = ap (λ (k : Known). k.before) is.path.known

      few : length (reports_of moments) ≤ 2 ^ 40
      few = omega (arith, moments_counted run.passes, within)

      ended : (2 ^ 64 ≤ from + cycles) ⊎ (from + cycles < 2 ^ 64) →
          IsEndedRun arrivals (from + cycles) old moments new reason
      ended (inl over) = record {
        passes = run.passes;
        stops =
            ended-sooner limit (from + cycles) (2 ^ 40) (reports_of moments) new.hardware reason few
            (omega (arith, beyond over)) (omega (arith, over)) run.stops;
      }
      ended (inr under) = subst (λ (n : ℕ). IsEndedRun arrivals n old moments new reason) (exact under) run
