-- A run that is tallied as its cycles come: what was kept so far, one cycle more, and the end.
use Rattle.std.proofs.Common.{◌≡◌, ◌∙◌, ℕ, ◌+◌, ◌*◌, ◌^◌, ◌<◌, ◌≤◌, List, [], ◌∷◌, ◌++◌}
use Rattle.std.proofs.Common.{length, length-append, Option, sym, ap, subst, arith}
use Rattle.std.proofs.lemmas.Nat.{mul-le}
use Rattle.rv_isa.specs.declared.lines.{Arrival.Arrival, Lines.Lines}
use Rattle.rv_isa.specs.PerKind.{at_kind}
use Rattle.rv_isa.specs.declared.operations.Kind.TheVariants.{Mem}
use Rattle.rv_units.specs.Pool.{is_free}
use Rattle.std.specs.Prelude.{true}
use Rattle.rv_isa.specs.declared.values.Values.{Values}
use Rattle.rv_arch.specs.declared.outcome.Stop.{Stop}
use Rattle.rv_watch.specs.Progress.{progress_of}
use Rattle.rv_watch.specs.Watching.{Watched, watched, with_shown}
use Rattle.rv_watch.specs.declared.progress.Progress.{Progress}
use Rattle.rv_watch.proofs.Shown.{cycle_counts, moments_counted}
use Rattle.rv_hardware.specs.Draining.{drain_end, new_drain_cost}
use Rattle.rv_hardware.specs.Guided.{GuidedHardware}
use Rattle.rv_hardware.specs.History.{Moment, reports_of}
use Rattle.rv_hardware.specs.Run.{Reachable}
use Rattle.rv_hardware.proofs.Always.Sound.{sound}
use Rattle.rv_hardware.proofs.AnyPrediction.{any_cycle}
use Rattle.rv_passage.specs.EndedRun.{IsEndedRun}
use Rattle.rv_passage.specs.Followed.{HasOpen}
use Rattle.rv_passage.specs.Table.{Passages, after_cycle, passages_of, still_open}
use Rattle.rv_passage.specs.Walk.{passages_after}
use Rattle.rv_passage.specs.declared.{passage.Passage.Passage, table.Table.Table}
use Rattle.rv_passage.proofs.EndedRun.{length-reports_of}
use Rattle.rv_counts.specs.Left.{left_after, passages_of_run}
use Rattle.rv_counts.proofs.Left.{left-push, some_left-push}
use Rattle.rv_sentences.specs.Drain.{drain_in}
use Rattle.rv_explain.specs.AtEnd.{AreAtEnd}
use Rattle.rv_explain.specs.Explanation.{IsTallied}
use Rattle.rv_explain.specs.Tally.{HasRoom, IsOfNoCycle, IsTallying, tally_after, tally_of}
use Rattle.rv_counts.specs.Places.{cycle_total, places_by, places_in}
use Rattle.rv_sentences.specs.Stay.{all_stays}
use Rattle.rv_counts.specs.declared.run_places.CyclePlaces.{CyclePlaces}
use Rattle.rv_explain.specs.declared.tally.Tally.{Tally}
use Rattle.rv_sentences.proofs.DrainBegins.{begun_in_cycle}
use Rattle.rv_counts.proofs.LossReasons.{lost_for}
use Rattle.rv_counts.proofs.PlacesGrow.{add_up-push, add_up_nothing, few_seen, places_counted, places_seen}
use Rattle.rv_counts.proofs.PlacesOfCycle.{ArePlaced, placed}
use Rattle.rv_sentences.proofs.StaysGrow.{few_more_stays, stays_add_up}
use Rattle.rv_explain.proofs.AtEnd.{at_end}
use Rattle.rv_explain.proofs.Tallies.{has_room, tally-push}
use Rattle.rv_view.specs.Viewing.{IsNextCycle}
use Rattle.rv_view.specs.declared.shown_cycle.ShownCycle.{ShownCycle}

-- no cycle yet
pub nothing_tallied : (values : Values) (arrivals : List Arrival) (h : GuidedHardware) (tally : Tally)
    (registers : List ℕ) (end : Option ℕ) (in_flight : ℕ) → IsOfNoCycle values tally
    → registers ≡ h.hardware.registers → end ≡ drain_end h.hardware → in_flight ≡ length h.hardware.rob.entries →
    in_flight ≤ 256 → IsTallying tally tally registers end in_flight (watched arrivals h [] h)
nothing_tallied values arrivals h tally registers end in_flight of_no_cycle registers_are end_is in_flight_is few =
    record {
      values = values;
      some_left = omega arith;
      of_no_cycle = of_no_cycle arrivals h.hardware;
      tallied = λ by is. is;
      few_stays = omega (arith, ap (λ (t : Tally). all_stays t.stays) (of_no_cycle arrivals h.hardware));
      registers_are = registers_are;
      end_is = end_is;
      in_flight_is = in_flight_is;
      few_in_flight = few;
      few_before = omega (arith, in_flight_is, few);
      places_add_up = add_up_nothing h.hardware;
    }

-- one more cycle
module _ {seen : Watched} {cycle : ShownCycle}
    (next : IsNextCycle seen cycle) {first tally : Tally} {registers : List ℕ} {end : Option ℕ} {in_flight : ℕ}
    (tallying : IsTallying first tally registers end in_flight seen) where
  abbrev moment : Moment
  moment = record { report = next.shown.report; after = cycle.hardware.now }

  -- its places add up
  placed_now : ArePlaced seen.now.hardware next.shown.report cycle.hardware.now
  placed_now = placed next.shown.reached (any_cycle next.shown.cycled.cycle)

  abbrev pub places_now : CyclePlaces
  places_now = places_by cycle.hardware.now.values cycle.number in_flight cycle.steps.now cycle.hardware.now.rob
      cycle.hardware.now.front

  places_are : places_now ≡ places_in seen.now.hardware moment
  places_are = places_seen placed_now cycle.number in_flight cycle.steps.now next.shown.number
      tallying.in_flight_is next.shown.steps_are

  -- those of a cycle are few
  pub few_places : cycle_total places_now ≤ 264
  few_places =
      few_seen placed_now cycle.number in_flight cycle.steps.now next.shown.number tallying.in_flight_is
      next.shown.steps_are tallying.few_in_flight

  -- its steps and passages can be counted
  pub room : HasRoom tally (length cycle.steps.now) (length cycle.rows.now)
  room =
      let shown = next.shown in
      let more = length cycle.steps.now in
      let rows = length cycle.rows.now in
      let counted = moments_counted shown.passes in
      subst (λ (t : Tally). HasRoom t more rows) (sym (tallying.tallied tallying.values tallying.of_no_cycle))
      (has_room tallying.values seen.arrivals seen.first.hardware seen.moments
      (left_after seen.first.hardware seen.moments) more rows
      (omega (arith, shown.few_before, counted, shown.number, shown.counted))
      (omega (arith, length-reports_of seen.moments, counted, shown.number, shown.counted))
      (omega (
        arith,
        places_counted seen.first.hardware seen.moments seen.now.hardware tallying.places_add_up
            (omega (arith, ap (λ (v : Values). v.dispatch_width) placed_now.values, placed_now.wide))
            tallying.few_before,
        length-reports_of seen.moments,
        counted,
        shown.number,
        shown.counted,
      ))
      (omega (arith, tallying.some_left, shown.number, shown.counted)) shown.few next.few
      (omega (
        arith,
        tallying.few_stays,
        ap (λ (t : Tally). all_stays t.stays)
            (tallying.tallied tallying.values tallying.of_no_cycle),
        shown.number,
        shown.counted,
      )))

  -- its passages are those at its end
  pub ended : AreAtEnd cycle.number cycle.hardware.now cycle.rows.now
  ended =
      let number = seen.now.hardware.cycle in
      let steps = next.shown.report.steps in
      let after = cycle.hardware.now in
      let kept = passages_after still_open seen.first.hardware seen.moments in
      subst (AreAtEnd cycle.number after) (sym next.rows_are)
      (subst (λ n. AreAtEnd n after (after_cycle number steps after kept).rows) (sym next.shown.number)
      (at_end number steps after kept))

  -- and are tallied
  pub tallied_on : (drain : Option ℕ) (tally' : Tally) (registers' : List ℕ) (end' : Option ℕ) (in_flight' : ℕ)
      (places : CyclePlaces) (lines : Lines) → lines ≡ cycle.hardware.now.lines → places ≡ places_now →
      drain ≡ new_drain_cost cycle.number end end'
      → tally' ≡ tally_after cycle.number registers cycle.steps.now places drain lines cycle.hardware.now cycle.rows.now
      tally → registers' ≡ cycle.hardware.now.registers → end' ≡ drain_end cycle.hardware.now
      → in_flight' ≡ length cycle.hardware.now.rob.entries → in_flight' ≤ 256 →
      IsTallying first tally' registers' end' in_flight' (with_shown seen next.shown)
  tallied_on drain tally' registers' end' in_flight' places lines lines_are places_is drain_is added registers_are
      end_is in_flight_is few =
      let shown = next.shown in
      let steps = cycle.steps.now in
      let after = cycle.hardware.now in
      let rows = cycle.rows.now in
      let drain_now : drain ≡ drain_in seen.arrivals seen.now.hardware =
      drain_is ∙ (λ i. new_drain_cost (shown.number i) (tallying.end_is i) (end_is i))
      ∙ begun_in_cycle shown.reached (any_cycle shown.cycled.cycle) in
      let placed_as : places ≡ places_in seen.now.hardware moment = places_is ∙ places_are in
      let free = is_free cycle.number (at_kind Mem after.units) in
      let one_more = cycle_counts shown.cycled in
      let left = left_after seen.first.hardware seen.moments in
      record {
        values = tallying.values;
        some_left = some_left-push shown.passes moment next.rows_are next.few
            (cycle_counts shown.cycled) tallying.some_left;
        of_no_cycle = tallying.of_no_cycle;
        tallied = λ by is.
            added ∙ (λ i. tally_after (shown.number i) (tallying.registers_are i) (shown.steps_are i) (placed_as i)
            (drain_now i) (lines_are i) after rows (tallying.tallied by is i)) ∙
            tally-push by moment rows left shown.passes next.rows_are ∙
            ap (tally_of by seen.arrivals seen.first.hardware (seen.moments ++ moment ∷ []))
            (sym (left-push shown.passes moment next.rows_are));
        few_stays =
            omega (
              arith,
              ap (λ (t : Tally). all_stays t.stays) added,
              few_more_stays cycle.number free true rows
                  tally.stays,
              tallying.few_stays,
              next.few,
              one_more,
            );
        registers_are = registers_are;
        end_is = end_is;
        in_flight_is = in_flight_is;
        few_in_flight = few;
        few_before = tallying.few_before;
        places_add_up = add_up-push moment shown.passes placed_now tallying.places_add_up;
      }

-- the end of a run, at which a table has what is in flight
module _ {arrivals : List Arrival} {old new : GuidedHardware} {moments : List Moment} {first
    tally : Tally} {registers : List ℕ} {end : Option ℕ} {in_flight : ℕ} {table : Table}
    (tallying : IsTallying first tally registers end in_flight (watched arrivals old moments new))
    (kept : HasOpen old.hardware moments new.hardware table) where
  left_are : tally.work.left ≡ length (left_after old.hardware moments)
  left_are = ap (λ (t : Tally). t.work.left) (tallying.tallied tallying.values tallying.of_no_cycle)

  -- so can the places of all its cycles
  pub places_of_all : {limit : ℕ} {stop : Stop} {progress : Progress} → IsEndedRun arrivals limit old moments new stop →
      progress ≡ progress_of (reports_of moments)
      → new.hardware.cycle ≤ 2 ^ 40 → Reachable new.hardware →
      progress.cycles * new.hardware.values.dispatch_width < 2 ^ 64
  places_of_all {progress = progress} run counted within reached = grind (arith, moments_counted, sound, mul-le)

  -- all that was fetched can be counted
  pub fetched_counted : (rows : List Passage) → rows ≡ (passages_of table).rows → new.hardware.cycle ≤ 2 ^ 40 →
      tally.work.left + length rows < 2 ^ 64
  fetched_counted rows rows_are within =
      omega (arith, left_are, tallying.some_left, kept.few, ap length rows_are, within)

  -- what was kept of the run
  pub tallied_to_the_end : {limit : ℕ} {values : Values} {stop : Stop} {progress : Progress} →
      IsEndedRun arrivals limit old moments new stop
      → progress ≡ progress_of (reports_of moments) → IsOfNoCycle values first → (rows : List Passage) →
      rows ≡ (passages_of table).rows
      → progress.cycles * new.hardware.values.dispatch_width < 2 ^ 64 → Reachable old.hardware →
      new.hardware.cycle ≤ 2 ^ 40
      → IsTallied arrivals limit values old new
      (record { stop = stop; progress = progress; fetched = tally.work.left + length rows; tally = tally })
  tallied_to_the_end {values = values} {stop = stop} run counted of_no_cycle rows rows_are few reached within =
      let open_rows : rows ≡ (passages_after still_open old.hardware moments).rows = rows_are
      ∙ ap (λ (t : Passages). t.rows) kept.followed.passages in
      let fetched_are : tally.work.left + length rows ≡ length (passages_of_run old.hardware moments) =
      omega (
        arith,
        left_are,
        ap length open_rows,
        length-append (passages_after still_open old.hardware moments).rows
            (left_after old.hardware moments),
      ) in
      let tally_is = tallying.tallied values (of_no_cycle arrivals old.hardware) in
      record {
        moments = moments;
        run = run;
        kept = λ i. record { stop = stop; progress = counted i; fetched = fetched_are i; tally = tally_is i };
        places_add_up = tallying.places_add_up;
        places_are_lost_for = lost_for reached run.passes within;
        stays_add_up = stays_add_up old.hardware moments;
        few = few;
        few_stays = omega (arith, tallying.few_stays, within);
      }
