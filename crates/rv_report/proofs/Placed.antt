-- What becomes of the places of a run that is compared with others: of no cycle, with one cycle more, and at the end.
use Rattle.std.proofs.Common.{◌≡◌, ◌∙◌, ℕ, ◌≤◌, Bool, true, false, cond, List, [], ◌∷◌}
use Rattle.std.proofs.Common.{◌++◌, length, Option, Some, None, refl, sym, ap, subst, arith}
use Rattle.std.specs.Prelude.{IfSome}
use Rattle.std.specs.Option.{option_map}
use Rattle.rv_isa.specs.declared.{lines.Arrival.Arrival, values.Values.Values}
use Rattle.rv_front.specs.FetchBuffer.{FetchBuffer}
use Rattle.rv_rob.specs.ReorderBuffer.{ReorderBuffer}
use Rattle.rv_hardware.specs.Guided.{GuidedHardware}
use Rattle.rv_hardware.specs.Hardware.{Hardware}
use Rattle.rv_hardware.specs.History.{Moment}
use Rattle.rv_hardware.specs.declared.step.Step.{Step}
use Rattle.rv_hardware.proofs.AnyPrediction.{any_cycle}
use Rattle.rv_watch.specs.Watching.{IsShown, Watched, watched, with_shown}
use Rattle.rv_watch.specs.declared.progress.Progress.{Progress}
use Rattle.rv_watch.proofs.Shown.{moments_counted}
use Rattle.rv_passage.proofs.EndedRun.{length-reports_of}
use Rattle.rv_counts.specs.Places.{CanPlace, placed_after, places_of, run_places, with_cycle}
use Rattle.rv_counts.specs.declared.run_places.RunPlaces.{RunPlaces}
use Rattle.rv_counts.proofs.PlacesGrow.{add_up-push, add_up_nothing, few_seen}
use Rattle.rv_counts.proofs.PlacesGrow.{places_counted, places_of-push, places_seen}
use Rattle.rv_counts.proofs.PlacesOfCycle.{ArePlaced, placed}
use Rattle.rv_report.specs.Shown.{places_shown}
use Rattle.rv_report.specs.Tally.{HasPlaced}
use Rattle.rv_report.specs.declared.shown.{Columns.Columns, Shown.Shown}

-- something else, where a test is passed
passed : {X : Type 0} (test : Bool) (x y : X) → option_map (λ (z : X). y) (cond test (Some x) None)
    ≡ cond test (Some y) None
passed true x y = refl
passed false x y = refl

-- no cycle yet
pub placed_nothing : (arrivals : List Arrival) (shown : Columns (Option Shown)) (h : GuidedHardware)
    (places : Option RunPlaces) → places ≡ places_shown shown h.hardware [] h.hardware
    → length h.hardware.rob.entries ≤ 256 → HasPlaced places places (watched arrivals h [] h)
placed_nothing arrivals shown h places begun few = grind (arith, placed, passed, add_up_nothing)

-- one more cycle
module _ {seen : Watched} {cycle : ℕ} {steps : List Step} {after : Hardware} {progress : Progress}
    (shown : IsShown seen cycle steps after progress)
    {start places : Option RunPlaces} (has : HasPlaced start places seen) where
  abbrev moment : Moment
  moment = record { report = shown.report; after = after }

  abbrev so_far : RunPlaces
  so_far = run_places seen.first.hardware seen.moments seen.now.hardware

  -- its places add up
  placed_now : ArePlaced seen.now.hardware shown.report after
  placed_now = placed shown.reached (any_cycle shown.cycled.cycle)

  countable : length after.rob.entries ≤ 256 → CanPlace after.values cycle steps after.rob after.front so_far
  countable few =
      let wide = ap (λ (v : Values). v.dispatch_width) placed_now.values in
      let few_places : seen.now.hardware.values.dispatch_width ≤ 8 = omega (arith, wide, placed_now.wide) in
      let counted =
      places_counted seen.first.hardware seen.moments seen.now.hardware has.places_add_up few_places has.few_before in
      let more = few_seen placed_now cycle (length seen.now.hardware.rob.entries) steps shown.number refl
      shown.steps_are has.few_in_flight in
      record {
        before = has.few_in_flight;
        after = few;
        room = omega (
          arith,
          counted,
          more,
          length-reports_of seen.moments,
          moments_counted shown.passes,
          shown.number,
          shown.counted,
        );
      }

  module _ (values : Values) (rob : ReorderBuffer) (front : FetchBuffer) (values_are : values ≡ after.values)
      (rob_is : rob ≡ after.rob) (front_is : front ≡ after.front)
      (few : length after.rob.entries ≤ 256) where
    countable_by : CanPlace values cycle steps rob front so_far
    countable_by = grind (arith, countable)

    where_counted : (o : Option RunPlaces) →
        IfSome (option_map (λ (p : RunPlaces). so_far) o) (CanPlace values cycle steps rob front)
    where_counted None = tt
    where_counted (Some begun) = countable_by

    -- it can be counted
    pub can_place : IfSome places (CanPlace values cycle steps rob front)
    can_place = subst (λ (o : Option RunPlaces). IfSome o (CanPlace values cycle steps rob front))
        (sym has.placed) (where_counted start)

    next : placed_after after.values cycle steps after.rob after.front so_far
        ≡ run_places seen.first.hardware (seen.moments ++ moment ∷ []) after
    next =
        let places_now = places_seen placed_now cycle (length seen.now.hardware.rob.entries) steps shown.number
        refl shown.steps_are in
        let added = ap (λ c. with_cycle c (places_of seen.first.hardware seen.moments)) places_now
        ∙ sym (places_of-push moment shown.passes) in
        λ i. record { places = added i; in_flight = length after.rob.entries }

    one_more : (o : Option RunPlaces) →
        option_map (placed_after after.values cycle steps after.rob after.front)
        (option_map (λ (p : RunPlaces). so_far) o)
        ≡ option_map (λ (p : RunPlaces). run_places seen.first.hardware (seen.moments ++ moment ∷ []) after) o
    one_more None = refl
    one_more (Some begun) = ap Some next

    -- and is
    pub placed_on : (places' : Option RunPlaces) →
        places' ≡ option_map (placed_after values cycle steps rob front) places →
        HasPlaced start places' (with_shown seen shown)
    placed_on places' is = record {
      placed = is ∙ (λ i. option_map (placed_after (values_are i) cycle steps (rob_is i) (front_is i)) (has.placed i))
          ∙ one_more start;
      places_add_up = add_up-push moment shown.passes placed_now has.places_add_up;
      few_before = has.few_before;
      few_in_flight = few;
    }

-- what became of the places of a run that ended
pub placed_at_end : {arrivals : List Arrival} {old new : GuidedHardware} {moments : List Moment}
    (shown : Columns (Option Shown)) (start places : Option RunPlaces) →
    start ≡ places_shown shown old.hardware [] old.hardware
    → HasPlaced start places (watched arrivals old moments new) →
    places ≡ places_shown shown old.hardware moments new.hardware
placed_at_end {old = old} {new = new} {moments = moments} shown start places begun has = grind arith
