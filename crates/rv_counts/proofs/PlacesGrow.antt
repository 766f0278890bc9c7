-- The places of a run add up, cycle by cycle.
use Rattle.std.proofs.Common.{◌≡◌, ◌∙◌, ℕ, ◌+◌, ◌*◌, ◌≤◌, List, [], ◌∷◌, ◌++◌, length, refl, ap, arith, length-append}
use Rattle.std.proofs.Math.Nat.{add-mul}
use Rattle.std.proofs.lemmas.Nat.{mul-le}
use Rattle.rv_isa.specs.declared.lines.Arrival.{Arrival}
use Rattle.rv_isa.specs.declared.operations.Kind.TheVariants.{Alu, Mul, Div, Mem}
use Rattle.rv_isa.specs.declared.values.Values.{Values}
use Rattle.rv_hardware.specs.Guided.{GuidedHardware}
use Rattle.rv_hardware.specs.Hardware.{Hardware}
use Rattle.rv_hardware.specs.History.{History, Moment, ended, cycled}
use Rattle.rv_hardware.specs.Report.{Report}
use Rattle.rv_hardware.specs.declared.step.Step.{Step}
use Rattle.rv_counts.specs.Places.{AddUp, all_lost, all_places, all_squashed, cycle_total, places_by, places_from}
use Rattle.rv_counts.specs.Places.{places_in, places_of, no_places, with_cycle, with_lost, with_squashed}
use Rattle.rv_counts.specs.declared.run_places.{CyclePlaces.CyclePlaces, Flush.Flush, Loss.Loss}
use Rattle.rv_counts.specs.declared.run_places.{Lost.Lost, Places.Places, Squashed.Squashed}
use Rattle.rv_counts.specs.declared.run_places.Flush.TheVariants as flush
use Rattle.rv_counts.specs.declared.run_places.Loss.TheVariants as loss
use Rattle.rv_counts.proofs.PlacesOfCycle.{ArePlaced}

more_squashed : (f : Flush) (count : ℕ) (s : Squashed) → all_squashed (with_squashed f count s) ≡ all_squashed s + count
more_squashed flush.Prediction count s = omega arith
more_squashed flush.Serialising count s = omega arith
more_squashed flush.Trap count s = omega arith
more_squashed flush.Interrupt count s = omega arith

more_lost : (why : Loss) (count : ℕ) (l : Lost) → all_lost (with_lost why count l) ≡ all_lost l + count
more_lost loss.Fetch count l = omega arith
more_lost loss.Serial count l = omega arith
more_lost loss.Rob count l = omega arith
more_lost (loss.Station Alu) count l = omega arith
more_lost (loss.Station Mul) count l = omega arith
more_lost (loss.Station Div) count l = omega arith
more_lost (loss.Station Mem) count l = omega arith
more_lost loss.Store count l = omega arith

-- one more cycle brings its own
pub more_places : (c : CyclePlaces) (p : Places) → all_places (with_cycle c p) ≡ all_places p + cycle_total c
more_places c p = omega (arith, more_squashed c.flush c.squashed p.squashed, more_lost c.loss c.lost p.lost)

places_from-push : {arrivals : List Arrival} {old now : GuidedHardware} {moments : List Moment} (p : Places)
    (moment : Moment) → History arrivals old moments now
    → places_from p old.hardware (moments ++ moment ∷ [])
    ≡ with_cycle (places_in now.hardware moment) (places_from p old.hardware moments)
places_from-push p moment ended = refl
places_from-push {old = old} p moment (cycled {moment = first} cycle rest) =
    places_from-push (with_cycle (places_in old.hardware first) p) moment rest

-- one more cycle
pub places_of-push : {arrivals : List Arrival} {old now : GuidedHardware} {moments : List Moment} (moment : Moment) →
    History arrivals old moments now
    → places_of old.hardware (moments ++ moment ∷ [])
    ≡ with_cycle (places_in now.hardware moment) (places_of old.hardware moments)
places_of-push moment passes = places_from-push no_places moment passes

-- no cycle has no place
pub add_up_nothing : (h : Hardware) → AddUp h [] h
add_up_nothing h = omega arith

-- one more cycle, whose places add up
pub add_up-push : {arrivals : List Arrival} {old now : GuidedHardware} {moments : List Moment} (moment : Moment) →
    History arrivals old moments now
    → ArePlaced now.hardware moment.report moment.after → AddUp old.hardware moments now.hardware →
    AddUp old.hardware (moments ++ moment ∷ []) moment.after
add_up-push {old = old} {now = now} {moments = moments} moment passes placed add_up =
    let width : ℕ = now.hardware.values.dispatch_width in
    let same : moment.after.values.dispatch_width ≡ width = ap (λ (v : Values). v.dispatch_width) placed.values in
    let all : all_places (places_of old.hardware (moments ++ moment ∷ [])) ≡ all_places (places_of old.hardware moments)
    + cycle_total (places_in now.hardware moment) =
    ap all_places (places_of-push moment passes)
    ∙ more_places (places_in now.hardware moment) (places_of old.hardware moments) in
    let one_more : length (moments ++ moment ∷ []) ≡ length moments + 1 = length-append moments (moment ∷ []) in
    let times : length (moments ++ moment ∷ []) * moment.after.values.dispatch_width ≡ length moments * width + width =
    (λ i. one_more i * same i) ∙ add-mul (length moments) 1 width ∙ omega arith in
    omega (arith, all, times, add_up, placed.add_up, same)

-- in so many cycles there are no more
pub places_counted : (first : Hardware) (moments : List Moment) (last : Hardware) → AddUp first moments last →
    last.values.dispatch_width ≤ 8 → length first.rob.entries ≤ 256
    → all_places (places_of first moments) ≤ length moments * 8 + 256
places_counted first moments last add_up wide few =
    omega (arith, add_up, few, mul-le (length moments) last.values.dispatch_width (length moments) 8 (omega arith) wide)

-- the places of a cycle, by what is seen after it
module _ {old new : Hardware} {report : Report} (placed : ArePlaced old report new) (cycle before : ℕ)
    (steps : List Step) (number : cycle ≡ old.cycle) (in_flight : before ≡ length old.rob.entries)
    (steps_are : steps ≡ report.steps) where
  -- what is counted of a cycle that is shown are its places
  pub places_seen : places_by new.values cycle before steps new.rob new.front
      ≡ places_in old (record { report = report; after = new })
  places_seen = grind arith

  -- they are few
  pub few_seen : before ≤ 256 → cycle_total (places_by new.values cycle before steps new.rob new.front) ≤ 264
  few_seen few = omega (arith, ap cycle_total places_seen, placed.add_up, placed.wide, in_flight, few)
