-- The places of a cycle are lost for what ended its dispatch phase.
use Rattle.std.proofs.Common.{◌≡◌, ◌∙◌, ◌⊎◌, ℕ, suc, ◌^◌, ◌<◌, ◌≤◌, Bool, true, false, cond, List, [], ◌∷◌, ◌++◌}
use Rattle.std.proofs.Common.{Option, Some, None, inl, inr, refl, ap, sym, arith, lt-ltb, le-ltb}
use Rattle.std.specs.List.{slice_get}
use Rattle.rv_isa.specs.Arrivals.{lines_at}
use Rattle.rv_isa.specs.declared.{lines.Arrival.Arrival, lines.Lines.Lines, operations.Kind.Kind, values.Values.Values}
use Rattle.rv_cache.specs.WriteBack.{Each}
use Rattle.rv_front.specs.declared.fetched.Fetched.{Fetched}
use Rattle.rv_hardware.specs.Cycle.{IsCycle, any_prediction}
use Rattle.rv_hardware.specs.Dispatch.{Dispatching, dispatch, dispatch_turn, dispatch_turn_of}
use Rattle.rv_hardware.specs.Dispatch.{dispatch_unless, has_full_stations, reason_of}
use Rattle.rv_hardware.specs.Guided.{GuidedHardware}
use Rattle.rv_hardware.specs.Hardware.{Hardware}
use Rattle.rv_hardware.specs.History.{History, Moment, ended, cycled}
use Rattle.rv_hardware.specs.Report.{Report}
use Rattle.rv_hardware.specs.Run.{Reachable, by_cycle}
use Rattle.rv_hardware.specs.declared.report.Stall.{Stall}
use Rattle.rv_hardware.specs.declared.report.Stall.TheVariants as stall
use Rattle.rv_hardware.proofs.AnyPrediction.{any_cycle}
use Rattle.rv_hardware.proofs.Marks.History.{Anything, Passed, dispatching, history_passes}
use Rattle.rv_hardware.proofs.Marks.History.{reachable_has_history, sent_all}
use Rattle.rv_hardware.proofs.Marks.Sound.{SoundFetched}
use Rattle.rv_hardware.proofs.Repeated.{Leads, turns_within}
use Rattle.rv_hardware.proofs.Turns.Fetch.{IsNew}
use Rattle.rv_counts.specs.Places.{AreLostFor, awaited_in, loss_by, loss_in, loss_of, loss_of_kind, places_in}
use Rattle.rv_counts.specs.Places.{stall_for}
use Rattle.rv_counts.specs.declared.run_places.Loss.{Loss}
use Rattle.rv_counts.specs.declared.run_places.Loss.TheVariants as loss

-- an instruction waits for nothing, or for this
abbrev IsReason : Option Stall → Loss → Type 0
IsReason o why = (o ≡ None) ⊎ (o ≡ Some (stall_for why))

by_queue : (full : Bool) → IsReason (cond full (Some stall.Store) None) loss.Store
by_queue true = inr refl
by_queue false = inl refl

by_kind : (h : Hardware) (full : Bool) (k : Option Kind) →
    IsReason (cond (has_full_stations h k) (Some stall.Station) (cond full (Some stall.Store) None))
    (loss_of_kind h.values h.rob k)
by_kind h full None = by_queue full
by_kind h full (Some kind) = by_stations (has_full_stations h (Some kind)) where
  by_stations : (no_room : Bool) →
      IsReason (cond no_room (Some stall.Station) (cond full (Some stall.Store) None))
      (cond no_room (loss.Station kind) loss.Store)
  by_stations true = inr refl
  by_stations false = by_queue full

by_test : (test : Bool) (first : Stall) (o : Option Stall) (why why' : Loss) → stall_for why ≡ first → IsReason o why' →
    IsReason (cond test (Some first) o) (cond test why why')
by_test true first o why why' is rest = inr (ap Some (sym is))
by_test false first o why why' is rest = rest

reason_is : (h : Hardware) (f : Fetched) → IsReason (reason_of h f) (loss_of h.values h.rob f.instruction)
reason_is h f = grind arith

-- what the oldest of some words waits for
abbrev first_loss : Hardware → List Fetched → Loss
first_loss h [] = loss.Fetch
first_loss h (f ∷ fs) = loss_of h.values h.rob f.instruction

module _ (width : ℕ) where
  -- the phase used its width, or the oldest word waits
  abbrev Ended : Dispatching → Type 0
  Ended d = (width ≤ d.dispatched) ⊎ (d.waits_for ≡ Some (stall_for (first_loss d.hardware d.hardware.front.entries)))

  abbrev After : ℕ → Dispatching → Type 0
  After k d = d.dispatched ≡ k

  by_reason : (k : ℕ) (d : Dispatching) (f : Fetched) (fs : List Fetched) → d.hardware.front.entries ≡ f ∷ fs →
      After k d → (o : Option Stall) → IsReason o (loss_of d.hardware.values d.hardware.rob f.instruction)
      → Leads (After (suc k)) Ended (dispatch_unless o f fs d)
  by_reason k d f fs at count None is = omega (arith, count)
  by_reason k d f fs at count (Some s) (inl none) = absurd (cc)
  by_reason k d f fs at count (Some s) (inr is) =
      inr (is ∙ sym (ap (λ words. Some (stall_for (first_loss d.hardware words))) at))

  turn_ends : (k : ℕ) (d : Dispatching) (fs : List Fetched) → d.hardware.front.entries ≡ fs → After k d →
      Leads (After (suc k)) Ended (dispatch_turn_of fs d)
  turn_ends k d [] none count = inr (sym (ap (λ words. Some (stall_for (first_loss d.hardware words))) none))
  turn_ends k d (f ∷ fs) at count = by_reason k d f fs at count (reason_of d.hardware f) (reason_is d.hardware f)

  phase_ends : (h : Hardware) → h.values.dispatch_width ≡ width → Ended (dispatch h)
  phase_ends h is =
      turns_within width After Ended dispatch_turn (λ k d lt count. turn_ends k d d.hardware.front.entries refl count)
      (λ d count. inl (omega (arith, count)))
      h.values.dispatch_width 0 (record { hardware = h; dispatched = 0; waits_for = None }) (omega (arith, is)) refl

-- the words that a cycle fetches come after those that wait for their dispatch
first_is : (now : ℕ) (h : Hardware) (fs added : List Fetched) → Each (SoundFetched now) fs → Each (IsNew now) added →
    loss_by now h.values h.rob (slice_get (fs ++ added) 0) ≡ first_loss h fs
first_is now h [] [] sound new = refl
first_is now h [] (f ∷ added) sound new = rw (le-ltb f.cycle now (omega (arith, new.0.0))) refl
first_is now h (f ∷ fs) added sound new = rw (lt-ltb f.cycle now sound.0.0) refl

module _ (arrivals : List Arrival) {old new : Hardware} {report : Report} (reached : Reachable old)
    (cycle : IsCycle any_prediction (lines_at arrivals old.cycle) old report new) where
  one_reason : 0 < (places_in old (record { report = report; after = new })).lost →
      awaited_in arrivals old ≡ Some (stall_for (loss_in old.cycle new.values new.rob new.front))
  one_reason lost =
      let lines : Lines = lines_at arrivals old.cycle in
      let before = reachable_has_history reached in
      let v : Values = before.0 in
      let passed : Passed v Anything before.1 lines old report new = history_passes v before.2 cycle in
      let d : Dispatching = dispatching lines old in
      let described = ap (λ (w : Values). w.dispatch_width) passed.sends.basics.always.sizes.values in
      let width = ap (λ (w : Values). w.dispatch_width) passed.ends.always.sizes.values in
      let same : loss_in old.cycle new.values new.rob new.front ≡ first_loss d.hardware d.hardware.front.entries =
      ap (λ (h : Hardware). loss_by old.cycle h.values h.rob (slice_get new.front.entries 0)) passed.others_stay
      ∙ ap (λ words. loss_by old.cycle d.hardware.values d.hardware.rob (slice_get words 0)) passed.fetches.entries
      ∙ first_is old.cycle d.hardware d.hardware.front.entries passed.fetches.added passed.dispatches.basics.fetched
      passed.fetches.are_new in
      elim (phase_ends v.dispatch_width (sent_all lines old) described) [
        | inl wide ↦ absurd (omega (arith, wide, lost, width, passed.report_is.0))
        | inr is ↦ is ∙ ap (λ why. Some (stall_for why)) (sym same)
      ]

cycles_on : {arrivals : List Arrival} {old new : GuidedHardware} {moments : List Moment} →
    History arrivals old moments new → old.hardware.cycle ≤ new.hardware.cycle
cycles_on ended = omega arith
cycles_on (cycled cycle rest) = omega (arith, ap (λ (h : Hardware). h.cycle) cycle.cycle.others_stay, cycles_on rest)

-- those of a whole run
pub lost_for : {arrivals : List Arrival} {old new : GuidedHardware} {moments : List Moment} → Reachable old.hardware →
    History arrivals old moments new → new.hardware.cycle ≤ 2 ^ 40 → AreLostFor arrivals old.hardware moments
lost_for reached ended within = tt
lost_for {arrivals} reached (cycled cycle rest) within = (
  one_reason arrivals reached (any_cycle cycle.cycle),
  lost_for
      (by_cycle reached
      (omega (arith, within, ap (λ (h : Hardware). h.cycle) cycle.cycle.others_stay, cycles_on rest))
      (any_cycle cycle.cycle)) rest within,
)
