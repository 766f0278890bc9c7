-- At most `dispatch_width` instructions are dispatched in a cycle.
use Rattle.rv_hardware.proofs.Words.{◌≡◌, ℕ, suc, ◌<◌, ◌≤◌, List, ◌==◌, None, refl, ap, arith, ne_eqb, eqb-true, le-leb}
use Rattle.rv_hardware.proofs.Words.{and_from, Values, Dispatching, dispatch, dispatch_turn, Hardware, NeverMoreThan}
use Rattle.rv_hardware.proofs.Words.{Turn, is_dispatched_in, rows_of, Step, count, count-none, count-push, Leads}
use Rattle.rv_hardware.proofs.Words.{turns_within, each_then}
use Rattle.rv_hardware.proofs.Marks.Cited.{Shows, counted_law, History, sent_all, DispatchTurn, dispatch_turn_is}
use Rattle.rv_hardware.proofs.Marks.Cited.{until_by, is_at, count_in_flight}

-- that a row is dispatched in a cycle shows in its mark
pub dispatched_shows : (v : Values) → Shows v is_dispatched_in (λ c m. is_at c m.dispatched)
dispatched_shows v = grind (arith, eqb-true, and_from, le-leb, until_by)

module _ (now total : ℕ) where
  abbrev DispatchedNow : ℕ → Dispatching → Type 0
  DispatchedNow k d = count (λ e. e.dispatched == now) d.hardware.rob.entries ≤ k

  dispatch_leads : (k : ℕ) {d : Dispatching} {t : Turn Dispatching} → k < total → DispatchTurn d t → DispatchedNow k d →
      Leads (DispatchedNow (suc k)) (DispatchedNow total) t
  dispatch_leads k lt it h = grind (arith, count-push)

  -- where before the phase no entry was dispatched in a cycle, after it at most its width were
  pub dispatch_within : (h : Hardware) → h.values.dispatch_width ≡ total →
      count (λ e. e.dispatched == now) h.rob.entries ≤ 0 →
      count (λ e. e.dispatched == now) (dispatch h).hardware.rob.entries ≤ total
  dispatch_within h width none =
      turns_within total DispatchedNow (DispatchedNow total) dispatch_turn
      (λ k d lt p. dispatch_leads k lt (dispatch_turn_is d) p) (λ d p. p)
      h.values.dispatch_width 0 (record { hardware = h; dispatched = 0; waits_for = None }) (omega (arith, width)) none

-- the field `dispatch_width` of `Laws`, over every history
pub law_of_dispatch_width : {v : Values} {steps : List Step} {h : Hardware} → History v steps h →
    NeverMoreThan v.dispatch_width is_dispatched_in (rows_of steps)
law_of_dispatch_width {v} history =
    counted_law (dispatched_shows v) v.dispatch_width (λ earlier old new lines report before after passed.
    let all = count_in_flight (λ m. is_at old.cycle m.dispatched) passed
    (λ row w. ne_eqb row.dispatched old.cycle (omega (arith, w.stamps.retired_after_dispatch, w.below))) (λ f. refl) in
    let at_start = count-none (λ e. e.dispatched == old.cycle) _
    (each_then (λ e w. ne_eqb e.dispatched old.cycle (omega (arith, w.by_now))) _ passed.sends.basics.entries) in
    let within = dispatch_within old.cycle v.dispatch_width (sent_all lines old)
    (ap (λ (w : Values). w.dispatch_width) passed.sends.basics.always.sizes.values) (omega (arith, at_start)) in
    omega (arith, all, within)) history
