-- The dispatch phase keeps what the dispatch of one fetched word keeps.
use Rattle.rv_hardware.proofs.Words.{◌≡◌, ℕ, List, ◌∷◌, Fetched, Dispatching, dispatch, dispatch_turn, with_dispatched}
use Rattle.rv_hardware.proofs.Words.{Hardware, Turn, repeated, Leaves, kept_by_turns}
use Rattle.rv_hardware.proofs.Turns.Dispatch.{DispatchTurn, WaitsForNothing, dispatches as dispatched, dispatch_turn_is}

module _ (P : Hardware → Type 0) where
  -- the dispatch of one fetched word keeps the property
  pub record IsKeptByDispatch : Type 0 where
    pub dispatches : (h : Hardware) (fetched : Fetched) (rest : List Fetched) → P h → h.front.entries ≡ fetched ∷ rest →
        WaitsForNothing h fetched → P (with_dispatched fetched rest h)

module _ {P : Hardware → Type 0} (kept : IsKeptByDispatch P) where
  abbrev Holds : Dispatching → Type 0
  Holds d = P d.hardware

  turn-keeps : {d : Dispatching} {t : Turn Dispatching} → DispatchTurn d t → Holds d → Leaves Holds t
  turn-keeps {d} (dispatched f fs at nothing) holds = kept.dispatches d.hardware f fs holds at nothing
  turn-keeps _ holds = holds

  -- so the turns of the dispatch phase keep it
  pub dispatch_turns-keep : (width : ℕ) (d : Dispatching) → P d.hardware → P (repeated dispatch_turn width d).hardware
  dispatch_turns-keep width d holds =
      kept_by_turns Holds dispatch_turn (λ d p. turn-keeps (dispatch_turn_is d) p) width d holds

  -- and so the dispatch phase does
  pub dispatch-keeps : (h : Hardware) → P h → P (dispatch h).hardware
  dispatch-keeps h holds = dispatch_turns-keep h.values.dispatch_width _ holds
