-- A turn of the dispatch phase finds no word, leaves the oldest waiting for room, or dispatches it.
use Rattle.rv_hardware.proofs.Words.{◌≡◌, ◌+◌, Bool, true, false, cond, ◌&&◌, List, [], ◌∷◌, length, nat_le, Some, None}
use Rattle.rv_hardware.proofs.Words.{refl, list_any, is_serialising, is_store, kind_of_word, Entry, Fetched}
use Rattle.rv_hardware.proofs.Words.{Dispatching, dispatch_turn, dispatch_turn_of, dispatch_unless, has_full_stations}
use Rattle.rv_hardware.proofs.Words.{with_dispatched, Hardware, Ends, GoesOn, Turn, stores_after, Stall, Option}
use Rattle.rv_hardware.specs.declared.report.Stall.TheVariants as stall

-- one of some instructions in flight serialises
abbrev pub is_any_serialising : List Entry → Bool
is_any_serialising entries = list_any (λ e. is_serialising e.instruction) entries

-- the four things that an instruction may wait for
abbrev pub has_serial : Hardware → Bool
has_serial h = is_any_serialising h.rob.entries

abbrev pub has_full_buffer : Hardware → Bool
has_full_buffer h = nat_le h.rob.capacity (length h.rob.entries)

-- a store has to wait, since the store queue is full
abbrev pub has_full_queue : Hardware → Fetched → Bool
has_full_queue h f = is_store f.instruction && nat_le h.values.store_queue (length (stores_after h h.rob.entries))

-- none of them holds a fetched word back
pub record WaitsForNothing (h : Hardware) (f : Fetched) : Type 0 where
  pub serial : has_serial h ≡ false
  pub buffer : has_full_buffer h ≡ false
  pub stations : has_full_stations h (kind_of_word f.instruction) ≡ false
  pub queue : has_full_queue h f ≡ false

-- why it waits
pub data WaitsFor (h : Hardware) (f : Fetched) : Type 0 where
  for_serial : has_serial h ≡ true → WaitsFor h f
  for_buffer : has_full_buffer h ≡ true → WaitsFor h f
  for_station : has_full_stations h (kind_of_word f.instruction) ≡ true → WaitsFor h f
  for_queue : has_full_queue h f ≡ true → WaitsFor h f

-- the fetch buffer is empty, the oldest word waits, or it is dispatched
pub data DispatchTurn (d : Dispatching) : Turn Dispatching → Type 0 where
  buffer_empty : d.hardware.front.entries ≡ [] → DispatchTurn d (Ends (record d { waits_for = Some stall.Fetch }))
  waits : (f : Fetched) (fs : List Fetched) (reason : Stall) → d.hardware.front.entries ≡ f ∷ fs →
      WaitsFor d.hardware f → DispatchTurn d (Ends (record d { waits_for = Some reason }))
  dispatches : (f : Fetched) (fs : List Fetched) → d.hardware.front.entries ≡ f ∷ fs → WaitsForNothing d.hardware f →
      DispatchTurn d (GoesOn (record d { hardware = with_dispatched f fs d.hardware; dispatched = d.dispatched + 1 }))

module _ (d : Dispatching) (f : Fetched) (fs : List Fetched) (at : d.hardware.front.entries ≡ f ∷ fs) where
  -- the reason to wait, of the queue alone, of the stations and it, and of the buffer and both
  abbrev of_queue : Option Stall
  of_queue = cond (has_full_queue d.hardware f) (Some stall.Store) None

  abbrev of_stations : Option Stall
  of_stations = cond (has_full_stations d.hardware (kind_of_word f.instruction)) (Some stall.Station) of_queue

  abbrev of_buffer : Option Stall
  of_buffer = cond (has_full_buffer d.hardware) (Some stall.Rob) of_stations

  by_queue : (b : Bool) → has_full_queue d.hardware f ≡ b → has_serial d.hardware ≡ false →
      has_full_buffer d.hardware ≡ false → has_full_stations d.hardware (kind_of_word f.instruction) ≡ false →
      DispatchTurn d (dispatch_unless (cond b (Some stall.Store) None) f fs d)
  by_queue true is s r k = waits f fs stall.Store at (for_queue is)
  by_queue false is s r k = dispatches f fs at (record { serial = s; buffer = r; stations = k; queue = is })

  by_station : (b : Bool) → has_full_stations d.hardware (kind_of_word f.instruction) ≡ b →
      has_serial d.hardware ≡ false → has_full_buffer d.hardware ≡ false →
      DispatchTurn d (dispatch_unless (cond b (Some stall.Station) of_queue) f fs d)
  by_station true is s r = waits f fs stall.Station at (for_station is)
  by_station false is s r = by_queue (has_full_queue d.hardware f) refl s r is

  by_buffer : (b : Bool) → has_full_buffer d.hardware ≡ b → has_serial d.hardware ≡ false →
      DispatchTurn d (dispatch_unless (cond b (Some stall.Rob) of_stations) f fs d)
  by_buffer true is s = waits f fs stall.Rob at (for_buffer is)
  by_buffer false is s = by_station (has_full_stations d.hardware (kind_of_word f.instruction)) refl s is

  by_serial : (b : Bool) → has_serial d.hardware ≡ b →
      DispatchTurn d (dispatch_unless (cond b (Some stall.Serial) of_buffer) f fs d)
  by_serial true is = waits f fs stall.Serial at (for_serial is)
  by_serial false is = by_buffer (has_full_buffer d.hardware) refl is

turn_of : (d : Dispatching) (fs : List Fetched) → d.hardware.front.entries ≡ fs → DispatchTurn d (dispatch_turn_of fs d)
turn_of d [] at = buffer_empty at
turn_of d (f ∷ fs) at = by_serial d f fs at (has_serial d.hardware) refl

-- what the definition's turn of the dispatch phase leaves is one of these outcomes
pub dispatch_turn_is : (d : Dispatching) → DispatchTurn d (dispatch_turn d)
dispatch_turn_is d = turn_of d d.hardware.front.entries refl
