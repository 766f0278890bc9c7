-- Where nothing is in flight, a cycle fetches, dispatches, or brings the retired stores nearer to their end.
use Rattle.rv_hardware.proofs.Words.{◌≡◌, ℕ, suc, ◌+◌, ◌-◌, ◌*◌, ◌≤◌, false, List, [], ◌∷◌, ◌++◌, length, nat_le, None}
use Rattle.rv_hardware.proofs.Words.{Option, sym, refl, ap, ◌∙◌, subst, true≢false, arith, length-append, leb-true}
use Rattle.rv_hardware.proofs.Words.{and_parts, nat_tests, at_kind, Kind, Memory, Store, Entry, FetchBuffer, Fetches}
use Rattle.rv_hardware.proofs.Words.{FetchesInto, FetchStop, Fetched, broadcast, any_prediction, execute, Dispatching}
use Rattle.rv_hardware.proofs.Words.{dispatch, dispatch_turn, has_full_stations, with_dispatched, drain, Hardware}
use Rattle.rv_hardware.proofs.Words.{issue, Turn, followed_by, repeated}
use Rattle.rv_hardware.proofs.Gap.Bound.{flight_time-most}
use Rattle.rv_hardware.proofs.Marks.Cited.{IsKeptByBroadcast, broadcast-keeps, IsKeptByDispatch, dispatch_turns-keep}
use Rattle.rv_hardware.proofs.Marks.Cited.{execute-keeps, drain-keeps, drain-same, fetch-cases, longest_access}
use Rattle.rv_hardware.proofs.Marks.Cited.{longest_execution, longest_write_back, HaltsAfter, words_of, runs-empty}
use Rattle.rv_hardware.proofs.Marks.Cited.{IsKeptByIssue, issue-keeps, DispatchTurn, WaitsFor, buffer_empty}
use Rattle.rv_hardware.proofs.Marks.Cited.{waits as word_waits, dispatches, dispatch_turn_is, HasSizes, sizes-kept}
use Rattle.rv_hardware.proofs.Marks.Cited.{IsBounded}
use Rattle.rv_hardware.proofs.Gap.Drained.{Drains, next_port_time}
use Rattle.rv_hardware.proofs.Gap.Execute.{execute-same, later, same-longest}
use Rattle.rv_hardware.proofs.Gap.Patience.{fetch_time, flight_time, patience, port_time, time_of_stores}

-- ---- a fetch leaves a word
abbrev IsCons : {X : Type 0} → List X → Type 0
IsCons [] = ⊥
IsCons (x ∷ xs) = Unit {0}

cons_append : {X : Type 0} (xs ys : List X) → IsCons xs → IsCons (xs ++ ys)
cons_append xs ys some = grind arith

module _ (ram : Memory) (cycle : ℕ) (old new : FetchBuffer) (stop : FetchStop)
    (fetches : FetchesInto any_prediction ram cycle old new stop) where
  words_stay : IsCons old.entries → IsCons new.entries
  words_stay some = grind (arith, fetch-cases, cons_append)

  some_added : (width room pc : ℕ) (added : List Fetched) (next : ℕ) → 1 ≤ width → 1 ≤ room →
      Fetches any_prediction ram cycle width room pc added next stop → IsCons added
  some_added width room pc added next wide free words = grind arith

  word_comes : old.entries ≡ [] → old.halted ≡ false → 1 ≤ old.width → 1 ≤ old.capacity → IsCons new.entries
  word_comes given runs wide free = grind (arith, fetch-cases, some_added)

no_fetch_time : (fetched : List Fetched) → IsCons fetched → fetch_time fetched ≡ 0
no_fetch_time fetched some = grind arith

-- ---- what a word waits for where nothing is in flight
le_none : (capacity : ℕ) → 1 ≤ capacity → nat_le capacity 0 ≡ false
le_none capacity some = grind (arith, nat_tests)

some_stations : (h : Hardware) (k : Kind) → HasSizes h → 1 ≤ (at_kind k h.values.kinds).stations
some_stations h k sizes = (sizes.legal.kinds k).stations.0

free_stations : (h : Hardware) (kind : Option Kind) → HasSizes h → h.rob.entries ≡ [] → has_full_stations h kind ≡ false
free_stations h kind sizes given = grind (arith, le_none, some_stations)

waits_for_stores : {h : Hardware} {fetched : Fetched} → HasSizes h → h.rob.entries ≡ [] → WaitsFor h fetched →
    h.values.store_queue ≤ length h.committed
waits_for_stores sizes given holds =
    grind (arith, true≢false, le_none, free_stations, and_parts, leb-true, length-append)

-- ---- the phases up to dispatch find nothing
nil_split : (older younger : List Entry) (e : Entry) {entries : List Entry} → entries ≡ [] →
    entries ≡ older ++ e ∷ younger → ⊥
nil_split [] younger e none split = absurd (cc (none, split))
nil_split (o ∷ older) younger e none split = absurd (cc (none, split))

abbrev Nothing : ℕ → List Store → FetchBuffer → Hardware → Type 0
Nothing time stores front g =
    (g.rob.entries ≡ []) × (next_port_time g ≡ time) × (g.committed ≡ stores) × (g.front ≡ front)

module _ (time : ℕ) (stores : List Store) (front : FetchBuffer) where
  nothing_issue : (k : Kind) → IsKeptByIssue (Nothing time stores front) k
  nothing_issue k = record {
    accesses = λ g older younger e address nothing split ready by. absurd (nil_split older younger e nothing.0 split);
    starts = λ g older younger e cost message nothing split waits of_kind result costs.
        absurd (nil_split older younger e nothing.0 split);
  }

  nothing_broadcast : IsKeptByBroadcast (Nothing time stores front)
  nothing_broadcast = record {
    broadcasts = λ g older younger e message nothing split gives. absurd (nil_split older younger e nothing.0 split);
    mends = λ g older younger e next nothing split. absurd (nil_split older younger e nothing.0 split);
  }

-- ---- dispatch
abbrev Something : ℕ → Hardware → Type 0
Something time g = IsCons g.rob.entries × (next_port_time g ≡ time)

something_dispatch : (time : ℕ) → IsKeptByDispatch (Something time)
something_dispatch time = grind (arith, cons_append)

pushed_cons : (es : List Entry) (e : Entry) → IsCons (es ++ e ∷ [])
pushed_cons [] e = tt
pushed_cons (x ∷ es) e = tt

-- an instruction entered, or the words and stores are as they were, and a word waits for a store
data Dispatched (time : ℕ) (before after : Hardware) : Type 0 where
  entered : Something time after → Dispatched time before after
  none_fetched : after ≡ before → before.front.entries ≡ [] → Dispatched time before after
  waits : after ≡ before → IsCons before.front.entries → before.values.store_queue ≤ length before.committed →
      Dispatched time before after

module _ (g : Hardware) (sizes : HasSizes g) (none : g.rob.entries ≡ []) {time : ℕ} (port : next_port_time g ≡ time)
    (width : ℕ) where
  abbrev first : Dispatching
  first = record { hardware = g; dispatched = 0; waits_for = None }

  by_turn : {t : Turn Dispatching} → DispatchTurn first t →
      Dispatched time g (followed_by (repeated dispatch_turn width) t).hardware
  by_turn (buffer_empty words) = none_fetched refl words
  by_turn (word_waits fetched rest reason words why) =
      waits refl (subst IsCons (sym words) tt) (waits_for_stores sizes none why)
  by_turn (dispatches fetched rest words nothing) =
      let after : Dispatching =
      record { hardware = with_dispatched fetched rest g; dispatched = 0 + 1; waits_for = None } in
      entered (dispatch_turns-keep (something_dispatch time) width after (pushed_cons g.rob.entries _, port))

dispatched : (g : Hardware) → HasSizes g → g.rob.entries ≡ [] → (time : ℕ) → next_port_time g ≡ time →
    Dispatched time g (dispatch g).hardware
dispatched g sizes none time port =
    let wide : g.values.dispatch_width ≡ suc (g.values.dispatch_width - 1) =
    omega (arith, sizes.legal.pipeline.dispatch_width.0) in
    let first_of_all : Dispatching = record { hardware = g; dispatched = 0; waits_for = None } in
    subst (λ n.
    Dispatched time g (repeated dispatch_turn n (record { hardware = g; dispatched = 0; waits_for = None })).hardware)
    (sym wide)
    (by_turn g sizes none port (g.values.dispatch_width - 1) (dispatch_turn_is first_of_all))

-- ---- in all
some_time : (access : ℕ) (stores : List Store) → 1 ≤ length stores → 1 ≤ time_of_stores access stores
some_time access stores some = grind arith

in_flight_most : {g : Hardware} → IsBounded g → {entries : List Entry} → g.rob.entries ≡ entries → IsCons entries →
    patience g ≤ port_time g + longest_write_back g + 2 * longest_execution g + 2
in_flight_most sound split some = grind (arith, flight_time-most)

module _ (h : Hardware) (front : FetchBuffer) (ram : Memory) (cycle : ℕ) (stop : FetchStop) (none : h.rob.entries ≡ [])
    (sizes : HasSizes h) (drains : Drains h (drain h))
    (halts : HaltsAfter h.front.halted (words_of h.rob.entries h.front.entries))
    (fetches : FetchesInto any_prediction ram cycle (execute h).hardware.front front stop)
    (sound : IsBounded (later front (execute h).hardware)) where
  abbrev last : Hardware
  last = broadcast (issue (drain h))

  abbrev d : Hardware
  d = (execute h).hardware

  abbrev new : Hardware
  new = later front d

  abbrev time : ℕ
  time = next_port_time (drain h)

  nothing : Nothing time (drain h).committed h.front last
  nothing =
      let same = drain-same h in
      let before : Nothing time (drain h).committed h.front (drain h) =
      (ap (λ r. r.entries) same.rob ∙ none, refl, refl, same.front) in
      broadcast-keeps (nothing_broadcast time (drain h).committed h.front) (issue (drain h))
      (issue-keeps (Nothing time (drain h).committed h.front) (nothing_issue time (drain h).committed h.front)
      (drain h) before)

  last_sizes : HasSizes last
  last_sizes =
      let kept = sizes-kept.phases in
      broadcast-keeps kept.broadcast (issue (drain h))
      (issue-keeps HasSizes kept.issue (drain h) (drain-keeps kept.drain h sizes))

  same_lines : longest_write_back new ≡ longest_write_back h
  same_lines = grind (arith, execute-same)

  before_is : patience h ≡ port_time h + longest_write_back h + 2 * longest_execution h + 3 + fetch_time h.front.entries
  before_is = ap (flight_time h) none

  empty_is : new.rob.entries ≡ [] →
      patience new ≡ port_time new + longest_write_back new + 2 * longest_execution new + 3 + fetch_time front.entries
  empty_is still = ap (flight_time new) still

  by_dispatch : Dispatched time last d → patience new + 1 ≤ patience h
  by_dispatch (entered some) =
      let most = in_flight_most sound refl some.0 in
      omega (arith, most, some.1, same_lines, same-longest h front, before_is, drains.fall)
  by_dispatch (none_fetched same words) =
      let old_front : d.front ≡ h.front = ap (λ (g : Hardware). g.front) same ∙ nothing.3 in
      let no_words : h.front.entries ≡ [] = ap (λ (f : FetchBuffer). f.entries) (sym nothing.3) ∙ words in
      let no_entry : words_of h.rob.entries h.front.entries ≡ [] =
      ap (λ es. words_of es h.front.entries) none ∙ ap (λ ws. words_of [] ws) no_words in
      let runs = runs-empty h.front.halted (subst (HaltsAfter h.front.halted) no_entry halts) in
      let after : HasSizes d = execute-keeps sizes-kept.phases h sizes in
      let wide = subst (λ n. 1 ≤ n) (sym after.width) after.legal.pipeline.fetch_width.0 in
      let room : 1 ≤ d.front.capacity = omega (arith, after.room, after.legal.pipeline.fetch_buffer.0) in
      let comes = word_comes ram cycle d.front front stop fetches
      (ap (λ (f : FetchBuffer). f.entries) old_front ∙ no_words)
      (ap (λ (f : FetchBuffer). f.halted) old_front ∙ runs) wide room in
      let still : new.rob.entries ≡ [] = ap (λ (g : Hardware). g.rob.entries) same ∙ nothing.0 in
      let port : port_time new ≡ time = ap next_port_time same ∙ nothing.1 in
      let one : fetch_time h.front.entries ≡ 1 = ap fetch_time no_words in
      omega (
        arith,
        empty_is still,
        no_fetch_time front.entries comes,
        port,
        same_lines,
        same-longest h front,
        before_is,
        one,
        drains.fall,
      )
  by_dispatch (waits same some many) =
      let stay = words_stay ram cycle d.front front stop fetches
      (subst (λ (g : Hardware). IsCons g.front.entries) (sym same) some) in
      let still : new.rob.entries ≡ [] = ap (λ (g : Hardware). g.rob.entries) same ∙ nothing.0 in
      let port : port_time new ≡ time = ap next_port_time same ∙ nothing.1 in
      let stores = some_time (longest_access last) last.committed
      (omega (arith, many, last_sizes.legal.pipeline.store_queue.0)) in
      omega (
        arith,
        empty_is still,
        no_fetch_time front.entries stay,
        port,
        same_lines,
        same-longest h front,
        before_is,
        drains.fall,
        stores,
        nothing.1,
      )

  -- where nothing is in flight, a cycle without a step lowers the patience
  pub fall_empty : patience new + 1 ≤ patience h
  fall_empty = by_dispatch (dispatched last last_sizes nothing.0 time nothing.1)
