-- In every run a finished head does not wait, and the front keeps ahead.
use Rattle.rv_hardware.proofs.Words.{◌≡◌, ℕ, ◌+◌, ◌-◌, ◌<◌, ◌≤◌, Bool, true, false, ◌&&◌, ◌⊎◌, List, [], ◌∷◌, ◌++◌}
use Rattle.rv_hardware.proofs.Words.{length, is_some, ◌==◌, Some, None, Option, nat_cmp, sym, refl, ap, ◌∙◌, subst, inl}
use Rattle.rv_hardware.proofs.Words.{inr, true≢false, append_assoc, append-nil, arith, length-append, leb-true, IsLegal}
use Rattle.rv_hardware.proofs.Words.{is_store, at_kind, Lines, Kind, Values, due, Each, with_oldest_draining}
use Rattle.rv_hardware.proofs.Words.{without_drained, Entry, FetchBuffer, Fetched, broadcast, Committing, commit_turn}
use Rattle.rv_hardware.proofs.Words.{commit_unless, IsCycle, any_prediction, execute, with_lines, Dispatching, dispatch}
use Rattle.rv_hardware.proofs.Words.{has_full_stations, drain, Hardware, issue, Turn, Report, last_from, stamp_of, Step}
use Rattle.rv_hardware.proofs.Words.{and_first, and_second, count, EveryAfter-at, Leads, kept_by_turns}
use Rattle.std.specs.FinSet as set
use Rattle.rv_hardware.proofs.Marks.Cited.{IsKeptByBroadcast, broadcast-keeps, phases-keep, IsKeptByDispatch}
use Rattle.rv_hardware.proofs.Marks.Cited.{dispatch-keeps, IsKeptByDrain, drain-keeps, HaltsAfter, IsHalted, words_of}
use Rattle.rv_hardware.proofs.Marks.Cited.{halted-kept, IsKeptByIssue, issue-keeps, CommitTurn, fence_retires, executes}
use Rattle.rv_hardware.proofs.Marks.Cited.{serial_faults, traps, retires, retires_last, commit_turn_is, Anything}
use Rattle.rv_hardware.proofs.Marks.Cited.{anything_is_kept, Passed, History, began, went_on, begin, committing}
use Rattle.rv_hardware.proofs.Marks.Cited.{dispatching, sent_all, history_is_legal, history_is_sound, history_passes}
use Rattle.rv_hardware.proofs.Marks.Cited.{has_full_queue, WaitsFor, IsNew, HasShape}
use Rattle.rv_hardware.proofs.Laws.HeadsDoNotWait.Follow.{last_stamp, last_stamp-push, has_step, has_step-push, Follows}
use Rattle.rv_hardware.proofs.Laws.HeadsDoNotWait.Follow.{AllFollow, Committed, commit_leads_by}
use Rattle.rv_hardware.proofs.Laws.NoIdleDispatch.{dispatch_leaves}
use Rattle.rv_hardware.proofs.Laws.HeadsDoNotWait.Next.{Next, HasNext, next_executed}

some_station : (v : Values) → IsLegal v → (k : Kind) → 0 < (at_kind k v.kinds).stations
some_station v legal k = omega (arith, (legal.kinds k).stations)

module _ {v : Values} (legal : IsLegal v) where
  -- with nothing in flight only a store waits
  station_free : (h : Hardware) → HasShape v h → h.rob.entries ≡ [] → (o : Option Kind) →
      has_full_stations h o ≡ true → ⊥
  station_free h shape given o full = grind (arith, leb-true, some_station)

  -- with no store that has retired, it does not either
  queue_free : (store_waits : Bool) (h : Hardware) (f : Fetched) → HasShape v h → h.rob.entries ≡ [] →
      (store_waits ≡ false → h.committed ≡ []) → has_full_queue h f ≡ true →
      (store_waits && is_store f.instruction) ≡ true
  queue_free store_waits h f shape given unused is = grind (arith, and_first, leb-true, and_second)

  waits_as_store : {store_waits : Bool} {h : Hardware} {f : Fetched} → HasShape v h → h.rob.entries ≡ [] →
      (store_waits ≡ false → h.committed ≡ []) → WaitsFor h f → (store_waits && is_store f.instruction) ≡ true
  waits_as_store shape given unused holds = grind (arith, true≢false, leb-true, station_free, queue_free)

  -- what dispatch leaves in the fetch buffer where nothing is in flight
  only_store_left : {store_waits : Bool} (g : Hardware) {now : ℕ} {d : Dispatching} → d ≡ dispatch g → g.values ≡ v →
      g.cycle ≡ now → HasShape v d.hardware → (store_waits ≡ false → d.hardware.committed ≡ []) →
      (f : Fetched) (fs : List Fetched) → d.hardware.rob.entries ≡ [] → d.hardware.front.entries ≡ f ∷ fs →
      (store_waits && is_store f.instruction) ≡ true
  only_store_left {store_waits} g {now} {d} is values cycle shape unused f fs none first =
      by_left (subst
      (λ (x : Dispatching). (f : Fetched) (fs : List Fetched) → x.hardware.front.entries ≡ f ∷ fs →
      (v.dispatch_width ≤ count (λ (e : Entry). e.dispatched == now) x.hardware.rob.entries) ⊎ WaitsFor x.hardware f)
      (sym is)
      (dispatch_leaves v now g (ap (λ (w : Values). w.dispatch_width) values) cycle) f fs first)
    where
      by_left : (v.dispatch_width ≤ count (λ (e : Entry). e.dispatched == now) d.hardware.rob.entries) ⊎
          WaitsFor d.hardware f →
          (store_waits && is_store f.instruction) ≡ true
      by_left (inl wide) =
          let empty = ap (λ es. count (λ (e : Entry). e.dispatched == now) es) none in
          absurd (omega (arith, wide, empty, legal.pipeline.dispatch_width))
      by_left (inr why) = waits_as_store shape none unused why

  -- a front with nothing in flight and nothing fetched fetches
  module _ (now s : ℕ) (store_waits : Bool) (stale : set.FinSet nat_cmp) (front : FetchBuffer) {added : List Fetched}
      (new : Each (IsNew now) added) (width : front.width ≡ v.fetch_width) (room : front.capacity ≡ v.fetch_buffer)
      (goes_on : added ≡ [] →
      (front.halted ≡ true) ⊎ ((front.width ≡ 0) ⊎ (front.capacity - length front.entries ≡ 0))) where
    fetches_one : (b : Bool) → front.halted ≡ b → HaltsAfter b [] → length front.entries ≡ 0 → added ≡ [] → ⊥
    fetches_one b is halts empty given = grind (arith, true≢false)

    next_added : (more : List Fetched) → Each (IsNew now) more → (more ≡ [] → ⊥) → now ≤ s →
        Next (now + 1) (now + 1) s store_waits stale [] more
    next_added more are none_of le = grind arith

    next_fetched : {es : List Entry} {fs : List Fetched} → front.entries ≡ fs →
        HaltsAfter front.halted (words_of es fs) →
        ((f : Fetched) (gs : List Fetched) → es ≡ [] → fs ≡ f ∷ gs → (store_waits && is_store f.instruction) ≡ true) →
        Next (now + 1) now s store_waits stale es fs → Next (now + 1) (now + 1) s store_waits stale es (fs ++ added)
    next_fetched given halts stores next = grind (arith, true≢false, next_added, fetches_one)

both_empty : (xs ys : List Step) → xs ++ ys ≡ [] → (xs ≡ []) × (ys ≡ [])
both_empty [] ys none = (refl, none)
both_empty (x ∷ xs) ys none = absurd (cc)

some_step : (x : Step) (steps : List Step) → is_some (last_from (Some x) (λ s. true) steps) ≡ true
some_step x [] = refl
some_step x (y ∷ steps) = some_step y steps

no_step : (steps : List Step) → has_step steps ≡ false → steps ≡ []
no_step [] none = refl
no_step (x ∷ steps) none = absurd (true≢false (sym (some_step x steps) ∙ none))

not_empty : {P : Type 0} (steps : List Step) (x : Step) → steps ++ x ∷ [] ≡ [] → P
not_empty steps x none =
    absurd (let all = length-append steps (x ∷ []) in omega (arith, all, ap (λ (l : List Step). length l) none))

abbrev IsUnused : Committing → Type 0
IsUnused c = c.steps ≡ [] → c.hardware.committed ≡ []

turn_unused : {c : Committing} {t : Turn Committing} → CommitTurn set.contains c t → IsUnused c →
    Leads IsUnused IsUnused t
turn_unused {c} (fence_retires e es written next head is drained) p = λ none. not_empty c.steps _ none
turn_unused {c} (executes e es written next head serial other) p = λ none. not_empty c.steps _ none
turn_unused {c} (serial_faults e es cause value head serial other) p = λ none. not_empty c.steps _ none
turn_unused {c} (traps e es issue cycle message fault head plain at is) p = λ none. not_empty c.steps _ none
turn_unused {c} (retires e es issue cycle message head plain at none) p = λ empty. not_empty c.steps _ empty
turn_unused {c} (retires_last e es issue cycle message head plain at none) p = λ empty. not_empty c.steps _ empty
turn_unused _ p = p

commit_unused : (o : Option ℕ) (h : Hardware) → h.committed ≡ [] → IsUnused (commit_unless set.contains o h)
commit_unused (Some code) h none = λ empty. absurd (cc)
commit_unused None h none =
    kept_by_turns IsUnused (commit_turn set.contains)
    (λ c p. turn_unused (commit_turn_is set.contains c) p) h.values.commit_width
    (record { hardware = h; steps = []; stop = None }) (λ empty. none)

execute_unused : (h : Hardware) → h.committed ≡ [] → (execute h).hardware.committed ≡ []
execute_unused h none =
    dispatch-keeps kept_by_dispatch (broadcast (issue (drain h)))
    (broadcast-keeps kept_by_broadcast (issue (drain h))
    (issue-keeps HasNoStore kept_by_issue (drain h) (drain-keeps kept_by_drain h none)))
  where
    HasNoStore : Hardware → Type 0
    HasNoStore g = g.committed ≡ []

    kept_by_drain : IsKeptByDrain HasNoStore
    kept_by_drain =
        record {
          leaves = λ g is idle. ap without_drained is;
          drains = λ g access is idle at. ap with_oldest_draining is;
        }

    kept_by_issue : (k : Kind) → IsKeptByIssue HasNoStore k
    kept_by_issue k =
        record {
          accesses = λ g older younger e address is split ready by. is;
          starts = λ g older younger e cost message is split waits of_kind result costs. is;
        }

    kept_by_broadcast : IsKeptByBroadcast HasNoStore
    kept_by_broadcast =
        record {
          broadcasts = λ g older younger e message is split gives. is;
          mends = λ g older younger e next is split. is;
        }

    kept_by_dispatch : IsKeptByDispatch HasNoStore
    kept_by_dispatch = record { dispatches = λ g f rest is first none. is }

record NextPast (steps : List Step) (h : Hardware) : Type 0 where
  follow : AllFollow steps
  next : Next h.cycle h.cycle (last_stamp steps) (has_step steps) h.stale h.rob.entries h.front.entries
  unused : steps ≡ [] → h.committed ≡ []

module _ (v : Values) {earlier : List Step} {old new : Hardware} {lines : Lines} {report : Report}
    (before : History v earlier old) (past : NextPast earlier old)
    (is : IsCycle any_prediction lines old report new) where
  passed : Passed v Anything earlier lines old report new
  passed = history_passes v before is

  committed : Committed v old.cycle earlier (committing lines old)
  committed =
      let g : Hardware = with_lines lines old in
      let begins = history_is_sound before in
      let first = begin (history_is_legal before) lines new report (anything_is_kept v old.cycle) begins tt in
      let legal = history_is_legal before in
      commit_leads_by v old.cycle earlier (omega (arith, legal.pipeline.commit_width)) (due g.csrs g.lines)
      (ap (λ (w : Values). w.commit_width) begins.always.sizes.values) first
      (rw (append-nil earlier) (past.follow)) (rw (append-nil earlier) (past.next))

  -- the steps with those of this cycle
  abbrev so_far : List Step
  so_far = earlier ++ report.steps

  here : so_far ≡ earlier ++ (committing lines old).steps
  here = ap (λ l. earlier ++ l) passed.steps

  abbrev c : Hardware
  c = (committing lines old).hardware

  abbrev d : Hardware
  d = (dispatching lines old).hardware

  d_is : is.dispatching ≡ dispatching lines old
  d_is = is.executes ∙ ap (λ (x : Committing). execute x.hardware) is.commits

  dispatched : HasNext old.cycle (last_stamp so_far) (has_step so_far) d
  dispatched = next_executed old.cycle (last_stamp so_far) (has_step so_far) c (
    passed.committed.basics.cycle,
    subst (λ l. Next (old.cycle + 1) old.cycle (last_stamp l) (has_step l) c.stale c.rob.entries c.front.entries)
        (sym here) committed.next,
  )

  d_halted : IsHalted d
  d_halted = subst (λ (x : Dispatching). IsHalted x.hardware) d_is
      (phases-keep halted-kept.phases is ((history_is_sound before).always.halted))

  -- no store has retired where there is no step
  c_unused : so_far ≡ [] → c.committed ≡ []
  c_unused given = grind (arith, both_empty, commit_unused, passed)

  d_unused : so_far ≡ [] → d.committed ≡ []
  d_unused none = execute_unused c (c_unused none)

  fetched : Next (old.cycle + 1) (old.cycle + 1) (last_stamp so_far) (has_step so_far) d.stale d.rob.entries
      (d.front.entries ++ passed.fetches.added)
  fetched =
      let legal = history_is_legal before in
      let b = passed.dispatches.basics in
      let sent = passed.sends.basics in
      next_fetched legal old.cycle (last_stamp so_far) (has_step so_far) d.stale d.front passed.fetches.are_new
      b.always.sizes.width b.always.sizes.room passed.fetches.goes_on refl d_halted.1
      (λ f gs none first.
      only_store_left legal (sent_all lines old) refl sent.always.sizes.values sent.cycle b.always.sizes
      (λ none_yet. d_unused (no_step so_far none_yet)) f gs none first)
      dispatched.1

  next_goes_on : NextPast so_far new
  next_goes_on = grind (arith, here, committed, passed, fetched, d_unused)

history_has_next : {v : Values} {steps : List Step} {h : Hardware} → History v steps h → NextPast steps h
history_has_next (began image start legal) = record { follow = tt; next = omega arith; unused = λ none. refl }
history_has_next {v} (went_on before is) = next_goes_on v before (history_has_next before) is

-- each step follows the one before it as the laws say
pub all_follow : {v : Values} {steps : List Step} {h : Hardware} → History v steps h → AllFollow steps
all_follow {v} history = (history_has_next history).follow

module _ {v : Values} {steps : List Step} {h : Hardware} (history : History v steps h) where
  -- of two neighbouring steps of a run the second follows the first without waiting
  pub follows : (first rest : List Step) (a b : Step) → steps ≡ first ++ a ∷ b ∷ rest → Follows (stamp_of a) true b
  follows first rest a b at =
      let all : AllFollow ((first ++ a ∷ []) ++ b ∷ rest) =
      subst AllFollow (at ∙ sym (append_assoc first (a ∷ []) (b ∷ rest))) (all_follow history) in
      subst (λ w. Follows (stamp_of a) w b) (has_step-push first a)
      (subst (λ n. Follows n (has_step (first ++ a ∷ [])) b) (last_stamp-push first a) (EveryAfter-at _ _ rest b all))
