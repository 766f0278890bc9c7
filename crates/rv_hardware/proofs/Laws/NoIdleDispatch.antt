-- A fetched instruction that is no store waits for nothing but room and the width.
use Rattle.rv_hardware.proofs.Words.{◌≡◌, ℕ, suc, ◌<◌, ◌≤◌, Bool, true, false, cond, ◌&&◌, ◌||◌, ◌⊎◌, List, [], ◌∷◌}
use Rattle.rv_hardware.proofs.Words.{◌++◌, map, length, is_some, is_none, nat_lt, nat_le, ◌==◌, Some, None, count_by}
use Rattle.rv_hardware.proofs.Words.{filter, Option, sym, refl, ap, ◌∙◌, subst, inl, inr, true≢false, arith, lt-ltb}
use Rattle.rv_hardware.proofs.Words.{leb-false, leb-true, and_from, length-filter, list_any, is_same-own, is_of_kind}
use Rattle.rv_hardware.proofs.Words.{is_serialising, is_store, kind_of_word, at_kind, Kind, Values, Each, LacksRoom}
use Rattle.rv_hardware.proofs.Words.{Entry, Stage, Fetched, Dispatching, dispatch, dispatch_turn, has_full_stations}
use Rattle.rv_hardware.proofs.Words.{is_stationed, Hardware, is_waiting, WaitsForRoom, Turn, EachAfter}
use Rattle.rv_hardware.proofs.Words.{is_dispatched_in, is_in_flight_in, is_row_of_kind, is_stationed_in, is_store_row}
use Rattle.rv_hardware.proofs.Words.{passes, rows_of, Execution, Row, Step, and_first, and_second, Each-All, Each-left}
use Rattle.rv_hardware.proofs.Words.{Each-right, Each-place, Each-weaker, Each-all, Each-map, Each-filter, EveryAfter}
use Rattle.rv_hardware.proofs.Words.{count, count-count_by, count-append, count-map, count-le, EveryAfter-append}
use Rattle.rv_hardware.proofs.Words.{EveryAfter-all, EachAfter-EveryAfter, Leads, turns_within, Each-images, each_image}
use Rattle.rv_hardware.proofs.Words.{each_then, Each-append}
use Rattle.rv_hardware.proofs.Laws.DispatchWidth.{dispatched_shows}
use Rattle.rv_hardware.proofs.Laws.ReorderBuffer.{in_flight_shows}
use Rattle.rv_hardware.proofs.Laws.Stations.{stationed_shows}
use Rattle.rv_hardware.proofs.Laws.RunsOn.{RunsOn, row_of_all, row_of_run, none_earlier}
use Rattle.rv_hardware.proofs.Marks.Cited.{is_in_flight_mark, is_stationed_mark, History, history_is_sound, sent_all}
use Rattle.rv_hardware.proofs.Marks.Cited.{dispatching, after_law, after_count, DispatchTurn, dispatch_turn_is}
use Rattle.rv_hardware.proofs.Marks.Cited.{WaitsFor, for_serial, for_buffer, for_station, for_queue, buffer_empty}
use Rattle.rv_hardware.proofs.Marks.Cited.{waits, dispatches, Mark, mark_of_row, mark_of_entry, mark_of_fetched, at_end}
use Rattle.rv_hardware.proofs.Marks.Cited.{as_of, start_until, start_of_stage, start_of_execution, until_by, until_now}
use Rattle.rv_hardware.proofs.Marks.Cited.{Older, rows_are_older, SoundRow, HasShape, some_kind, is_at, rows_obey_after}

-- a word that could have been dispatched in a cycle: the oldest that was not, with no serialising instruction in flight
pub record MayEnter (c : ℕ) (before : List Mark) (m : Mark) : Type 0 where
  pub fetched : m.fetched < c
  pub not_yet : m.dispatched ≡ None
  pub plain : is_store m.instruction ≡ false
  pub olders : Each (λ x. is_some x.dispatched ≡ true) before
  pub serial : Each (λ x. is_serialising x.instruction ≡ true → is_some x.retired ≡ true) before

-- the width or a room was used up
abbrev pub NoRoom : Values → ℕ → List Mark → Mark → Type 0
NoRoom v c before m =
    (v.dispatch_width ≤ count (λ x. is_at c x.dispatched) before) ⊎ (v.rob ≤ count is_in_flight_mark before) ⊎
    ((k : Kind) × (is_of_kind k (kind_of_word m.instruction) ≡ true) ×
    ((at_kind k v.kinds).stations ≤ count (is_stationed_mark k) before))

abbrev pub EntersSoon : Values → ℕ → List Mark → Mark → Type 0
EntersSoon v c before m = MayEnter c before m → NoRoom v c before m

-- what the dispatch phase leaves
module _ (v : Values) (now : ℕ) where
  abbrev dispatched_now : Entry → Bool
  dispatched_now e = e.dispatched == now

  abbrev LeftByDispatch : Dispatching → Type 0
  LeftByDispatch d =
      (f : Fetched) (fs : List Fetched) → d.hardware.front.entries ≡ f ∷ fs →
      (v.dispatch_width ≤ count dispatched_now d.hardware.rob.entries) ⊎ WaitsFor d.hardware f

  abbrev Entering : ℕ → Dispatching → Type 0
  Entering k d = (d.hardware.cycle ≡ now) × (k ≤ count dispatched_now d.hardware.rob.entries)

  same_head : (f g : Fetched) (fs gs : List Fetched) → f ∷ fs ≡ g ∷ gs → f ≡ g
  same_head f g fs gs e = cc

  left_leads : (k : ℕ) {d : Dispatching} {t : Turn Dispatching} → DispatchTurn d t → Entering k d →
      Leads (Entering (suc k)) LeftByDispatch t
  left_leads k (buffer_empty none) p = λ f fs at. absurd (let no_more = sym none ∙ at in cc)
  left_leads k {d} (waits f fs reason at why) p =
      λ g gs at'. inr (subst (WaitsFor d.hardware) (same_head f g fs gs (sym at ∙ at')) why)
  left_leads k {d} (dispatches f fs at nothing) p = grind (arith, count-append)

  -- after the dispatch phase the width is used up, or the oldest word has a reason to wait
  pub dispatch_leaves : (h : Hardware) → h.values.dispatch_width ≡ v.dispatch_width → h.cycle ≡ now →
      LeftByDispatch (dispatch h)
  dispatch_leaves h width cycle =
      turns_within v.dispatch_width Entering LeftByDispatch dispatch_turn
      (λ k d lt p. left_leads k (dispatch_turn_is d) p) (λ d p f fs at. inl p.1)
      h.values.dispatch_width 0 (record { hardware = h; dispatched = 0; waits_for = None }) (omega (arith, width))
      (cycle, omega arith)

-- entries as marks

in_flight_entries : (es : List Entry) → count is_in_flight_mark (map mark_of_entry es) ≡ length es
in_flight_entries [] = refl
in_flight_entries (e ∷ es) = ap suc (in_flight_entries es)

stationed_mark : (k : Kind) (i : Bool) (st : Stage) → (is_waiting st && i) ≡ true →
    (i && (true && is_none (start_of_stage st))) ≡ true
stationed_mark k i st h = grind (arith, and_from)

stationed_entries : (k : Kind) (es : List Entry) →
    length (filter (is_stationed k) es) ≤ count (is_stationed_mark k) (map mark_of_entry es)
stationed_entries k es =
    let same = length-filter (is_stationed k) es ∙ sym (count-count_by (is_stationed k) es) in
    let all = count-map (is_stationed_mark k) mark_of_entry es in
    let some = count-le (is_stationed k) (λ e. is_stationed_mark k (mark_of_entry e)) es
    (Each-all _ (λ e h. stationed_mark k (is_of_kind k (kind_of_word e.instruction)) e.stage h) es) in
    omega (arith, same, all, some)

serial_by : {b : Bool} {rest : Bool} (r : Bool) → (b ≡ true → false ≡ true) → (rest ≡ true → ⊥) → (b || rest) ≡ true → ⊥
serial_by r first others any = grind (arith, true≢false)

no_serial : (es : List Entry) →
    Each (λ x. is_serialising x.instruction ≡ true → is_some x.retired ≡ true) (map mark_of_entry es) →
    list_any (λ e. is_serialising e.instruction) es ≡ true → ⊥
no_serial [] h any = absurd (cc)
no_serial (e ∷ es) h any = serial_by true h.0 (λ rest. no_serial es h.1 rest) any

module _ (v : Values) (now : ℕ) (rows : List Row) (h : Hardware) (shape : HasShape v h) (f : Fetched) where
  abbrev olders_of : List Mark
  olders_of = map mark_of_row rows ++ map mark_of_entry h.rob.entries

  at_least : (p : Mark → Bool) → count p (map mark_of_entry h.rob.entries) ≤ count p olders_of
  at_least p = let all = count-append p (map mark_of_row rows) (map mark_of_entry h.rob.entries) in omega (arith, all)

  by_station : {o : Option Kind} → kind_of_word f.instruction ≡ o → has_full_stations h o ≡ true →
      NoRoom v now olders_of (mark_of_fetched f)
  by_station is full = grind (arith, leb-true, stationed_entries, at_least, is_same-own)

  by_reason : MayEnter now olders_of (mark_of_fetched f) → WaitsFor h f → NoRoom v now olders_of (mark_of_fetched f)
  by_reason may (for_serial is) = grind (arith, no_serial, Each-right)
  by_reason may (for_buffer is) = grind (arith, in_flight_entries, at_least)
  by_reason may (for_station is) = by_station refl is
  by_reason may (for_queue is) = absurd (true≢false (sym (and_first (is_store f.instruction) _ is) ∙ may.plain))

  pub head_waits : (v.dispatch_width ≤ count (dispatched_now v now) h.rob.entries) ⊎ WaitsFor h f →
      EntersSoon v now olders_of (mark_of_fetched f)
  head_waits (inl wide) may =
      let some = count-map (λ x. is_at now x.dispatched) mark_of_entry h.rob.entries in
      let all = at_least (λ x. is_at now x.dispatched) in
      inl (omega (arith, wide, some, all))
  head_waits (inr why) may = by_reason may why

was_dispatched : {P : Type 0} (m : Mark) → is_some m.dispatched ≡ true → m.dispatched ≡ None → P
was_dispatched m is none = absurd (true≢false (sym is ∙ ap is_some none))

-- after a word that was not dispatched none may enter
none_after : (v : Values) (now : ℕ) (pre xs : List Mark) → (Each (λ x. is_some x.dispatched ≡ true) pre → ⊥) →
    EveryAfter (EntersSoon v now) pre xs
none_after v now pre [] no_more = tt
none_after v now pre (x ∷ xs) no_more =
    ((λ may. absurd (no_more may.olders)), none_after v now _ xs (λ all. no_more (Each-left _ pre _ all)))

words_wait : (v : Values) (now : ℕ) (rows : List Row) (h : Hardware) (shape : HasShape v h) (fs : List Fetched) →
    h.front.entries ≡ fs →
    ((f : Fetched) (gs : List Fetched) → h.front.entries ≡ f ∷ gs →
    (v.dispatch_width ≤ count (dispatched_now v now) h.rob.entries) ⊎ WaitsFor h f) →
    EveryAfter (EntersSoon v now) (map mark_of_row rows ++ map mark_of_entry h.rob.entries) (map mark_of_fetched fs)
words_wait v now rows h shape [] at left = tt
words_wait v now rows h shape (f ∷ fs) at left = (
  head_waits v now rows h shape f (left f fs at),
  none_after v now _ (map mark_of_fetched fs)
      (λ all. was_dispatched (mark_of_fetched f) (Each-place _ _ [] _ all) refl),
)

abbrev IsDispatched : Mark → Type 0
IsDispatched x = is_some x.dispatched ≡ true

dispatched_ones : (v : Values) (now : ℕ) (before xs : List Mark) → Each IsDispatched xs →
    EveryAfter (EntersSoon v now) before xs
dispatched_ones v now before xs h = EveryAfter-all (λ b x is may. was_dispatched x is may.not_yet) before xs h

soon_marks : {v : Values} {steps : List Step} {h : Hardware} → History v steps h → (c : ℕ) → c < h.cycle →
    EveryAfter (EntersSoon v c) [] (as_of c (map mark_of_row (rows_of steps)))
soon_marks {v} history =
    rows_obey_after v (EntersSoon v)
    (λ earlier old new lines report before after passed.
    let all : List Step = earlier ++ report.steps in
    let now : ℕ = old.cycle in
    let d : Hardware = (dispatching lines old).hardware in
    let left = dispatch_leaves v now (sent_all lines old)
    (ap (λ (w : Values). w.dispatch_width) passed.sends.basics.always.sizes.values) passed.sends.basics.cycle in
    let rows : List Mark = map mark_of_row (rows_of all) in
    let es : List Mark = map mark_of_entry d.rob.entries in
    let fs : List Mark = map mark_of_fetched d.front.entries in
    rw (passed.new_marks) (EveryAfter-append _ [] _ _
    (EveryAfter-append _ [] rows _ (dispatched_ones v now [] rows (Each-images _ _ (λ row. refl) _))
    (EveryAfter-append _ rows es fs (dispatched_ones v now rows es (Each-images _ _ (λ e. refl) _))
    (words_wait v now (rows_of all) d passed.dispatches.basics.always.sizes d.front.entries refl left)))
    (EveryAfter-all (λ b x le may. absurd (too_new now x le may.fetched)) _ _
    (each_image _ (λ f w. omega (arith, w.0)) _ passed.fetches.are_new))))
    history
  where
    too_new : (now : ℕ) (x : Mark) → now ≤ x.fetched → x.fetched < now → ⊥
    too_new now x le lt = omega arith

-- so of the rows

-- what holds of each row's mark at the end of a cycle holds of the marks as they stood then
pub as_of_rows : (P : Mark → Type 0) (c : ℕ) (rows : List Row) → Each (λ row. P (at_end c (mark_of_row row))) rows →
    Each P (as_of c (map mark_of_row rows))
as_of_rows P c rows h =
    Each-map P _ _ (Each-filter _ _ _ (Each-map _ _ rows h))

dispatched_row : (c d : ℕ) {b : Bool} → nat_le d c ≡ b → is_at c (cond b (Some d) None) ≡ true → (d == c) ≡ true
dispatched_row c d is h = grind arith

some_until : (c d : ℕ) (b : Bool) → nat_le d c ≡ b → is_some (cond b (Some d) None) ≡ true → nat_le d c ≡ true
some_until c d b is h = grind arith

-- a stamp that was not there by the end of a cycle is later
pub none_until : (c d : ℕ) (b : Bool) → nat_le d c ≡ b → is_none (cond b (Some d) None) ≡ true → nat_lt c d ≡ true
none_until c d b is h = grind (arith, lt-ltb, leb-false)

flight_row : (c : ℕ) (row : Row) → is_in_flight_mark (at_end c (mark_of_row row)) ≡ true → is_in_flight_in c row ≡ true
flight_row c row h = grind (arith, and_first, and_second, and_from, some_until, none_until)

started_row : (c : ℕ) (x : Option Execution) → is_some x ≡ true →
    is_none (start_until c (start_of_execution x)) ≡ true → passes (λ y. nat_lt c y.issued) x ≡ true
started_row c x some h = grind (arith, lt-ltb, leb-false)

station_row : {v : Values} {bound : ℕ} (c : ℕ) (k : Kind) {row : Row} → SoundRow v bound row →
    is_stationed_mark k (at_end c (mark_of_row row)) ≡ true → is_stationed_in k c row ≡ true
station_row c k sound h = grind (arith, and_first, and_second, some_until, started_row, some_kind, and_from)

module _ {v : Values} {bound : ℕ} (c : ℕ) (before : List Row) {row : Row} (older : Each (Older v bound row) before)
    (row_sound : SoundRow v bound row) where
  fewer : (p : Mark → Bool) {q : Row → Bool} →
      ((a : Row) → SoundRow v bound a → p (at_end c (mark_of_row a)) ≡ true → q a ≡ true) →
      count p (as_of c (map mark_of_row before)) ≤ count_by q before
  fewer p {q} f = grind (arith, after_count, each_then)

  room_of_rows : NoRoom v c (as_of c (map mark_of_row before)) (at_end c (mark_of_row row)) →
      (v.dispatch_width ≤ count_by (is_dispatched_in c) before) ⊎ (v.rob ≤ count_by (is_in_flight_in c) before) ⊎
      ((kind : Kind) × (is_row_of_kind kind row ≡ true) ×
      ((at_kind kind v.kinds).stations ≤ count_by (is_stationed_in kind c) before))
  room_of_rows (inl wide) = grind (arith, fewer)
  room_of_rows (inr (inl full)) =
      let less = fewer is_in_flight_mark (λ a s h. flight_row c a h) in inr (inl (omega (arith, full, less)))
  room_of_rows (inr (inr full)) =
      let less = fewer (is_stationed_mark full.0) (λ a s h. station_row c full.0 s h) in
      inr (inr (full.0, full.1, omega (arith, full.2, less)))

  may_enter : is_store_row row ≡ false → row.fetched < c → c < row.dispatched → Each (λ a. a.dispatched ≤ c) before →
      MayEnter c (as_of c (map mark_of_row before)) (at_end c (mark_of_row row))
  may_enter plain given later all = grind (arith, until_now, as_of_rows, Each-weaker, until_by)

-- the field `no_idle_dispatch` of `Laws`, of every run
pub law_of_no_idle_dispatch : {v : Values} {earlier steps : List Step} {old new : Hardware} →
    RunsOn v earlier steps old new → EachAfter (WaitsForRoom v old.cycle) (rows_of steps)
law_of_no_idle_dispatch {v} {earlier} run before after row at plain c from fetched later all =
    let place = row_of_all run before after row at in
    let sound = row_of_run run before after row at in
    let older = EachAfter-EveryAfter _ _ (rows_are_older run.all) (rows_of earlier ++ before) after row place in
    let gone : Each (λ e. e.dispatched ≤ c) (rows_of earlier) =
    each_then (λ e s. omega (arith, s.stamps.retired_after_dispatch, s.below, from)) _
    (history_is_sound run.before).rows in
    let soon = after_law _ c (rows_of earlier ++ before) after row
    (soon_marks run.all c (omega (arith, later, sound.stamps.retired_after_dispatch, sound.below))) place
    (omega (arith, fetched)) in
    by_cases (room_of_rows c (rows_of earlier ++ before) older sound
    (soon (may_enter c (rows_of earlier ++ before) older sound plain fetched later
    (Each-append _ _ _ gone (Each-All _ before all)))))
  where
    by_cases : LacksRoom v c (rows_of earlier ++ before) row → LacksRoom v c before row
    by_cases (inl wide) =
        let same = none_earlier run (dispatched_shows v) c from before in inl (omega (arith, wide, same))
    by_cases (inr (inl full)) =
        let same = none_earlier run (in_flight_shows v) c from before in inr (inl (omega (arith, full, same)))
    by_cases (inr (inr full)) =
        let same = none_earlier run (stationed_shows v full.0) c from before in
        inr (inr (full.0, full.1, omega (arith, full.2, same)))
