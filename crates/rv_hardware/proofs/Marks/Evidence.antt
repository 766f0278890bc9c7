-- Where an instruction starts, is broadcast or enters, the marks of older ones show its operands, turn and room.
use Rattle.rv_hardware.proofs.Words.{◌≡◌, ℕ, ◌+◌, ◌≤◌, Bool, true, false, cond, not, ◌&&◌, List, [], ◌∷◌, ◌++◌, map}
use Rattle.rv_hardware.proofs.Words.{length, is_some, is_none, IfSome, nat_le, Some, None, filter, Option, sym, refl}
use Rattle.rv_hardware.proofs.Words.{◌∙◌, true≢false, arith, leb-false, length-filter, list_all, is_of_kind, is_store}
use Rattle.rv_hardware.proofs.Words.{kind_of_word, Message, Instr, Issue, Kind, Values, Each}
use Rattle.rv_hardware.proofs.Words.{is_known as is_known_store, Store as QueuedStore, Entry, Stage, has_result}
use Rattle.rv_hardware.proofs.Words.{result_at, is_stationed, broadcast_of, is_known_from, is_waiting}
use Rattle.rv_hardware.proofs.Words.{store_of_broadcast, stores_of, writes, has_operands, last_from, last_that}
use Rattle.rv_hardware.proofs.Words.{Execution, Row, and_first, and_second, Each-weaker, EveryAfter, count}
use Rattle.rv_hardware.proofs.Words.{count-count_by, count-append, count-none, count-map, count-le, count-length}
use Rattle.rv_hardware.proofs.Words.{Each-images, list_all-append, IsBetween, each_image, each_then, Each-append}
use Rattle.rv_hardware.specs.InFlight.{is_known}
use Rattle.rv_hardware.proofs.Marks.Advance.{IsBefore, writes_mark, IsKnownMark, OperandsKnown, IsKnownStore}
use Rattle.rv_hardware.proofs.Marks.Advance.{IsSentIfReady, is_in_flight_mark, is_stationed_mark}
use Rattle.rv_hardware.proofs.Marks.List.{Mark, mark_of_row, mark_of_entry, broadcast_of_stage, start_of_stage}
use Rattle.rv_hardware.proofs.Marks.List.{broadcast_of_execution, start_of_execution}
use Rattle.rv_hardware.proofs.Marks.Row.{SoundRow}
use Rattle.rv_hardware.proofs.Marks.Sound.{SoundEntry, SoundStage, is_of_kind_is, some_kind}

-- the last element that passes a test, of two lists

-- the last that passes a test, of two lists, is searched in one and then in the other
pub last_from-append : {X : Type 0} (found : Option X) (test : X → Bool) (xs ys : List X) →
    last_from found test (xs ++ ys) ≡ last_from (last_from found test xs) test ys
last_from-append found test [] ys = refl
last_from-append found test (x ∷ xs) ys = last_from-append (cond (test x) (Some x) found) test xs ys

picked : {X : Type 0} (P : X → Type 0) (b : Bool) (x : X) (found : Option X) → P x → IfSome found P →
    IfSome (cond b (Some x) found) P
picked P b x found is h = grind arith

-- what holds of each element holds of the last that passes a test
pub last_from-Each : {X : Type 0} (P : X → Type 0) (found : Option X) (test : X → Bool) (xs : List X) → IfSome found P →
    Each P xs → IfSome (last_from found test xs) P
last_from-Each P found test [] h are = h
last_from-Each P found test (x ∷ xs) h are =
    last_from-Each P (cond (test x) (Some x) found) test xs (picked P (test x) x found are.0 h) are.1

-- rows are known

row_known_by : (now C : ℕ) (i : Option Instr) (x : Option Execution) (D : ℕ) → C ≤ now →
    is_some x ≡ is_some (kind_of_word i) → IfSome x (IsBetween D C) → is_some (kind_of_word i) ≡ true →
    IsBefore now (broadcast_of_execution x)
row_known_by now C i x D le same h some = grind arith

pub row_known : {v : Values} (now : ℕ) (row : Row) → SoundRow v (now + 1) row → IsKnownMark now (mark_of_row row)
row_known now row sound some = grind (arith, row_known_by)

store_has_unit : (i : Option Instr) → is_store i ≡ true → is_some (kind_of_word i) ≡ true
store_has_unit i h = grind arith

row_sent_by : (now C D : ℕ) (x : Option Execution) → C ≤ now → IfSome x (IsBetween D C) →
    IfSome (start_of_execution x) (λ s. s.cycle + s.cost ≤ now → IsBefore (now + 1) (broadcast_of_execution x))
row_sent_by now C D x le h = grind arith

row_sent : {v : Values} (now : ℕ) (row : Row) → SoundRow v (now + 1) row → IsSentIfReady now (mark_of_row row)
row_sent now row sound =
    row_sent_by now row.retired row.dispatched row.execution (omega (arith, sound.below)) sound.stamps.executed_between

-- entries that are known

entry_known_by : (v : Values) (i : Option Instr) (D a now : ℕ) (st : Stage) → SoundStage v i D a now st →
    is_some (broadcast_of st) ≡ true → is_some (kind_of_word i) ≡ true → IsBefore now (broadcast_of_stage st)
entry_known_by v i D a now st h known some = grind arith

module _ (v : Values) (d a now : ℕ) where
  entry_known : (e : Entry) → SoundEntry v d a now e → is_some (broadcast_of e.stage) ≡ true →
      IsKnownMark now (mark_of_entry e)
  entry_known e sound known some = entry_known_by v e.instruction e.dispatched a now e.stage sound.stage known some

  known_either : (b : Bool) (e : Entry) (known : Bool) (found : Option Mark) →
      (known ≡ true → IfSome found (IsKnownMark now)) → SoundEntry v d a now e →
      cond b (is_some (broadcast_of e.stage)) known ≡ true →
      IfSome (cond b (Some (mark_of_entry e)) found) (IsKnownMark now)
  known_either b e known found before sound h = grind (arith, entry_known)

  known_from : (register : ℕ) (known : Bool) (found : Option Mark) (es : List Entry) →
      (known ≡ true → IfSome found (IsKnownMark now)) → Each (SoundEntry v d a now) es →
      is_known_from known es register ≡ true →
      IfSome (last_from found (writes_mark register) (map mark_of_entry es)) (IsKnownMark now)
  known_from register known found [] before sound h = before h
  known_from register known found (e ∷ es) before sound h =
      grind (
        arith,
        known_either,
        known_from register (cond (writes e register) (is_some (broadcast_of e.stage)) known)
            (cond (writes e register) (Some (mark_of_entry e)) found) es
            (known_either (writes e register) e known found before sound.0) sound.1 h,
      )

  module _ (rows : List Row) (sound_rows : Each (SoundRow v (now + 1)) rows) where
    rows_known : Each (IsKnownMark now) (map mark_of_row rows)
    rows_known = each_image _ (row_known now) _ sound_rows

    register_known : (older : List Entry) (register : ℕ) → Each (SoundEntry v d a now) older →
        is_known older register ≡ true →
        IfSome (last_that (writes_mark register) (map mark_of_row rows ++ map mark_of_entry older)) (IsKnownMark now)
    register_known older register sound h =
        rw (last_from-append None (writes_mark register) (map mark_of_row rows) (map mark_of_entry older))
        (known_from register true (last_from None (writes_mark register) (map mark_of_row rows)) older
        (λ e. last_from-Each _ None (writes_mark register) _ tt rows_known) sound h)

    -- where an instruction has its operands, the marks of their producers are known
    pub operands_known : (older : List Entry) (sources : List (Option ℕ)) → Each (SoundEntry v d a now) older →
        has_operands older sources ≡ true → OperandsKnown now (map mark_of_row rows ++ map mark_of_entry older) sources
    operands_known older [] sound h = tt
    operands_known older (None ∷ sources) sound h = (tt, operands_known older sources sound h)
    operands_known older (Some register ∷ sources) sound h =
        grind (
          arith,
          register_known,
          and_first,
          and_second,
          operands_known older sources sound (and_second (is_known older register) (has_operands older sources) h),
        )

    -- all older stores are known
    known_broadcast : (seq : ℕ) (o : Option Message) →
        is_known_store (record { seq = seq; state = store_of_broadcast o }) ≡ true → is_some o ≡ true
    known_broadcast seq o k = grind arith

    stores_by : {b : Bool} (seq : ℕ) {e : Entry} (es : List Entry) → is_store e.instruction ≡ b →
        SoundEntry v d a now e →
        (list_all is_known_store (stores_of (seq + 1) es) ≡ true → Each (IsKnownStore now) (map mark_of_entry es)) →
        list_all is_known_store
        (cond b (record { seq = seq; state = store_of_broadcast (broadcast_of e.stage) } ∷ stores_of (seq + 1) es)
        (stores_of (seq + 1) es)) ≡
        true →
        Each (IsKnownStore now) (map mark_of_entry (e ∷ es))
    stores_by seq es is sound rest k =
        grind (arith, entry_known, known_broadcast, and_first, store_has_unit, and_second, true≢false)

    stores_all : (seq : ℕ) (older : List Entry) → Each (SoundEntry v d a now) older →
        list_all is_known_store (stores_of seq older) ≡ true → Each (IsKnownStore now) (map mark_of_entry older)
    stores_all seq [] sound h = tt
    stores_all seq (e ∷ es) sound h = stores_by seq es refl sound.0 (λ k. stores_all (seq + 1) es sound.1 k) h

    -- where each older store in flight is known, the marks of all older stores are known
    pub stores_known : (committed : List QueuedStore) (seq : ℕ) (older : List Entry) →
        Each (SoundEntry v d a now) older → list_all is_known_store (committed ++ stores_of seq older) ≡ true →
        Each (IsKnownStore now) (map mark_of_row rows ++ map mark_of_entry older)
    stores_known committed seq older sound h =
        grind (arith, Each-append, each_then, rows_known, stores_all, list_all-append)

-- no older result waits

stage_sent_by : (b : Bool) (now : ℕ) (issue : Issue) (message : Message) → nat_le (issue.cycle + issue.cost) now ≡ b →
    not (is_none (cond b (Some message) None)) ≡ false → issue.cycle + issue.cost ≤ now → ⊥
stage_sent_by b now issue message is given ready = grind (arith, leb-false)

stage_sent : (v : Values) (i : Option Instr) (D a now : ℕ) (st : Stage) → SoundStage v i D a (now + 1) st →
    not (is_none (result_at now st)) ≡ false →
    IfSome (start_of_stage st) (λ s. s.cycle + s.cost ≤ now → IsBefore (now + 1) (broadcast_of_stage st))
stage_sent v i D a now st h given = grind (arith, stage_sent_by)

-- of entries of which none has a result for the bus, each that was ready was broadcast
pub entries_sent : (v : Values) (d a now : ℕ) (before es : List Entry) → Each (SoundEntry v d a (now + 1)) es →
    EveryAfter (λ older e. has_result now older e ≡ false) before es → Each (IsSentIfReady now) (map mark_of_entry es)
entries_sent v d a now before [] sound none = tt
entries_sent v d a now before (e ∷ es) sound none = (
  stage_sent v e.instruction e.dispatched a now e.stage sound.0.stage none.0,
  entries_sent v d a now _ es sound.1 none.1,
)

-- each row that was ready was broadcast
pub rows_sent : (v : Values) (now : ℕ) (rows : List Row) → Each (SoundRow v (now + 1)) rows →
    Each (IsSentIfReady now) (map mark_of_row rows)
rows_sent v now rows sound = each_image _ (row_sent now) _ sound

-- where nothing older has a result for the bus, each older mark that was ready was broadcast
pub none_waits : (v : Values) (d a now : ℕ) (rows : List Row) (older : List Entry) → Each (SoundRow v (now + 1)) rows →
    Each (SoundEntry v d a (now + 1)) older → EveryAfter (λ before e. has_result now before e ≡ false) [] older →
    Each (IsSentIfReady now) (map mark_of_row rows ++ map mark_of_entry older)
none_waits v d a now rows older sound_rows sound none =
    Each-append _ _ _ (each_image _ (row_sent now) _ sound_rows) (entries_sent v d a now [] older sound none)

-- there is room

-- rows and instructions in flight were dispatched
pub rows_and_entries_are_dispatched : (rows : List Row) (es : List Entry) →
    Each (λ x. is_some x.dispatched ≡ true) (map mark_of_row rows ++ map mark_of_entry es)
rows_and_entries_are_dispatched rows es =
    Each-append _ _ _ (Each-images _ _ (λ row. refl) rows) (Each-images _ _ (λ e. refl) es)

-- no more marks are in flight than the reorder buffer has entries
pub in_flight_room : (rows : List Row) (es : List Entry) →
    count is_in_flight_mark (map mark_of_row rows ++ map mark_of_entry es) ≤ length es
in_flight_room rows es =
    let both = count-append is_in_flight_mark (map mark_of_row rows) (map mark_of_entry es) in
    let none =
    count-none is_in_flight_mark (map mark_of_row rows)
    (Each-images (λ x. is_in_flight_mark x ≡ false) mark_of_row (λ row. refl) rows) in
    let all = count-map is_in_flight_mark mark_of_entry es in
    let some = count-length (λ e. is_in_flight_mark (mark_of_entry e)) es in
    omega (arith, both, none, all, some)

row_started : {v : Values} {bound : ℕ} (k : Kind) (row : Row) → SoundRow v bound row →
    is_stationed_mark k (mark_of_row row) ≡ false
row_started k row sound = grind (arith, some_kind)

stationed_by : (v : Values) (i : Option Instr) (D a b : ℕ) (st : Stage) (k : Kind) → SoundStage v i D a b st →
    (is_of_kind k (kind_of_word i) && (true && is_none (start_of_stage st))) ≡ true →
    (is_waiting st && is_of_kind k (kind_of_word i)) ≡ true
stationed_by v i D a b st k sound h = grind (arith, and_first, and_second, is_of_kind_is)

entries_stationed : (v : Values) (d a b : ℕ) (k : Kind) (es : List Entry) → Each (SoundEntry v d a b) es →
    Each (λ e. is_stationed_mark k (mark_of_entry e) ≡ true → is_stationed k e ≡ true) es
entries_stationed v d a b k es sound = grind (arith, Each-weaker, stationed_by)

-- no more marks wait in a station of a kind than entries do
pub stations_room : (v : Values) (d a b bound : ℕ) (k : Kind) (rows : List Row) (es : List Entry) →
    Each (SoundRow v bound) rows → Each (SoundEntry v d a b) es →
    count (is_stationed_mark k) (map mark_of_row rows ++ map mark_of_entry es) ≤ length (filter (is_stationed k) es)
stations_room v d a b bound k rows es sound_rows sound =
    let both = count-append (is_stationed_mark k) (map mark_of_row rows) (map mark_of_entry es) in
    let none = count-map (is_stationed_mark k) mark_of_row rows ∙
    count-none (λ row. is_stationed_mark k (mark_of_row row)) rows (each_then (row_started k) _ sound_rows) in
    let all = count-map (is_stationed_mark k) mark_of_entry es in
    let some = count-le (λ e. is_stationed_mark k (mark_of_entry e)) (is_stationed k) es
    (entries_stationed v d a b k es sound) in
    let same = length-filter (is_stationed k) es ∙ sym (count-count_by (is_stationed k) es) in
    omega (arith, both, none, all, some, same)
