-- Marks that go on keep it that no pipelined unit is idle while an instruction that is no load has its operands.
use Rattle.rv_hardware.proofs.Words.{◌≡◌, ℕ, ◌≤◌, Bool, true, false, cond, not, ◌||◌, List, [], ◌∷◌, ◌++◌, map, is_some}
use Rattle.rv_hardware.proofs.Words.{IfSome, Some, None, Option, sym, refl, ap, ◌∙◌, subst, true≢false, append_assoc}
use Rattle.rv_hardware.proofs.Words.{arith, and_from, is_load, is_of_kind, is_serialising, kind_of_word}
use Rattle.rv_hardware.proofs.Words.{sources_of_word, Instr, Kind, Values, Each, Entry, Stage, Fetched, Hardware}
use Rattle.rv_hardware.proofs.Words.{broadcast_of, is_known_from, is_waiting, writes, has_operands, is_ready, last_from}
use Rattle.rv_hardware.proofs.Words.{last_that, Execution, Row, never_both, EveryAfter, count, count-set-grows}
use Rattle.rv_hardware.proofs.Words.{Each-append}
use Rattle.rv_hardware.proofs.Marks.Cited.{IsBefore, writes_mark, IsKnownMark, OperandsKnown, Advances, mark_is_sent}
use Rattle.rv_hardware.proofs.Marks.Cited.{Kept, last_from-append, Mark, mark_of_row, mark_of_entry, mark_of_fetched}
use Rattle.rv_hardware.proofs.Marks.Cited.{broadcast_of_stage, marks_append, start_of_execution, start_of_stage}
use Rattle.rv_hardware.proofs.Marks.Cited.{writer_serialises, SoundRow, AreSerialLast, older_plain, instructions_of}
use Rattle.rv_hardware.proofs.Marks.Cited.{SoundEntry, SoundStage, is_of_kind_is, after_is_kept}
use Rattle.rv_hardware.proofs.Laws.OtherUnits.Rows.{begins_mark}

-- an instruction that could start in a cycle
pub record MayStart (k : Kind) (c : ℕ) (before : List Mark) (m : Mark) : Type 0 where
  pub kind : is_of_kind k (kind_of_word m.instruction) ≡ true
  pub plain : is_load m.instruction ≡ false
  pub dispatched : IsBefore c m.dispatched
  pub not_yet : m.start ≡ None
  pub operands : OperandsKnown c before (sources_of_word m.instruction)

-- where one does not, so many that are older did
abbrev pub BusyUnits : Kind → ℕ → ℕ → List Mark → Mark → Type 0
BusyUnits k j c before m = MayStart k c before m → j ≤ count (begins_mark k c) before

-- what is known after a mark that went on was known before

module _ (c : ℕ) (m n : Mark) (instruction : n.instruction ≡ m.instruction)
    (known : IsKnownMark c n → IsKnownMark c m) where
  either : (b : Bool) (z : Mark) (o p : Option Mark) → (IfSome o (IsKnownMark c) → IfSome p (IsKnownMark c)) →
      IfSome (cond b (Some z) o) (IsKnownMark c) → IfSome (cond b (Some z) p) (IsKnownMark c)
  either b z o p f h = grind arith

  last_more : (test : Mark → Bool) (mid : List Mark) (o p : Option Mark) →
      (IfSome o (IsKnownMark c) → IfSome p (IsKnownMark c)) → IfSome (last_from o test mid) (IsKnownMark c) →
      IfSome (last_from p test mid) (IsKnownMark c)
  last_more test [] o p f h = f h
  last_more test (z ∷ mid) o p f h =
      last_more test mid (cond (test z) (Some z) o) (cond (test z) (Some z) p) (either (test z) z o p f) h

  here : (b : Bool) (found : Option Mark) → IfSome (cond b (Some n) found) (IsKnownMark c) →
      IfSome (cond b (Some m) found) (IsKnownMark c)
  here b found h = grind arith

  last_back : (register : ℕ) (xs mid : List Mark) →
      IfSome (last_that (writes_mark register) (xs ++ n ∷ mid)) (IsKnownMark c) →
      IfSome (last_that (writes_mark register) (xs ++ m ∷ mid)) (IsKnownMark c)
  last_back register xs mid h = grind (arith, last_from-append, last_more, here)

  operands_back : (xs mid : List Mark) (sources : List (Option ℕ)) → OperandsKnown c (xs ++ n ∷ mid) sources →
      OperandsKnown c (xs ++ m ∷ mid) sources
  operands_back xs mid [] h = tt
  operands_back xs mid (None ∷ sources) h = (tt, operands_back xs mid sources h.1)
  operands_back xs mid (Some register ∷ sources) h = (last_back register xs mid h.0, operands_back xs mid sources h.1)

  -- what could start after a mark that went on could start after it before that
  pub may_back : (k : Kind) (xs mid : List Mark) (z : Mark) → MayStart k c (xs ++ n ∷ mid) z →
      MayStart k c (xs ++ m ∷ mid) z
  may_back k xs mid z may = grind (arith, operands_back)

-- each way of going on

record Back (now : ℕ) (m n : Mark) : Type 0 where
  instruction : n.instruction ≡ m.instruction
  known : IsKnownMark now n → IsKnownMark now m

not_now : {P : Type 0} (now : ℕ) (o : Option ℕ) → o ≡ Some now → IsBefore now o → P
not_now now o given h = grind arith

same_known : (now : ℕ) (m n : Mark) → n.instruction ≡ m.instruction → n.broadcast ≡ m.broadcast → IsKnownMark now n →
    IsKnownMark now m
same_known now m n instruction broadcast h some =
    subst (IsBefore now) broadcast (h (subst (λ i. is_some (kind_of_word i) ≡ true) (sym instruction) some))

goes_back : {v : Values} {now : ℕ} {xs : List Mark} {m n : Mark} → Advances v now xs m n → Back now m n
goes_back (mark_is_sent a) = grind (arith, not_now)
goes_back given = grind (arith, same_known)

-- the mark itself, once it went on

some_not_none : {X P : Type 0} (o : Option X) (x : X) → o ≡ Some x → o ≡ None → P
some_not_none o x some none = absurd (cc)

itself : (k : Kind) (j : ℕ) {v : Values} {now : ℕ} {xs : List Mark} {m n : Mark} → Advances v now xs m n →
    BusyUnits k j now xs m → BusyUnits k j now xs n
itself k j given h may = grind (arith, some_not_none, not_now)

still_begins : (k : Kind) {v : Values} {now : ℕ} {xs : List Mark} {m n : Mark} → Advances v now xs m n →
    begins_mark k now m ≡ true → begins_mark k now n ≡ true
still_begins k given h = grind (arith, never_both)

-- and those after it
after_it : (k : Kind) (j : ℕ) {v : Values} {now : ℕ} {xs : List Mark} {m n : Mark} → Advances v now xs m n →
    (mid : List Mark) (z : Mark) → BusyUnits k j now (xs ++ m ∷ mid) z → BusyUnits k j now (xs ++ n ∷ mid) z
after_it k j {now = now} {xs} {m} {n} a mid z busy may =
    let back = goes_back a in
    let grown = count-set-grows (begins_mark k now) xs mid m n (still_begins k a) in
    let before = busy (may_back now m n back.instruction back.known k xs mid z may) in
    omega (arith, grown, before)

-- marks that go on keep it that, where one could start but does not, so many that are older did
pub busy_units_are_kept : (k : Kind) (j : ℕ) (v : Values) (now : ℕ) → Kept v now (EveryAfter (BusyUnits k j now) [])
busy_units_are_kept k j v now =
    after_is_kept (BusyUnits k j now) (λ xs m n a. itself k j a) (λ xs m n a. after_it k j a)

-- an entry that may start is ready

module _ (v : Values) (k : Kind) (now : ℕ) where
  waiting_by : (i : Option Instr) (D a b : ℕ) (st : Stage) → SoundStage v i D a b st →
      is_of_kind k (kind_of_word i) ≡ true → start_of_stage st ≡ None → is_waiting st ≡ true
  waiting_by i D a b st sound kind given = grind (arith, is_of_kind_is)

  broadcast_by : (i : Option Instr) (D a b : ℕ) (st : Stage) → SoundStage v i D a b st →
      IsBefore now (broadcast_of_stage st) → is_some (broadcast_of st) ≡ true
  broadcast_by i D a b st sound h = grind arith

  -- a writer that is known was broadcast
  writer_known : (d a b : ℕ) (e : Entry) (register : ℕ) → SoundEntry v d a b e → is_serialising e.instruction ≡ false →
      writes e register ≡ true → IsKnownMark now (mark_of_entry e) → is_some (broadcast_of e.stage) ≡ true
  writer_known d a b e register sound plain writes_it known = grind (arith, true≢false, writer_serialises, broadcast_by)

  known_either : {b : Bool} {d i j : ℕ} {e : Entry} (register : ℕ) {known : Bool} (found : Option Mark) →
      writes e register ≡ b → SoundEntry v d i j e → is_serialising e.instruction ≡ false →
      (IfSome found (IsKnownMark now) → known ≡ true) →
      IfSome (cond b (Some (mark_of_entry e)) found) (IsKnownMark now) →
      cond b (is_some (broadcast_of e.stage)) known ≡ true
  known_either register found is sound plain before h = grind (arith, writer_known)

  known_from : (d i j register : ℕ) (known : Bool) (found : Option Mark) (es : List Entry) →
      Each (SoundEntry v d i j) es → Each (λ e. is_serialising e.instruction ≡ false) es →
      (IfSome found (IsKnownMark now) → known ≡ true) →
      IfSome (last_from found (writes_mark register) (map mark_of_entry es)) (IsKnownMark now) →
      is_known_from known es register ≡ true
  known_from d i j register known found [] sound plain before h = before h
  known_from d i j register known found (e ∷ es) sound plain before h =
      grind (
        arith,
        known_either,
        known_from d i j register (cond (writes e register) (is_some (broadcast_of e.stage)) known)
            (cond (writes e register) (Some (mark_of_entry e)) found) es sound.1 plain.1
            (known_either register found refl sound.0 plain.0 before) h,
      )

  operands_by : (d i j : ℕ) (rows : List Row) (older : List Entry) (sources : List (Option ℕ)) →
      Each (SoundEntry v d i j) older → Each (λ e. is_serialising e.instruction ≡ false) older →
      OperandsKnown now (map mark_of_row rows ++ map mark_of_entry older) sources → has_operands older sources ≡ true
  operands_by d i j rows older [] sound plain h = refl
  operands_by d i j rows older (None ∷ sources) sound plain h = operands_by d i j rows older sources sound plain h.1
  operands_by d i j rows older (Some register ∷ sources) sound plain h =
      grind (arith, known_from, last_from-append, operands_by d i j rows older sources sound plain h.1)

  loads_by : (b c : Bool) → b ≡ false → (not b || c) ≡ true
  loads_by b c is = grind arith

  pub may_is_ready : (d i j : ℕ) (rows : List Row) (h : Hardware) (older : List Entry) (e : Entry) →
      Each (SoundEntry v d i j) older → Each (λ x. is_serialising x.instruction ≡ false) older → SoundEntry v d i j e →
      MayStart k now (map mark_of_row rows ++ map mark_of_entry older) (mark_of_entry e) → is_ready h k older e ≡ true
  may_is_ready d i j rows h older e sounds serial sound may = grind (arith, and_from, waiting_by, operands_by, loads_by)

  -- no row and no word may start
  row_not_by : (x : Option Execution) (i : Option Instr) → is_some x ≡ is_some (kind_of_word i) →
      is_of_kind k (kind_of_word i) ≡ true → start_of_execution x ≡ None → ⊥
  row_not_by x i same kind given = grind (arith, is_of_kind_is)

  -- rows do not start any more
  pub rows_do_not_start : (bound : ℕ) (before : List Mark) (rows : List Row) → Each (SoundRow v bound) rows →
      EveryAfter (λ b m. MayStart k now b m → ⊥) before (map mark_of_row rows)
  rows_do_not_start bound before [] sound = tt
  rows_do_not_start bound before (row ∷ rows) sound =
      grind (arith, row_not_by, rows_do_not_start bound (before ++ mark_of_row row ∷ []) rows sound.1)

  -- fetched words cannot start yet
  pub words_do_not_start : (before : List Mark) (fs : List Fetched) →
      EveryAfter (λ b m. MayStart k now b m → ⊥) before (map mark_of_fetched fs)
  words_do_not_start before [] = tt
  words_do_not_start before (f ∷ fs) =
      ((λ may. may.dispatched), words_do_not_start (before ++ mark_of_fetched f ∷ []) fs)

  -- instructions that are not ready cannot start
  pub entries_do_not_start : (d i j : ℕ) (rows : List Row) (h : Hardware) (before es : List Entry) →
      Each (SoundEntry v d i j) before → Each (SoundEntry v d i j) es → AreSerialLast (instructions_of (before ++ es)) →
      EveryAfter (λ b e. is_ready h k b e ≡ false) before es →
      EveryAfter (λ b m. MayStart k now b m → ⊥) (map mark_of_row rows ++ map mark_of_entry before)
      (map mark_of_entry es)
  entries_do_not_start d i j rows h before [] sounds sound last none = tt
  entries_do_not_start d i j rows h before (e ∷ es) sounds sound last none = (
    (λ may. absurd
        (true≢false
        (sym (may_is_ready d i j rows h before e sounds (older_plain before es e last) sound.0 may) ∙ none.0))),
    subst (λ l. EveryAfter (λ b m. MayStart k now b m → ⊥) l (map mark_of_entry es))
        (ap (λ l. map mark_of_row rows ++ l) (marks_append before (e ∷ [])) ∙
        sym (append_assoc (map mark_of_row rows) (map mark_of_entry before) (mark_of_entry e ∷ [])))
        (entries_do_not_start d i j rows h _ es (Each-append _ before _ sounds (sound.0, tt)) sound.1
        (subst (λ l. AreSerialLast (instructions_of l)) (sym (append_assoc before (e ∷ []) es)) last) none.1),
  )
