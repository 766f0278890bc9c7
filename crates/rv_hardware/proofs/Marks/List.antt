-- The marks of rows, instructions and words go on, and stand as they stood at the end of each earlier cycle.
use Rattle.rv_hardware.proofs.Words.{◌≡◌, ℕ, ◌<◌, ◌≤◌, Bool, false, cond, List, [], ◌∷◌, ◌++◌, map, is_some}
use Rattle.rv_hardware.proofs.Words.{if◌then◌else◌, nat_le, Some, None, filter, Option, sym, refl, ap, ◌∙◌}
use Rattle.rv_hardware.proofs.Words.{append_assoc, append-nil, arith, le-leb, lt-leb, map-append, filter-append}
use Rattle.rv_hardware.proofs.Words.{Message, Instr, Issue, instruction_of, Each, Entry, Stage, Finished, Running}
use Rattle.rv_hardware.proofs.Words.{Waiting, Fetched, Hardware, rows_of, Execution, Row, Step, Retired, Each-weaker}
use Rattle.rv_hardware.proofs.Words.{Beginning, Beginning-self, Beginning-trans}

-- the start of an execution, and whether what it gives is a fault
pub record Start : Type 0 where
  pub cycle : ℕ
  pub cost : ℕ
  pub faults : Bool

-- the stamps of one fetched word on its way: of a row, of an instruction in flight or of a word in the fetch buffer
pub record Mark : Type 0 where
  pub instruction : Option Instr
  pub fetched : ℕ
  pub dispatched : Option ℕ
  pub start : Option Start
  pub broadcast : Option ℕ
  pub retired : Option ℕ

-- the start of a row's execution
abbrev pub start_of_execution : Option Execution → Option Start
start_of_execution None = None
start_of_execution (Some x) = Some (record { cycle = x.issued; cost = x.cost; faults = false })

-- the broadcast of a row's result
abbrev pub broadcast_of_execution : Option Execution → Option ℕ
broadcast_of_execution None = None
broadcast_of_execution (Some x) = Some x.broadcast

-- the mark of a row
abbrev pub mark_of_row : Row → Mark
mark_of_row row = record {
  instruction = instruction_of row.word;
  fetched = row.fetched;
  dispatched = Some row.dispatched;
  start = start_of_execution row.execution;
  broadcast = broadcast_of_execution row.execution;
  retired = Some row.retired;
}

-- the start of an instruction in flight
abbrev pub start_of_issue : Issue → Message → Start
start_of_issue issue message = record { cycle = issue.cycle; cost = issue.cost; faults = is_some message.fault }

-- the start that a stage records
abbrev pub start_of_stage : Stage → Option Start
start_of_stage Waiting = None
start_of_stage (Running issue message) = Some (start_of_issue issue message)
start_of_stage (Finished None cycle message) = None
start_of_stage (Finished (Some issue) cycle message) = Some (start_of_issue issue message)

-- the broadcast that a stage records
abbrev pub broadcast_of_stage : Stage → Option ℕ
broadcast_of_stage (Finished (Some issue) cycle message) = Some cycle
broadcast_of_stage _ = None

-- the mark of an instruction in flight
abbrev pub mark_of_entry : Entry → Mark
mark_of_entry e = record {
  instruction = e.instruction;
  fetched = e.fetched;
  dispatched = Some e.dispatched;
  start = start_of_stage e.stage;
  broadcast = broadcast_of_stage e.stage;
  retired = None;
}

-- the mark of a word in the fetch buffer
abbrev pub mark_of_fetched : Fetched → Mark
mark_of_fetched f = record {
  instruction = f.instruction;
  fetched = f.cycle;
  dispatched = None;
  start = None;
  broadcast = None;
  retired = None;
}

-- those of the rows, those in flight, those that were fetched
abbrev pub marks : List Step → List Entry → List Fetched → List Mark
marks steps es fs = map mark_of_row (rows_of steps) ++ (map mark_of_entry es ++ map mark_of_fetched fs)

-- the marks before an instruction in flight: of the rows, and of what is older
abbrev pub older_marks : List Step → List Entry → List Mark
older_marks steps older = map mark_of_row (rows_of steps) ++ map mark_of_entry older

-- the marks after some steps: of their rows, and of what the hardware holds
abbrev pub marks_in : List Step → Hardware → List Mark
marks_in steps h = marks steps h.rob.entries h.front.entries

-- what was so by the end of a cycle
abbrev pub until : ℕ → Option ℕ → Option ℕ
until c None = None
until c (Some d) = if nat_le d c then Some d else None

-- a start that was made by the end of a cycle
abbrev pub start_until : ℕ → Option Start → Option Start
start_until c None = None
start_until c (Some s) = if nat_le s.cycle c then Some s else None

-- a mark as it stood at the end of a cycle
abbrev pub at_end : ℕ → Mark → Mark
at_end c m = record {
  instruction = m.instruction;
  fetched = m.fetched;
  dispatched = until c m.dispatched;
  start = start_until c m.start;
  broadcast = until c m.broadcast;
  retired = until c m.retired;
}

-- the word was fetched by the end of a cycle
abbrev pub was_fetched : ℕ → Mark → Bool
was_fetched c m = nat_le m.fetched c

-- marks as they stood at the end of a cycle
abbrev pub as_of : ℕ → List Mark → List Mark
as_of c ms = map (at_end c) (filter (was_fetched c) ms)

-- a later list begins as the earlier one did, as of each cycle before the present one
abbrev pub Extends : ℕ → List Mark → List Mark → Type 0
Extends now old new = (c : ℕ) → c < now → Beginning (as_of c new) (as_of c old)

-- marks begin as they did
pub Extends-self : (now : ℕ) (ms : List Mark) → Extends now ms ms
Extends-self now ms c lt = Beginning-self (as_of c ms)

-- what begins as marks did that begin as others did begins as these
pub Extends-trans : {now : ℕ} (xs ys zs : List Mark) → Extends now xs ys → Extends now ys zs → Extends now xs zs
Extends-trans xs ys zs f g c lt = Beginning-trans (as_of c zs) (as_of c ys) (as_of c xs) (g c lt) (f c lt)

-- the marks of instructions in flight in two parts
pub marks_append : (xs ys : List Entry) → map mark_of_entry (xs ++ ys) ≡ map mark_of_entry xs ++ map mark_of_entry ys
marks_append xs ys = map-append mark_of_entry xs ys

pub fetched_append : (xs ys : List Fetched) →
    map mark_of_fetched (xs ++ ys) ≡ map mark_of_fetched xs ++ map mark_of_fetched ys
fetched_append xs ys = map-append mark_of_fetched xs ys

-- the rows of steps in two parts
pub rows_append : (xs ys : List Step) → rows_of (xs ++ ys) ≡ rows_of xs ++ rows_of ys
rows_append [] ys = refl
rows_append (Retired row ∷ xs) ys = ap (λ l. row ∷ l) (rows_append xs ys)
rows_append (step ∷ xs) ys = rows_append xs ys

pub row_marks_append : (xs ys : List Step) →
    map mark_of_row (rows_of (xs ++ ys)) ≡ map mark_of_row (rows_of xs) ++ map mark_of_row (rows_of ys)
row_marks_append xs ys = ap (map mark_of_row) (rows_append xs ys) ∙ map-append mark_of_row (rows_of xs) (rows_of ys)

-- marks in two parts, as they stood at the end of a cycle
pub as_of-append : (c : ℕ) (xs ys : List Mark) → as_of c (xs ++ ys) ≡ as_of c xs ++ as_of c ys
as_of-append c xs ys = grind (arith, filter-append, map-append)

-- a mark that was not fetched by then
pub as_of-later : (c : ℕ) (ms : List Mark) → Each (λ m. c < m.fetched) ms → as_of c ms ≡ []
as_of-later c [] later = refl
as_of-later c (m ∷ ms) later = rw (lt-leb m.fetched c later.0) (as_of-later c ms later.1)

-- two marks that were the same at the end of every earlier cycle
abbrev pub Agree : ℕ → Mark → Mark → Type 0
Agree now m n = (m.fetched ≡ n.fetched) × ((c : ℕ) → c < now → at_end c m ≡ at_end c n)

picked : (b : Bool) (c : ℕ) (m : Mark) (ms : List Mark) →
    map (at_end c) (cond b (m ∷ ms) ms) ≡ cond b (at_end c m ∷ map (at_end c) ms) (map (at_end c) ms)
picked b c m ms = grind arith

-- a mark before others, as they stood at the end of a cycle: it is there if its word was fetched by then
pub as_of-cons : (c : ℕ) (m : Mark) (ms : List Mark) →
    as_of c (m ∷ ms) ≡ cond (nat_le m.fetched c) (at_end c m ∷ as_of c ms) (as_of c ms)
as_of-cons c m ms = picked (nat_le m.fetched c) c m (filter (was_fetched c) ms)

as_of-agree : (now c : ℕ) (m n : Mark) (ms : List Mark) → c < now → Agree now m n → as_of c (m ∷ ms) ≡ as_of c (n ∷ ms)
as_of-agree now c m n ms lt agree = grind (arith, as_of-cons)

-- the ways in which marks go on

-- the last marks are cut
pub Extends-cut : (now : ℕ) (new rest : List Mark) → Extends now (new ++ rest) new
Extends-cut now new rest c lt = (as_of c rest, as_of-append c new rest)

-- a mark goes on to one that was the same at the end of every earlier cycle
pub Extends-change : (now : ℕ) (before after : List Mark) (m n : Mark) → Agree now m n →
    Extends now (before ++ m ∷ after) (before ++ n ∷ after)
Extends-change now before after m n agree c lt = grind (arith, as_of-append, as_of-agree, append-nil)

-- words of the present cycle come after the marks
pub Extends-more : (now : ℕ) (ms more : List Mark) → Each (λ m. now ≤ m.fetched) more → Extends now ms (ms ++ more)
Extends-more now ms more later c lt = grind (arith, as_of-later, Each-weaker, as_of-append, append-nil)

-- a stamp that was made by the end of a cycle
pub until_by : (c d : ℕ) → d ≤ c → until c (Some d) ≡ Some d
until_by c d le = rw (le-leb d c le) refl

-- a stamp of the present cycle was not there before
pub until_now : (now c : ℕ) → c < now → until c (Some now) ≡ None
until_now now c lt = rw (lt-leb now c lt) refl

-- a start of a later cycle was not there before
pub start_until_now : (c : ℕ) (s : Start) → c < s.cycle → start_until c (Some s) ≡ None
start_until_now c s lt = rw (lt-leb s.cycle c lt) refl

-- where the marks of the instructions stand

-- the mark of an instruction in flight stands between those of the older and those of the younger
pub marks_at_entry : (steps : List Step) (older younger : List Entry) (e : Entry) (fs : List Fetched) →
    marks steps (older ++ e ∷ younger) fs ≡
    (map mark_of_row (rows_of steps) ++ map mark_of_entry older) ++ mark_of_entry
    e ∷ (map mark_of_entry younger ++ map mark_of_fetched fs)
marks_at_entry steps older younger e fs = grind (arith, marks_append, append_assoc)

-- the mark of a row that just retired stands before those of what is in flight
pub marks_retired : (steps : List Step) (row : Row) (es : List Entry) (fs : List Fetched) →
    marks (steps ++ Retired row ∷ []) es fs ≡
    map mark_of_row (rows_of steps) ++ mark_of_row row ∷ (map mark_of_entry es ++ map mark_of_fetched fs)
marks_retired steps row es fs = grind (arith, row_marks_append, append_assoc)

-- the mark of the oldest fetched word comes after those of what is in flight
pub marks_dispatched : (steps : List Step) (es : List Entry) (f : Fetched) (fs : List Fetched) →
    marks steps es (f ∷ fs) ≡
    (map mark_of_row (rows_of steps) ++ map mark_of_entry es) ++ mark_of_fetched f ∷ map mark_of_fetched fs
marks_dispatched steps es f fs =
    sym (append_assoc (map mark_of_row (rows_of steps)) (map mark_of_entry es) (map mark_of_fetched (f ∷ fs)))

-- the marks of further words stand at the end
pub marks_fetched : (steps : List Step) (es : List Entry) (fs more : List Fetched) →
    marks steps es (fs ++ more) ≡ marks steps es fs ++ map mark_of_fetched more
marks_fetched steps es fs more = grind (arith, fetched_append, append_assoc)

-- what is left where everything younger is squashed
pub marks_squashed : (steps : List Step) (older younger : List Entry) (fs : List Fetched) →
    Beginning (marks steps older []) (marks steps (older ++ younger) fs)
marks_squashed steps older younger fs = (
  map mark_of_entry younger ++ map mark_of_fetched fs,
  ap (λ l. map mark_of_row (rows_of steps) ++ (l ++ map mark_of_fetched fs)) (marks_append older younger) ∙
      ap (λ l. map mark_of_row (rows_of steps) ++ l)
      (append_assoc (map mark_of_entry older) (map mark_of_entry younger) (map mark_of_fetched fs)) ∙
      sym (append_assoc (map mark_of_row (rows_of steps)) (map mark_of_entry older)
      (map mark_of_entry younger ++ map mark_of_fetched fs)) ∙
      ap (λ l. l ++ (map mark_of_entry younger ++ map mark_of_fetched fs))
      (ap (λ l. map mark_of_row (rows_of steps) ++ l) (sym (append-nil (map mark_of_entry older)))),
)
