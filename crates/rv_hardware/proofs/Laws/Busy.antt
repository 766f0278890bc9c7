-- A cycle in which an instruction was dispatched is a busy one.
use Rattle.rv_hardware.proofs.Words.{◌≡◌, ℕ, suc, ◌+◌, ◌-◌, ◌<◌, ◌≤◌, Bool, true, false, cond, not, ◌||◌, List, [], ◌∷◌}
use Rattle.rv_hardware.proofs.Words.{◌++◌, map, length, ◌==◌, Some, None, sym, refl, ap, ◌∙◌, subst, append_assoc}
use Rattle.rv_hardware.proofs.Words.{append-nil, arith, ne_eqb, eqb-true, list_any, range_with_len, Arrival, Lines}
use Rattle.rv_hardware.proofs.Words.{Values, Each, Entry, Fetched, IsCycle, any_prediction, Dispatching, dispatch}
use Rattle.rv_hardware.proofs.Words.{dispatch_turn, Hardware, AreCounted, dispatch_cycles, Turn, Report, Cycles}
use Rattle.rv_hardware.proofs.Words.{Reachable, busy_of, cycled, ended, stalls_of, steps_of, is_dispatched_in, rows_of}
use Rattle.rv_hardware.proofs.Words.{Row, Step, Each-left, Each-all, Each-unmap, count, count-count_by, count-le, Leads}
use Rattle.rv_hardware.proofs.Words.{kept_by_turns, Each-images, each_image, each_then, Each-append}
use Rattle.rv_hardware.proofs.Headline.Reached.{cycles_counted}
use Rattle.rv_hardware.proofs.Marks.Cited.{Advances, Kept, Anything, History, went_on, Passed, cycle_passes}
use Rattle.rv_hardware.proofs.Marks.Cited.{dispatching, sent_all, history_is_legal, history_is_sound}
use Rattle.rv_hardware.proofs.Marks.Cited.{reachable_has_history, history_passes, DispatchTurn, dispatch_turn_is, Mark}
use Rattle.rv_hardware.proofs.Marks.Cited.{mark_of_row, mark_of_fetched, marks_in, rows_append, each_is_kept}
use Rattle.rv_hardware.proofs.Laws.OfCycles.{counts_of_runs}

-- it was not dispatched in cycle c
abbrev IsElsewhere : ℕ → Mark → Type 0
IsElsewhere c m = m.dispatched ≡ Some c → ⊥

elsewhere : {c d : ℕ} → d < c → Some d ≡ Some c → ⊥
elsewhere {c} {d} lt same = let equal : d ≡ c = cc in omega (arith, lt, equal)

later_than : (c now : ℕ) → c < now → Some now ≡ Some c → ⊥
later_than c now lt same = let equal : now ≡ c = cc in omega (arith, lt, equal)

-- what later cycles keep
goes_elsewhere : (c : ℕ) {v : Values} {now : ℕ} {xs : List Mark} {m n : Mark} → c < now → Advances v now xs m n →
    IsElsewhere c m → IsElsewhere c n
goes_elsewhere c lt given h same = grind (arith, later_than)

elsewhere_is_kept : (c : ℕ) (v : Values) (now : ℕ) → c < now → Kept v now (Each (IsElsewhere c))
elsewhere_is_kept c v now lt = each_is_kept (IsElsewhere c) (λ xs m n a. goes_elsewhere c lt a)

words_elsewhere : (c : ℕ) (fs : List Fetched) → Each (IsElsewhere c) (map mark_of_fetched fs)
words_elsewhere c fs = Each-images _ _ (λ f same. absurd (cc)) fs

module _ (v : Values) (c : ℕ) where
  elsewhere_goes_on : {earlier : List Step} {old new : Hardware} {lines : Lines} {report : Report} → c < old.cycle →
      History v earlier old → IsCycle any_prediction lines old report new →
      Each (IsElsewhere c) (marks_in earlier old) → Each (IsElsewhere c) (marks_in (earlier ++ report.steps) new)
  elsewhere_goes_on {earlier} {old} {new} {lines} {report} lt before is h =
      let passed = cycle_passes (history_is_legal before) lines new report (elsewhere_is_kept c v old.cycle lt)
      (history_is_sound before) h is in
      let d : Hardware = (dispatching lines old).hardware in
      subst (Each (IsElsewhere c)) (sym passed.new_marks)
      (Each-append _ _ _ passed.dispatches.marks (words_elsewhere c passed.fetches.added))

  elsewhere_at_end : {arrivals : List Arrival} {earlier : List Step} {old new : Hardware} {reports : List Report} →
      Cycles arrivals old reports new → c < old.cycle → History v earlier old →
      Each (IsElsewhere c) (marks_in earlier old) → Each (IsElsewhere c) (marks_in (earlier ++ steps_of reports) new)
  elsewhere_at_end {earlier} {old} ended lt before h =
      subst (λ (l : List Step). Each (IsElsewhere c) (marks_in l old)) (sym (append-nil earlier)) h
  elsewhere_at_end {earlier} {old} {new}
      (cycled {middle = middle} {report = report} {reports = reports} is rest) lt before h =
      let next : middle.cycle ≡ old.cycle + 1 = ap (λ (g : Hardware). g.cycle) is.others_stay in
      subst (λ (l : List Step). Each (IsElsewhere c) (marks_in l new))
      (append_assoc earlier report.steps (steps_of reports))
      (elsewhere_at_end rest (omega (arith, next, lt)) (went_on before is) (elsewhere_goes_on lt before is h))

-- ---- a cycle that dispatches nothing

module _ (now : ℕ) where
  abbrev NoneNow : Dispatching → Type 0
  NoneNow d = d.dispatched ≡ 0 → Each (λ (e : Entry). e.dispatched < now) d.hardware.rob.entries

  none_now_turn : {d : Dispatching} {t : Turn Dispatching} → DispatchTurn d t → NoneNow d → Leads NoneNow NoneNow t
  none_now_turn given h = grind arith

  none_now : (h : Hardware) → Each (λ (e : Entry). e.dispatched < now) h.rob.entries → NoneNow (dispatch h)
  none_now h all =
      kept_by_turns NoneNow dispatch_turn (λ d p. none_now_turn (dispatch_turn_is d) p) h.values.dispatch_width
      (record { hardware = h; dispatched = 0; waits_for = None }) (λ none. all)

module _ (v : Values) {earlier : List Step} {old new : Hardware} {lines : Lines} {report : Report}
    (before : History v earlier old) (is : IsCycle any_prediction lines old report new)
    (idle : report.dispatched ≡ 0) where
  passed : Passed v Anything earlier lines old report new
  passed = history_passes v before is

  idle_marks : Each (IsElsewhere old.cycle) (marks_in (earlier ++ report.steps) new)
  idle_marks =
      let now : ℕ = old.cycle in
      let d : Hardware = (dispatching lines old).hardware in
      let all : List Step = earlier ++ report.steps in
      let entries = none_now now (sent_all lines old) (each_then (λ e s. s.by_now) _ passed.sends.basics.entries)
      (sym passed.report_is.0 ∙ idle) in
      subst (Each (IsElsewhere now)) (sym passed.new_marks)
      (Each-append _ _ _
      (Each-append _ _ _
      (each_image _
      (λ row s. elsewhere (omega (arith, s.stamps.retired_after_dispatch, s.below))) _ passed.dispatches.basics.rows)
      (Each-append _ _ _ (each_image _ (λ e lt. elsewhere lt) _ entries) (words_elsewhere now d.front.entries)))
      (words_elsewhere now passed.fetches.added))

-- no row was dispatched in it
none_dispatched : (c : ℕ) (rows : List Row) → Each (λ row. IsElsewhere c (mark_of_row row)) rows →
    list_any (is_dispatched_in c) rows ≡ false
none_dispatched c [] h = refl
none_dispatched c (row ∷ rows) h =
    rw (ne_eqb row.dispatched c (λ same. h.0 (ap (λ n. Some n) same))) (none_dispatched c rows h.1)

-- ---- over a run

abbrev is_used : List Row → ℕ → Bool
is_used rows c = list_any (is_dispatched_in c) rows

busy_by : {b used : Bool} (n m : ℕ) → (b ≡ true → used ≡ false) → n ≤ m → cond used (suc n) n ≤ cond (not b) (suc m) m
busy_by n m given le = grind arith

used_cycles : {v : Values} {arrivals : List Arrival} {earlier : List Step} {old new : Hardware}
    {reports : List Report} →
    Cycles arrivals old reports new → History v earlier old →
    count (is_used (rows_of (earlier ++ steps_of reports))) (range_with_len old.cycle (length reports)) ≤
    count (λ (report : Report). not (report.dispatched == 0)) reports
used_cycles ended before = omega arith
used_cycles {v} {earlier} {old} {new} (cycled {middle = middle} {report = report} {reports = reports} is rest) before =
    let next : middle.cycle ≡ old.cycle + 1 = ap (λ (g : Hardware). g.cycle) is.others_stay in
    let all : List Row = rows_of (earlier ++ (report.steps ++ steps_of reports)) in
    let same : rows_of ((earlier ++ report.steps) ++ steps_of reports) ≡ all =
    ap rows_of (append_assoc earlier report.steps (steps_of reports)) in
    let later : count (is_used all) (range_with_len (old.cycle + 1) (length reports)) ≤
    count (λ (r : Report). not (r.dispatched == 0)) reports =
    subst (λ (n : ℕ). count (is_used all) (range_with_len n (length reports)) ≤
    count (λ (r : Report). not (r.dispatched == 0)) reports)
    next
    (subst (λ (rows : List Row). count (is_used rows) (range_with_len middle.cycle (length reports)) ≤
    count (λ (r : Report). not (r.dispatched == 0)) reports)
    same
    (used_cycles rest (went_on before is))) in
    busy_by _ _
    (λ idle. subst (λ (rows : List Row). is_used rows old.cycle ≡ false) same
    (none_dispatched old.cycle _
    (Each-unmap _ _ _
    (Each-left _ _ _
    (elsewhere_at_end v old.cycle rest (omega (arith, next)) (went_on before is)
    (idle_marks v before is (eqb-true report.dispatched 0 idle)))))))
    later

-- the rows of a run are some of all
used_first : (b : Bool) {used : Bool} → used ≡ true → (b || used) ≡ true
used_first b h = grind arith

some_of_all : (xs ys : List Row) (c : ℕ) → is_used ys c ≡ true → is_used (xs ++ ys) c ≡ true
some_of_all [] ys c h = h
some_of_all (x ∷ xs) ys c h = used_first (x.dispatched == c) (some_of_all xs ys c h)

-- the cycles of a run in which its rows were dispatched are busy
busy_of_runs : {arrivals : List Arrival} {old new : Hardware} {reports : List Report} → Reachable old →
    Cycles arrivals old reports new → dispatch_cycles old.cycle new.cycle (rows_of (steps_of reports)) ≤ busy_of reports
busy_of_runs {arrivals} {old} {new} {reports} reached cycles =
    let before = reachable_has_history reached in
    let length_is : new.cycle - old.cycle ≡ length reports = omega (arith, cycles_counted cycles) in
    let numbers : List ℕ = range_with_len old.cycle (new.cycle - old.cycle) in
    let here = count-count_by (is_used (rows_of (steps_of reports))) numbers in
    let among = count-le (is_used (rows_of (steps_of reports)))
    (is_used (rows_of (before.1 ++ steps_of reports))) numbers
    (Each-all _
    (λ c h. subst (λ (rows : List Row). is_used rows c ≡ true) (sym (rows_append before.1 (steps_of reports)))
    (some_of_all (rows_of before.1) (rows_of (steps_of reports)) c h))
    numbers) in
    let used = subst
    (λ (n : ℕ). count (is_used (rows_of (before.1 ++ steps_of reports))) (range_with_len old.cycle n) ≤
    count (λ (report : Report). not (report.dispatched == 0)) reports)
    (sym length_is)
    (used_cycles cycles before.2) in
    let busy = count-count_by (λ (report : Report). not (report.dispatched == 0)) reports in
    omega (arith, here, among, used, busy)

-- the counts of a run
pub counts_hold : {arrivals : List Arrival} {old new : Hardware} {reports : List Report} → Reachable old →
    Cycles arrivals old reports new →
    AreCounted old.cycle new.cycle (steps_of reports) (busy_of reports) (stalls_of reports) (length reports)
counts_hold reached cycles = grind (arith, counts_of_runs, busy_of_runs)
