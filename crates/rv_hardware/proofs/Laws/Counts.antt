-- The busy cycles and the stalls of a run make its cycles.
use Rattle.rv_hardware.proofs.Words.{◌≡◌, ℕ, suc, ◌+◌, ◌<◌, ◌≤◌, Bool, true, false, cond, not, List, [], ◌∷◌, length}
use Rattle.rv_hardware.proofs.Words.{◌==◌, Some, None, Option, refl, arith, ne_eqb, Dispatching, dispatch}
use Rattle.rv_hardware.proofs.Words.{dispatch_turn, stall_of, Hardware, stall_cycles, Turn, Report, counted, busy_of}
use Rattle.rv_hardware.proofs.Words.{counted_stall, stalls_from, stalls_of, Stall, count, count-count_by, Leads}
use Rattle.rv_hardware.proofs.Words.{turns_within}
use Rattle.rv_hardware.specs.Report.{all_stalls, no_stalls}
use Rattle.rv_hardware.specs.declared.report.StallCounts.{StallCounts}
use Rattle.rv_hardware.proofs.Turns.Dispatch.{DispatchTurn, dispatch_turn_is}

-- a cycle is busy, or stalls for one reason
abbrev pub IsCounted : Bool → Option Stall → Type 0
IsCounted true (Some reason) = Unit {0}
IsCounted false None = Unit {0}
IsCounted _ _ = ⊥

abbrev IsCountedDispatch : Dispatching → Type 0
IsCountedDispatch d = IsCounted (d.dispatched == 0) (stall_of d)

abbrev Counts : ℕ → Dispatching → Type 0
Counts k d = d.dispatched ≡ k

counted_some : (b : Bool) (reason : Stall) → IsCounted b (cond b (Some reason) None)
counted_some b reason = grind arith

counted_more : (n : ℕ) (o : Option Stall) → 0 < n → IsCounted (n == 0) (cond (n == 0) o None)
counted_more n o lt = rw (ne_eqb n 0 (omega arith)) tt

dispatch_turn_counted : (k : ℕ) {d : Dispatching} {t : Turn Dispatching} → DispatchTurn d t → Counts k d →
    Leads (Counts (suc k)) IsCountedDispatch t
dispatch_turn_counted k given p = grind (arith, counted_some)

-- the dispatch phase dispatches something or gives a reason for its stall
pub dispatch_is_counted : (h : Hardware) → 1 ≤ h.values.dispatch_width → IsCountedDispatch (dispatch h)
dispatch_is_counted h le =
    turns_within h.values.dispatch_width Counts IsCountedDispatch dispatch_turn
    (λ k d lt p. dispatch_turn_counted k (dispatch_turn_is d) p)
    (λ d p. counted_more d.dispatched d.waits_for (omega (arith, p, le))) h.values.dispatch_width 0
    (record { hardware = h; dispatched = 0; waits_for = None }) (omega arith) refl

-- over all cycles

one_more : (reason : Stall) (counts : StallCounts) → stall_cycles (counted reason counts) ≡ suc (stall_cycles counts)
unfolding all_stalls
one_more reason counts = grind arith

none_stalled : stall_cycles no_stalls ≡ 0
unfolding all_stalls
none_stalled = refl

-- each report counts its cycle once: as busy, or as a stall for one reason
abbrev pub AreAllCounted : List Report → Type 0
AreAllCounted [] = Unit {0}
AreAllCounted (report ∷ reports) = IsCounted (report.dispatched == 0) report.stall × AreAllCounted reports

counts_by : (b : Bool) (o : Option Stall) (counts : StallCounts) (n : ℕ) → IsCounted b o →
    cond (not b) (suc n) n + stall_cycles (counted_stall o counts) ≡ suc (n + stall_cycles counts)
counts_by true (Some reason) counts n h = omega (arith, one_more reason counts)
counts_by true None counts n h = absurd h
counts_by false (Some reason) counts n h = absurd h
counts_by false None counts n h = omega arith

counts_from : (counts : StallCounts) (reports : List Report) → AreAllCounted reports →
    count (λ report. not (report.dispatched == 0)) reports + stall_cycles (stalls_from counts reports) ≡
    length reports + stall_cycles counts
counts_from counts [] h = refl
counts_from counts (report ∷ reports) h =
    grind (arith, counts_by, counts_from (counted_stall report.stall counts) reports h.1)

-- busy and stalls make the cycles
pub busy_and_stalls : (reports : List Report) → AreAllCounted reports →
    busy_of reports + stall_cycles (stalls_of reports) ≡ length reports
busy_and_stalls reports h = grind (arith, counts_from, count-count_by, none_stalled)
