-- Where the oldest instruction executes, a cycle brings its end nearer.
use Rattle.rv_hardware.proofs.Words.{◌≡◌, ℕ, suc, ◌+◌, ◌-◌, ◌<◌, ◌≤◌, true, false, not, List, [], ◌∷◌, ◌++◌, is_none}
use Rattle.rv_hardware.proofs.Words.{Option, sym, refl, ap, subst, inl, inr, true≢false, arith, le-leb, cases_lt}
use Rattle.rv_hardware.proofs.Words.{is_serialising, Message, Instr, Issue, Kind, Values, started, Entry, Stage}
use Rattle.rv_hardware.proofs.Words.{Finished, Running, FetchBuffer, broadcast, broadcast_turn, has_result, result_at}
use Rattle.rv_hardware.proofs.Words.{execute, drain, Hardware, is_waiting, issue, Turn, repeated, EveryAfter, Leaves}
use Rattle.rv_hardware.proofs.Words.{left_by_the_rest, kept_by_turns}
use Rattle.rv_hardware.proofs.Marks.Cited.{BroadcastTurn, HasRun, no_result, sends, mends, broadcast_turn_is}
use Rattle.rv_hardware.proofs.Marks.Cited.{drain-same, IsKeptByIssue, issue-keeps, AreEnding, longest_execution}
use Rattle.rv_hardware.proofs.Gap.Execute.{execute-same, head-dispatched, head-turn, issued-same, later, plain-patience}
use Rattle.rv_hardware.proofs.Gap.Execute.{head-executed}
use Rattle.rv_hardware.proofs.Gap.Head.{HeadIs, head-change}
use Rattle.rv_hardware.proofs.Gap.Patience.{patience, stage_time}

-- it executes until a cycle
abbrev pub RunsUntil : ℕ → Stage → Type 0
RunsUntil end (Running issue message) = issue.cycle + issue.cost ≡ end
RunsUntil end _ = ⊥

abbrev IsOver : Stage → Type 0
IsOver (Finished issue cycle message) = Unit {0}
IsOver _ = ⊥

-- ---- its result
result_due : (end cycle : ℕ) (stage : Stage) → RunsUntil end stage → end ≤ cycle →
    not (is_none (result_at cycle stage)) ≡ true
result_due end cycle stage runs due = grind (arith, le-leb)

not_waiting : (end : ℕ) (stage : Stage) → is_waiting stage ≡ true → RunsUntil end stage → ⊥
not_waiting end stage given runs = grind arith

runs_by_issue : (instruction : Option Instr) (end : ℕ) (k : Kind) →
    IsKeptByIssue (λ h. HeadIs instruction (RunsUntil end) h.rob.entries) k
runs_by_issue instruction end k = record {
  accesses = λ h older younger e address head split ready by. head;
  starts = λ h older younger e cost message head split waits of_kind result costs.
      head-change instruction (RunsUntil end) older younger e
      (started (record { cycle = h.cycle; cost = cost }) message e) refl
      (λ same before. absurd (not_waiting end e.stage waits before))
      (subst (HeadIs instruction (RunsUntil end)) split head);
}

module _ (h : Hardware) (front : FetchBuffer) (instruction : Option Instr) (end : ℕ)
    (head : HeadIs instruction (RunsUntil end) h.rob.entries) (plain : is_serialising instruction ≡ false) where
  abbrev issued : Hardware
  issued = issue (drain h)

  runs_issued : HeadIs instruction (RunsUntil end) issued.rob.entries
  runs_issued =
      issue-keeps (λ g. HeadIs instruction (RunsUntil end) g.rob.entries) (runs_by_issue instruction end) (drain h)
      (subst (λ r. HeadIs instruction (RunsUntil end) r.entries) (sym (drain-same h).rob) head)

  number : issued.cycle ≡ h.cycle
  number = (issued-same h).2

  -- ---- it goes on
  still_runs : h.cycle < end → HeadIs instruction (RunsUntil end) (execute h).hardware.rob.entries
  still_runs late = grind (arith, head-executed, runs_issued)

  left : (g : Hardware) (stage : Stage) → RunsUntil end stage → stage_time g instruction stage ≤ 1 + (end - g.cycle)
  left g stage runs = grind arith

  -- ---- its result is the first that is broadcast
  abbrev Over : Hardware → Type 0
  Over g = HeadIs instruction IsOver g.rob.entries × (g.cycle ≡ h.cycle)

  over_closed : (stage : Stage) (message : Message) (start : Option Issue) → HasRun h.cycle stage message →
      IsOver stage → IsOver (Finished start h.cycle message)
  over_closed stage message start gives over = tt

  abbrev NoneDue : List Entry → Type 0
  NoneDue = EveryAfter (λ before e. has_result issued.cycle before e ≡ false) []

  one_is_due : end ≤ h.cycle → (entries : List Entry) → HeadIs instruction (RunsUntil end) entries → NoneDue entries → ⊥
  one_is_due due entries runs given = grind (arith, true≢false, result_due, number)

  it_is_first : end ≤ h.cycle → (older younger : List Entry) (e : Entry) →
      HeadIs instruction (RunsUntil end) (older ++ e ∷ younger) → NoneDue older →
      (older ≡ []) × (e.instruction ≡ instruction)
  it_is_first due [] younger e runs none = (refl, runs.0)
  it_is_first due (o ∷ older) younger e runs none = absurd (one_is_due due (o ∷ []) runs (none.0, tt))

  first_result : end ≤ h.cycle → {t : Turn Hardware} → BroadcastTurn issued t → Leaves Over t
  first_result due (no_result none) = absurd (one_is_due due issued.rob.entries runs_issued none)
  first_result due (sends older younger e issue message sent late) = grind (arith, it_is_first, runs_issued, number)
  first_result due (mends older younger e issue message sent early) = grind (arith, it_is_first, runs_issued, number)

  is_over : end ≤ h.cycle → 1 ≤ issued.values.bus_width → HeadIs instruction IsOver (execute h).hardware.rob.entries
  is_over due wide =
      let width : issued.values.bus_width ≡ suc (issued.values.bus_width - 1) = omega (arith, wide) in
      let rest : ℕ = issued.values.bus_width - 1 in
      let turns : Over (repeated broadcast_turn (suc rest) issued) =
      left_by_the_rest Over Over (repeated broadcast_turn rest)
      (λ g over. kept_by_turns Over broadcast_turn (head-turn instruction over_closed) rest g over)
      (broadcast_turn issued) (first_result due (broadcast_turn_is issued)) in
      let all : Over (broadcast issued) = subst (λ n. Over (repeated broadcast_turn n issued)) (sym width) turns in
      head-dispatched instruction over_closed (broadcast issued) all.0 all.1

  none_left : (g : Hardware) (stage : Stage) → IsOver stage → stage_time g instruction stage ≤ 0
  none_left g stage over = grind arith

  abbrev new : Hardware
  new = later front (execute h).hardware

  -- where the oldest executes, a cycle lowers the patience
  pub fall_running : 1 ≤ h.values.bus_width → AreEnding new → patience h ≡ 1 + (end - h.cycle) →
      patience new + 1 ≤ patience h
  fall_running wide ending is =
      let limit : ℕ = new.cycle + longest_execution new in
      let now : new.cycle ≡ h.cycle + 1 = ap (λ c. c + 1) (execute-same h).2 in
      elim (cases_lt h.cycle end) [
        | inl late ↦
            let most = plain-patience new instruction (RunsUntil end) (1 + (end - new.cycle)) limit plain
            (λ stage runs ends. left new stage runs) (still_runs late) ending in
            omega (arith, most, now, is, late)
        | inr due ↦
            let broad : 1 ≤ issued.values.bus_width =
            omega (arith, wide, ap (λ (v : Values). v.bus_width) (issued-same h).0) in
            let most = plain-patience new instruction IsOver 0 limit plain (λ stage over ends. none_left new stage over)
            (is_over due broad) ending in
            omega (arith, most, is)
      ]
