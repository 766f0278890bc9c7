-- The places of a cycle add up, and those that were dispatched in it are seen in the reorder buffer.
use Rattle.std.proofs.Common.{◌≡◌, ◌∙◌, ℕ, ◌+◌, ◌≤◌, ◌==◌, List, [], ◌∷◌, ◌++◌, length, count_by, cond, false}
use Rattle.std.proofs.Common.{Option, Some, None, ap, sym, subst, arith, length-append, ne_eqb, eq-eqb}
use Rattle.std.specs.FinSet as set
use Rattle.std.proofs.lemmas.List.Sums.{sum_by-append}
use Rattle.rv_isa.specs.declared.lines.Lines.{Lines}
use Rattle.rv_isa.specs.declared.operations.Kind.{Kind}
use Rattle.rv_isa.specs.declared.values.Values.{Values}
use Rattle.rv_rob.specs.Entry.{started}
use Rattle.rv_rob.specs.declared.entry.Entry.{Entry}
use Rattle.rv_hardware.specs.Commit.{Committing}
use Rattle.rv_hardware.specs.Cycle.{IsCycle, any_prediction, with_lines}
use Rattle.rv_hardware.specs.Commit.{commit_turn, commit_unless}
use Rattle.rv_hardware.specs.Dispatch.{Dispatching, dispatch, dispatch_turn, entry_of_fetched}
use Rattle.rv_arch.specs.Due.{due}
use Rattle.rv_hardware.specs.Hardware.{Hardware}
use Rattle.rv_hardware.specs.Repeated.{Turn}
use Rattle.rv_hardware.specs.Report.{Report}
use Rattle.rv_hardware.specs.Retirement.{row_of}
use Rattle.rv_hardware.specs.Run.{Reachable}
use Rattle.rv_hardware.specs.Step.{is_retirement, is_trap}
use Rattle.rv_hardware.specs.declared.step.Step.{Step}
use Rattle.rv_hardware.proofs.Each.{Each-weaker}
use Rattle.rv_hardware.proofs.Lists.{count-count_by, count-none}
use Rattle.rv_hardware.proofs.Repeated.{Leaves, kept_by_turns}
use Rattle.rv_hardware.proofs.Laws.DispatchWidth.{dispatch_within}
use Rattle.rv_hardware.proofs.Marks.History.{Anything, Passed, committing, dispatching, drained}
use Rattle.rv_hardware.proofs.Marks.History.{history_passes, issued_all, reachable_has_history, sent_all}
use Rattle.rv_hardware.proofs.Marks.Sound.{SoundEntry}
use Rattle.rv_hardware.proofs.Turns.Commit.{CommitTurn, commit_turn_is, executes, fence_retires, retires, retires_last}
use Rattle.rv_hardware.proofs.Turns.Commit.{serial_faults, traps}
use Rattle.rv_hardware.proofs.Turns.Dispatch.{DispatchTurn, dispatch_turn_is, dispatches}
use Rattle.rv_hardware.proofs.Turns.KeptByBroadcast.{IsKeptByBroadcast, broadcast-keeps}
use Rattle.rv_hardware.proofs.Turns.KeptByDrain.{IsKeptByDrain, drain-keeps}
use Rattle.rv_hardware.proofs.Turns.KeptByIssue.{IsKeptByIssue, issue-keeps}
use Rattle.rv_counts.specs.Places.{cycle_total, dispatched_in, places_in}

-- ---- what was dispatched in a cycle is in the reorder buffer at its end
module _ (now : ℕ) where
  abbrev in_cycle : Entry → ℕ
  in_cycle e = cond (e.dispatched == now) 1 0

  record AreThere (d : Dispatching) : Type 0 where
    pub cycle : d.hardware.cycle ≡ now
    pub counted : count_by (λ (e : Entry). e.dispatched == now) d.hardware.rob.entries ≡ d.dispatched

  turn_there : (d : Dispatching) (t : Turn Dispatching) → DispatchTurn d t → AreThere d → Leaves AreThere t
  turn_there d _ (dispatches f fs at nothing) there = record {
    cycle = there.cycle;
    counted = omega (
      arith,
      sum_by-append in_cycle d.hardware.rob.entries (entry_of_fetched d.hardware f ∷ []),
      ap {B = ℕ} (λ test. cond test 1 0) (eq-eqb d.hardware.cycle now there.cycle),
      there.counted,
    );
  }
  turn_there d _ _ there = record { cycle = there.cycle; counted = there.counted }

  there_after : (h : Hardware) → h.cycle ≡ now → count_by (λ (e : Entry). e.dispatched == now) h.rob.entries ≡ 0 →
      AreThere (dispatch h)
  there_after h cycle none =
      kept_by_turns AreThere dispatch_turn (λ d there. turn_there d (dispatch_turn d) (dispatch_turn_is d) there)
      h.values.dispatch_width (record { hardware = h; dispatched = 0; waits_for = None })
      (record { cycle = cycle; counted = none })

-- ---- what leaves the reorder buffer in the commit phase was in it
module _ (all : ℕ) where
  abbrev taken : List Step → ℕ
  taken steps = count_by is_retirement steps + count_by is_trap steps

  abbrev AreTaken : Committing → Type 0
  AreTaken c = taken c.steps + length c.hardware.rob.entries ≤ all

  one_taken : (steps : List Step) (step : Step) → taken (step ∷ []) ≤ 1 → taken (steps ++ step ∷ []) ≤ taken steps + 1
  one_taken steps step one = grind (arith, sum_by-append)

  turn_takes : (c : Committing) (t : Turn Committing) → CommitTurn set.contains c t → AreTaken c → Leaves AreTaken t
  turn_takes c _ (fence_retires e es written next head is clean) few =
      omega (arith, few, ap length head.place, one_taken c.steps (row_of e written c.hardware.cycle) (omega arith))
  turn_takes c _ (executes e es written next head serial other) few =
      omega (arith, few, ap length head.place, one_taken c.steps (row_of e written c.hardware.cycle) (omega arith))
  turn_takes c _ (serial_faults e es cause value head serial other) few = grind (arith, one_taken)
  turn_takes c _ (traps e es issue cycle message fault head plain at is) few = grind (arith, one_taken)
  turn_takes c _ (retires e es issue cycle message head plain at none) few = grind (arith, one_taken)
  turn_takes c _ (retires_last e es issue cycle message head plain at none) few = grind (arith, one_taken)
  turn_takes c _ _ few = few

  unless_takes : (code : Option ℕ) (h : Hardware) → length h.rob.entries ≤ all →
      AreTaken (commit_unless set.contains code h)
  unless_takes (Some code) h few = omega arith
  unless_takes None h few =
      kept_by_turns AreTaken (commit_turn set.contains)
      (λ c is. turn_takes c (commit_turn set.contains c) (commit_turn_is set.contains c) is)
      h.values.commit_width (record { hardware = h; steps = []; stop = None }) (omega (arith, few))

-- ---- up to the dispatch phase no instruction enters it
module _ (most : ℕ) where
  abbrev AreFew : Hardware → Type 0
  AreFew h = length h.rob.entries ≤ most

  few_at_drain : IsKeptByDrain AreFew
  few_at_drain = record { leaves = λ h few idle. few; drains = λ h access few idle is. few }

  few_at_issue : (k : Kind) → IsKeptByIssue AreFew k
  few_at_issue k = record {
    accesses = λ h older younger e address few split ready by. few;
    starts = λ h older younger e cost message few split waits of_kind result costs.
        omega (
          arith,
          few,
          ap length split,
          length-append older (e ∷ younger),
          length-append older
              (started (record { cycle = h.cycle; cost = cost }) message e ∷ younger),
        );
  }

  few_at_broadcast : IsKeptByBroadcast AreFew
  few_at_broadcast = grind (arith, length-append)

  abbrev AreFewMore : Dispatching → Type 0
  AreFewMore d = length d.hardware.rob.entries ≤ most + d.dispatched

  turn_adds : (d : Dispatching) (t : Turn Dispatching) → DispatchTurn d t → AreFewMore d → Leaves AreFewMore t
  turn_adds d _ (dispatches f fs at nothing) few =
      omega (arith, few, length-append d.hardware.rob.entries (entry_of_fetched d.hardware f ∷ []))
  turn_adds d _ _ few = few

  few_after : (h : Hardware) → AreFew h → AreFewMore (dispatch h)
  few_after h few =
      kept_by_turns AreFewMore dispatch_turn (λ d is. turn_adds d (dispatch_turn d) (dispatch_turn_is d) is)
      h.values.dispatch_width (record { hardware = h; dispatched = 0; waits_for = None }) (omega (arith, few))

-- what is known of the places of a cycle
pub record ArePlaced (old : Hardware) (report : Report) (new : Hardware) : Type 0 where
  pub dispatched : dispatched_in old.cycle new.rob ≡ report.dispatched
  pub within : report.dispatched ≤ new.values.dispatch_width
  pub values : new.values ≡ old.values
  pub wide : new.values.dispatch_width ≤ 8
  pub add_up : cycle_total (places_in old (record { report = report; after = new })) + length new.rob.entries
      ≡ new.values.dispatch_width + length old.rob.entries

module _ {lines : Lines} {old new : Hardware} {report : Report} (reached : Reachable old)
    (cycle : IsCycle any_prediction lines old report new) where
  -- each cycle of hardware that a reset and cycles lead to is so
  pub placed : ArePlaced old report new
  placed =
      let before = reachable_has_history reached in
      let v : Values = before.0 in
      let passed : Passed v Anything before.1 lines old report new = history_passes v before.2 cycle in
      let now : ℕ = old.cycle in
      let sent : Hardware = sent_all lines old in
      let d : Dispatching = dispatching lines old in
      let none = count-none (λ (e : Entry). e.dispatched == now) sent.rob.entries
      (Each-weaker (SoundEntry v now (now + 1) (now + 1)) (λ e. (e.dispatched == now) ≡ false)
      (λ e w. ne_eqb e.dispatched now (omega (arith, w.by_now))) sent.rob.entries passed.sends.basics.entries) in
      let none_by : count_by (λ (e : Entry). e.dispatched == now) sent.rob.entries ≡ 0 =
      sym (count-count_by (λ (e : Entry). e.dispatched == now) sent.rob.entries) ∙ none in
      let there = there_after now sent passed.sends.basics.cycle none_by in
      let entries : new.rob.entries ≡ d.hardware.rob.entries =
      ap (λ (h : Hardware). h.rob.entries) passed.others_stay in
      let described : sent.values ≡ v = passed.sends.basics.always.sizes.values in
      let wide = dispatch_within now v.dispatch_width sent (ap (λ (w : Values). w.dispatch_width) described)
      (omega (arith, none)) in
      let counted = count-count_by (λ (e : Entry). e.dispatched == now) d.hardware.rob.entries in
      let new_described : new.values ≡ v = passed.ends.always.sizes.values in
      let width : new.values.dispatch_width ≡ v.dispatch_width = ap (λ (w : Values). w.dispatch_width) new_described in
      let within : report.dispatched ≤ new.values.dispatch_width =
      omega (arith, passed.report_is.0, there.counted, wide, counted, width) in
      let takes : taken 0 report.steps + length (committing lines old).hardware.rob.entries ≤ length old.rob.entries =
      subst (λ steps. taken 0 steps + length (committing lines old).hardware.rob.entries
      ≤ length old.rob.entries) (sym passed.steps)
      (unless_takes (length old.rob.entries) (due old.csrs lines) (with_lines lines old) (omega arith)) in
      let most : ℕ = length (committing lines old).hardware.rob.entries in
      let few = few_after most sent (broadcast-keeps (few_at_broadcast most) (issued_all lines old)
      (issue-keeps (AreFew most) (few_at_issue most) (drained lines old)
      (drain-keeps (few_at_drain most) (committing lines old).hardware (omega arith)))) in
      record {
        dispatched = ap (λ es. count_by (λ (e : Entry). e.dispatched == now) es) entries ∙ there.counted
            ∙ sym passed.report_is.0;
        within = within;
        values = new_described ∙ sym passed.begins.always.sizes.values;
        wide = omega (arith, width, passed.ends.always.sizes.legal.pipeline.dispatch_width.1);
        add_up = omega (arith, within, takes, few, ap length entries, passed.report_is.0);
      }
