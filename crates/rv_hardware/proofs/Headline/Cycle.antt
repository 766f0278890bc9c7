-- What a cycle reports leads from what programs saw before it to what they see after it.
use Rattle.rv_hardware.proofs.Words.{◌≡◌, ℕ, ◌+◌, sym, refl, subst, Lines, Values, State, IsCycle, any_prediction}
use Rattle.rv_hardware.proofs.Words.{execute, with_lines, Dispatching, Hardware, IsTrueCycle, Report, Reachable}
use Rattle.rv_hardware.proofs.Words.{layout_of, seen, always}
use Rattle.rv_hardware.proofs.Headline.Broadcast.{broadcast_kept}
use Rattle.rv_hardware.proofs.Headline.Commit.{IsDone, commit_done}
use Rattle.rv_hardware.proofs.Headline.Dispatch.{dispatch_kept}
use Rattle.rv_hardware.proofs.Headline.Drain.{drain_kept}
use Rattle.rv_hardware.proofs.Headline.Fetch.{fetch_kept}
use Rattle.rv_hardware.proofs.Headline.Invariant.{IsSound, IsSoundAt}
use Rattle.rv_hardware.proofs.Headline.Issue.{issue_kept}
use Rattle.rv_hardware.proofs.Headline.Reset.{reset_sound}

-- what a cycle keeps, and what its report is
pub record GoesOnTrue (lines : Lines) (old : Hardware) (report : Report) (new : Hardware) : Type 0 where
  pub values_are : new.values ≡ old.values
  pub cycle_is : new.cycle ≡ old.cycle + 1
  pub sound : IsSound new
  pub true_cycle : IsTrueCycle (layout_of old.values) lines old.cycle (seen old) report.steps report.stop (seen new)

-- the lines' levels are no part of it
pub lines_sound : (lines : Lines) (h : Hardware) → IsSound h → IsSound (with_lines lines h)
lines_sound lines h is =
    record { pc_aligned = is.pc_aligned; mepc_aligned = is.mepc_aligned; memory = is.memory; program = is.program }

-- the phases from drain to dispatch keep the hardware sound, with the same state seen
pub execute_kept : (values : Values) (cycle : ℕ) (s : State) (h : Hardware) → IsSoundAt values cycle s h →
    IsSoundAt values cycle s (execute h).hardware
execute_kept values cycle s h is =
    dispatch_kept values cycle s (broadcast_kept values cycle s (issue_kept values cycle s (drain_kept is)))

-- a cycle of sound hardware is true, and leaves sound hardware
pub cycle_true : (lines : Lines) (old : Hardware) (report : Report) (new : Hardware) → IsSound old →
    IsCycle any_prediction lines old report new → GoesOnTrue lines old report new
cycle_true lines old report new is c =
    let committed : IsDone lines (seen old) (with_lines lines old) c.committing =
    subst (IsDone lines (seen old) (with_lines lines old)) (sym c.commits)
    (commit_done (with_lines lines old) (lines_sound lines old is)) in
    let h = c.committing.hardware in
    let stays = committed.stays in
    let start : IsSoundAt old.values old.cycle (seen h) h =
    record { values_are = stays.values_are; cycle_is = stays.cycle_is; sees = refl; sound = committed.sound } in
    let executed : IsSoundAt old.values old.cycle (seen h) c.dispatching.hardware =
    subst (λ (d : Dispatching). IsSoundAt old.values old.cycle (seen h) d.hardware) (sym c.executes)
    (execute_kept old.values old.cycle (seen h) h start) in
    let fetched : IsSoundAt old.values (old.cycle + 1) (seen h) new =
    subst (IsSoundAt old.values (old.cycle + 1) (seen h)) (sym c.others_stay)
    (fetch_kept any_prediction executed new.front c.fetch_stop old.cycle (old.cycle + 1) c.fetches) in
    record {
      values_are = fetched.values_are;
      cycle_is = fetched.cycle_is;
      sound = fetched.sound;
      true_cycle = rw (c.reports, fetched.sees) (message_by committed);
    } where
      message_by : IsDone lines (seen old) (with_lines lines old) c.committing →
          IsTrueCycle (layout_of old.values) lines old.cycle (seen old) c.committing.steps c.committing.stop
          (seen c.committing.hardware)
      message_by committed =
          let P : Values → Lines → ℕ → Type 0 =
          λ values levels cycle.
          IsTrueCycle (layout_of values) levels cycle (seen old) c.committing.steps c.committing.stop
          (seen c.committing.hardware) in
          subst (λ (v : Values). P v lines old.cycle) committed.stays.values_are
          (subst (λ (l : Lines). P c.committing.hardware.values l old.cycle) committed.stays.lines_are
          (subst (λ (n : ℕ). P c.committing.hardware.values c.committing.hardware.lines n) committed.stays.cycle_is
          committed.true_cycle))

-- it always holds
pub always_sound : {h : Hardware} → Reachable h → IsSound h
always_sound reached =
    always reset_sound
    (λ old new lines report before is below cycles. (cycle_true lines old report new is cycles).sound) reached

-- The theorem for one cycle.
pub headline_of_cycle : (lines : Lines) (old : Hardware) (report : Report) (new : Hardware) → Reachable old →
    IsCycle any_prediction lines old report new →
    IsTrueCycle (layout_of old.values) lines old.cycle (seen old) report.steps report.stop (seen new)
headline_of_cycle lines old report new reached cycles =
    (cycle_true lines old report new (always_sound reached) cycles).true_cycle
