-- A cycle without a step and without a stop lowers the patience by one at least.
use Rattle.rv_hardware.proofs.Words.{◌≡◌, ℕ, ◌+◌, ◌≤◌, true, false, ◌||◌, List, [], ◌∷◌, is_some, Some, None, Option}
use Rattle.rv_hardware.proofs.Words.{sym, refl, ap, ◌∙◌, subst, inl, inr, arith, is_serialising, kind_of_word, Instr}
use Rattle.rv_hardware.proofs.Words.{Csr, FenceI, Mret, Lines, Kind, Memory, Entry, Stage, Finished, Running, Waiting}
use Rattle.rv_hardware.proofs.Words.{FetchBuffer, FetchesInto, FetchStop, Committing, commit, IsCycle, any_prediction}
use Rattle.rv_hardware.proofs.Words.{execute, with_lines, Dispatching, drain, Hardware, broadcast_of, Report}
use Rattle.rv_hardware.proofs.Words.{CacheValues}
use Rattle.std.specs.FinSet as set
use Rattle.rv_hardware.proofs.Marks.Cited.{commit-keeps, same-kept, IsShaped, alone, IsBounded, sound-cycle}
use Rattle.rv_hardware.proofs.Gap.Drained.{Drains, drains}
use Rattle.rv_hardware.proofs.Gap.Execute.{execute-same, later, plain-head}
use Rattle.rv_hardware.proofs.Gap.FallEmpty.{fall_empty}
use Rattle.rv_hardware.proofs.Gap.FallFence.{fall_fence_waits, fall_write_back}
use Rattle.rv_hardware.proofs.Gap.FallRunning.{RunsUntil, fall_running}
use Rattle.rv_hardware.proofs.Gap.FallWaiting.{fall_waiting}
use Rattle.rv_hardware.proofs.Gap.Head.{HeadIs, Waits}
use Rattle.rv_hardware.proofs.Gap.Patience.{dirty_time, patience, port_time, stage_time}
use Rattle.rv_hardware.proofs.Gap.Silent.{SilentAt, SilentFence, SilentHead, silent_commit}

module _ (lines : Lines) (old : Hardware) (sound : IsBounded old) where
  -- the hardware before the phases
  abbrev h : Hardware
  h = with_lines lines old

  -- what is claimed of the hardware that commit leaves
  abbrev Falls : Hardware → Type 0
  Falls after =
      (front : FetchBuffer) (ram : Memory) (cycle : ℕ) (stop : FetchStop) →
      FetchesInto any_prediction ram cycle (execute after).hardware.front front stop →
      IsBounded (later front (execute after).hardware) →
      patience (later front (execute after).hardware) + 1 ≤ patience h

  drained : Drains h (drain h)
  drained = drains h sound.queue
      (omega (arith, ap (λ (c : CacheValues). c.hit) sound.sizes.cache, sound.sizes.legal.cache.1.hit.0))

  empty_falls : h.rob.entries ≡ [] → Falls h
  empty_falls none front ram cycle stop fetches after =
      fall_empty h front ram cycle stop none sound.sizes drained sound.halted.1 fetches after

  module _ (e : Entry) (es : List Entry) (split : h.rob.entries ≡ e ∷ es) where
    -- ---- an instruction that does not wait to be the oldest
    module _ (plain : is_serialising e.instruction ≡ false) where
      patience_is : {stage : Stage} → e.stage ≡ stage → patience h ≡ stage_time h e.instruction stage
      patience_is at = plain-head h e es split plain ∙ ap (stage_time h e.instruction) at

      unit_falls : (kind : Option Kind) → kind_of_word e.instruction ≡ kind →
          (is_some kind || is_serialising e.instruction) ≡ true → e.stage ≡ Waiting → Falls h
      unit_falls None of_kind waits at front ram cycle stop fetches after = absurd (cc (waits, plain))
      unit_falls (Some k) of_kind waits at front ram cycle stop fetches after =
          let waiting : Waits e.stage = subst Waits (sym at) refl in
          let head : HeadIs e.instruction Waits h.rob.entries =
          subst (HeadIs e.instruction Waits) (sym split) (refl, waiting) in
          fall_waiting h front e.instruction of_kind plain head sound.sizes drained after.ending sound.held after.held
          (patience_is at)

      stage_falls : (stage : Stage) → e.stage ≡ stage → broadcast_of stage ≡ None →
          IsShaped e.word e.instruction stage → Falls h
      stage_falls Waiting at unknown shaped front ram cycle stop fetches after = grind (arith, unit_falls)
      stage_falls (Running issue message) at unknown shaped front ram cycle stop fetches after =
          let end : ℕ = issue.cycle + issue.cost in
          let runs : RunsUntil end e.stage = subst (RunsUntil end) (sym at) refl in
          let head : HeadIs e.instruction (RunsUntil end) h.rob.entries =
          subst (HeadIs e.instruction (RunsUntil end)) (sym split) (refl, runs) in
          fall_running h front e.instruction end head plain sound.sizes.legal.pipeline.bus_width.0 after.ending
          (patience_is at)
      stage_falls (Finished issue finished message) at unknown shaped front ram cycle stop fetches after =
          absurd (cc (unknown))

      plain_falls : broadcast_of e.stage ≡ None → Falls h
      plain_falls unknown = grind (arith, stage_falls)

    -- ---- FENCE.I
    by_silence : (after : Hardware) → h.rob.entries ≡ e ∷ [] → e.instruction ≡ Some FenceI →
        patience h ≡ port_time h + dirty_time h h.committed + 1 → SilentFence h after → Falls after
    by_silence after one is time (inl (waits, same)) =
        subst Falls (sym same)
        (λ front ram cycle stop fetches next.
        omega (arith, time, fall_fence_waits h front e one is drained sound.port.0 waits next.ending))
    by_silence after one is time (inr (idle, dirty, same)) =
        subst Falls (sym same)
        (λ front ram cycle stop fetches next.
        omega (arith, time, fall_write_back h front e one is idle dirty next.ending))

    fence_falls : (after : Hardware) → e.instruction ≡ Some FenceI → SilentFence h after → Falls after
    fence_falls after is silent = grind (arith, alone, by_silence)

    head_falls : (after : Hardware) (instruction : Option Instr) → e.instruction ≡ instruction →
        SilentHead instruction e.stage h after → Falls after
    head_falls after (Some FenceI) is silent = fence_falls after is silent
    head_falls after (Some (Csr op rd csr source)) is silent = absurd silent
    head_falls after (Some Mret) is silent = absurd silent
    head_falls after _ is silent = subst Falls (sym silent.1) (plain_falls (ap is_serialising is) silent.0)

  silent_falls : (after : Hardware) (entries : List Entry) → h.rob.entries ≡ entries →
      SilentAt entries h after → Falls after
  silent_falls after [] split silent = subst Falls (sym silent) (empty_falls split)
  silent_falls after (e ∷ es) split silent = head_falls e es split after e.instruction refl silent

-- the cycle as a whole
pub fall : {lines : Lines} {old new : Hardware} {report : Report} → IsCycle any_prediction lines old report new →
    IsBounded old → report.steps ≡ [] → report.stop ≡ None → patience new + 1 ≤ patience old
fall {lines} {old} {new} {report} cycle sound silent going =
    let h : Hardware = with_lines lines old in
    let committing : Committing = commit set.contains h in
    let no_steps : committing.steps ≡ [] =
    ap (λ (c : Committing). c.steps) (sym cycle.commits) ∙ ap (λ (r : Report). r.steps) (sym cycle.reports) ∙ silent in
    let no_stop : committing.stop ≡ None =
    ap (λ (c : Committing). c.stop) (sym cycle.commits) ∙ ap (λ (r : Report). r.stop) (sym cycle.reports) ∙ going in
    let left = silent_commit set.contains h sound.sizes.legal.pipeline.commit_width.0 no_steps no_stop in
    let falls = silent_falls lines old sound committing.hardware h.rob.entries refl left in
    let d : Hardware = (execute committing.hardware).hardware in
    let same : cycle.dispatching.hardware ≡ d =
    ap (λ (x : Dispatching). x.hardware) cycle.executes ∙
    ap (λ (c : Committing). (execute c.hardware).hardware) cycle.commits in
    let number : d.cycle ≡ old.cycle =
    (execute-same committing.hardware).2 ∙
    (commit-keeps (same-kept h.values h.cache.values h.cycle).commit set.contains h (refl, refl, refl)).2 in
    let is : new ≡ later new.front d =
    cycle.others_stay ∙ ap (λ (x : Hardware). record x { front = new.front; cycle = old.cycle + 1 }) same ∙
    ap (λ n. record d { front = new.front; cycle = n + 1 }) (sym number) in
    let fetches : FetchesInto any_prediction cycle.dispatching.hardware.cache.backing old.cycle d.front new.front
    cycle.fetch_stop =
    subst (λ (x : Hardware).
    FetchesInto any_prediction cycle.dispatching.hardware.cache.backing old.cycle x.front new.front cycle.fetch_stop)
    same cycle.fetches in
    let after : IsBounded (later new.front d) = subst IsBounded is (sound-cycle cycle sound) in
    let falling = falls new.front cycle.dispatching.hardware.cache.backing old.cycle cycle.fetch_stop fetches after in
    subst (λ (x : Hardware). patience x + 1 ≤ patience old) (sym is) falling
