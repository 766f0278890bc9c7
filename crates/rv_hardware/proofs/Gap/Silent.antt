-- A commit phase that reports no step and does not stop leaves its oldest instruction waiting.
use Rattle.rv_hardware.proofs.Words.{◌≡◌, ℕ, suc, ◌-◌, ◌≤◌, Bool, true, false, ◌⊎◌, List, [], ◌∷◌, ◌++◌, ◌==◌, Some}
use Rattle.rv_hardware.proofs.Words.{None, Option, nat_cmp, sym, refl, subst, inl, arith, is_serialising, Instr, Csr}
use Rattle.rv_hardware.proofs.Words.{FenceI, Mret, due, Entry, Stage, Committing, commit, commit_turn, commit_unless}
use Rattle.rv_hardware.proofs.Words.{is_drained, with_write_back, write_back_time, Hardware, broadcast_of, Ends, GoesOn}
use Rattle.rv_hardware.proofs.Words.{Turn, followed_by, repeated, Step, Leaves, kept_by_turns}
use Rattle.std.specs.FinSet as set
use Rattle.rv_hardware.proofs.Turns.Commit.{CommitTurn, no_head, stale_head, unfinished, fence_waits, fence_writes}
use Rattle.rv_hardware.proofs.Turns.Commit.{retires, commit_turn_is}

-- ---- a step that was reported stays reported
abbrev IsSome : List Step → Type 0
IsSome [] = ⊥
IsSome (s ∷ ss) = Unit {0}

some_push : (ss : List Step) (s : Step) → IsSome (ss ++ s ∷ [])
some_push [] s = tt
some_push (t ∷ ss) s = tt

abbrev HasStep : Committing → Type 0
HasStep c = IsSome c.steps

-- ---- what a silent commit leaves
abbrev pub SilentFence : Hardware → Hardware → Type 0
SilentFence h after =
    ((is_drained h ≡ false) × (after ≡ h)) ⊎
    ((is_drained h ≡ true) × ((write_back_time h == 0) ≡ false) × (after ≡ with_write_back h))

-- by the oldest instruction, nothing changed, or FENCE.I waits or wrote back
abbrev pub SilentHead : Option Instr → Stage → Hardware → Hardware → Type 0
SilentHead (Some FenceI) stage h after = SilentFence h after
SilentHead (Some (Csr op rd csr source)) stage h after = ⊥
SilentHead (Some Mret) stage h after = ⊥
SilentHead _ stage h after = (broadcast_of stage ≡ None) × (after ≡ h)

-- the same, by all instructions in flight
abbrev pub SilentAt : List Entry → Hardware → Hardware → Type 0
SilentAt [] h after = after ≡ h
SilentAt (e ∷ es) h after = SilentHead e.instruction e.stage h after

silent_plain : (h : Hardware) (instruction : Option Instr) (stage : Stage) → is_serialising instruction ≡ false →
    broadcast_of stage ≡ None → SilentHead instruction stage h h
silent_plain h instruction stage plain unknown = grind arith

module _ (is_stale : set.FinSet nat_cmp → ℕ → Bool) where
  turn_steps : {c : Committing} {t : Turn Committing} → CommitTurn is_stale c t → HasStep c → Leaves HasStep t
  turn_steps given some = grind (arith, fence_waits, some_push)

  module _ (h : Hardware) (width : ℕ) where
    abbrev rest : Committing → Committing
    rest c = repeated (commit_turn is_stale) width c

    abbrev LeftSilent : Hardware → Type 0
    LeftSilent after = SilentAt h.rob.entries h after

    abbrev Outcome : Turn Committing → Type 0
    Outcome t =
        (followed_by rest t).steps ≡ [] → (followed_by rest t).stop ≡ None → LeftSilent (followed_by rest t).hardware

    none_reported : {steps : List Step} → IsSome steps → steps ≡ [] → ⊥
    none_reported some given = grind arith

    -- a turn that reports is not silent
    reports : (t : Turn Committing) → Leaves HasStep t → Outcome t
    reports (GoesOn c) some silent going =
        let still = kept_by_turns HasStep (commit_turn is_stale)
        (λ d was. turn_steps (commit_turn_is is_stale d) was) width c some in
        absurd (none_reported still silent)
    reports (Ends c) some silent going = absurd (none_reported some silent)

    abbrev start : Committing
    start = record { hardware = h; steps = []; stop = None }

    at_head : (e : Entry) (es : List Entry) (after : Hardware) → h.rob.entries ≡ e ∷ es →
        SilentHead e.instruction e.stage h after → LeftSilent after
    at_head e es after split silent = subst (λ l. SilentAt l h after) (sym split) silent

    at_fence : (e : Entry) (es : List Entry) (after : Hardware) → h.rob.entries ≡ e ∷ es → e.instruction ≡ Some FenceI →
        SilentFence h after → LeftSilent after
    at_fence e es after split is silent =
        at_head e es after split (subst (λ i. SilentHead i e.stage h after) (sym is) silent)

    first_outcome : {t : Turn Committing} → CommitTurn is_stale start t → Outcome t
    first_outcome (no_head none) = λ silent going. subst (λ l. SilentAt l h h) (sym none) refl
    first_outcome (stale_head e es at is) = λ silent going. absurd (cc)
    first_outcome (unfinished e es head plain none) = grind (arith, at_head, silent_plain)
    first_outcome (fence_waits e es head is busy) = λ silent going. at_fence e es h head.place is (inl (busy, refl))
    first_outcome (fence_writes e es head is drained dirty) = grind (arith, at_fence)
    first_outcome (retires e es issue cycle message head plain at none) = reports (GoesOn _) tt
    first_outcome _ = reports (Ends _) tt

  unless_silent : (code : Option ℕ) (h : Hardware) → 1 ≤ h.values.commit_width →
      (commit_unless is_stale code h).steps ≡ [] → (commit_unless is_stale code h).stop ≡ None →
      SilentAt h.rob.entries h (commit_unless is_stale code h).hardware
  unless_silent (Some code) h wide silent going = absurd (cc)
  unless_silent None h wide silent going =
      let width : h.values.commit_width ≡ suc (h.values.commit_width - 1) = omega arith in
      let first : Committing = record { hardware = h; steps = []; stop = None } in
      subst (λ w. (repeated (commit_turn is_stale) w first).steps ≡ [] →
      (repeated (commit_turn is_stale) w first).stop ≡ None →
      SilentAt h.rob.entries h (repeated (commit_turn is_stale) w first).hardware)
      (sym width) (first_outcome h (h.values.commit_width - 1) (commit_turn_is is_stale first)) silent going

  -- a commit phase that reports no step and does not stop leaves its oldest waiting
  pub silent_commit : (h : Hardware) → 1 ≤ h.values.commit_width → (commit is_stale h).steps ≡ [] →
      (commit is_stale h).stop ≡ None → SilentAt h.rob.entries h (commit is_stale h).hardware
  silent_commit h wide silent going = unless_silent (due h.csrs h.lines) h wide silent going
