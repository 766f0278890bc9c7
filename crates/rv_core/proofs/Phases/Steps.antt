-- A commit phase takes no more steps than its width, keeps the cycle's number, and stops at a breakpoint or a stale word alone.
use Rattle.rv_core.proofs.Words.{◌≡◌, ℕ, suc, ◌<◌, ◌≤◌, Bool, [], ◌∷◌, ◌++◌, length, Some, None, Option, nat_cmp, refl}
use Rattle.rv_core.proofs.Words.{ap, ◌∙◌, arith, length-append, Cause, due, Committing, commit, commit_turn}
use Rattle.rv_core.proofs.Words.{commit_unless, stop_of, Hardware, Turn, row_of, written_of, Leads, turns_within, Step}
use Rattle.rv_core.proofs.Words.{IsCommitStop}
use Rattle.std.specs.FinSet as set
use Rattle.rv_hardware.specs.declared.step.Step.TheVariants as step
use Rattle.rv_hardware.proofs.Turns.Commit.{CommitTurn, stale_head, fence_retires, executes, serial_faults, traps}
use Rattle.rv_hardware.proofs.Turns.Commit.{retires, retires_last, commit_turn_is}

module _ (now : ℕ) where
  -- a commit that has taken at most so many steps
  pub record Commits (taken : ℕ) (c : Committing) : Type 0 where
    pub cycle : c.hardware.cycle ≡ now
    pub steps : length c.steps ≤ taken
    pub stop : IsCommitStop c.stop

  -- one step more
  stepped : (taken most : ℕ) (c d : Committing) (s : Step) → taken < most → d.hardware.cycle ≡ c.hardware.cycle →
      d.steps ≡ c.steps ++ s ∷ [] → IsCommitStop d.stop → Commits taken c → Commits most d
  stepped taken most c d s less same one stops is = record {
    cycle = same ∙ is.cycle;
    steps = omega (arith, less, is.steps, ap length one, length-append c.steps (s ∷ []));
    stop = stops;
  }

  -- the same steps
  stays : (taken most : ℕ) (c d : Committing) → taken < most → d.hardware.cycle ≡ c.hardware.cycle → d.steps ≡ c.steps →
      IsCommitStop d.stop → Commits taken c → Commits most d
  stays taken most c d less same none stops is = grind arith

  breakpoint : (cause : Cause) → IsCommitStop (stop_of cause)
  breakpoint cause = grind arith

  module _ (is_stale : set.FinSet nat_cmp → ℕ → Bool) where
    -- a turn takes one step at most
    turn-commits : (most taken : ℕ) (c : Committing) (t : Turn Committing) → taken < most → CommitTurn is_stale c t →
        Commits taken c →
        Leads (Commits (suc taken)) (Commits most) t
    turn-commits most taken c _ less (stale_head e es at stale) is = stays taken most c _ less refl refl tt is
    turn-commits most taken c _ less (fence_retires e es written next head fence drained) is =
        stepped taken most c _ (row_of e written c.hardware.cycle) less refl refl is.stop is
    turn-commits most taken c _ less (executes e es written next head serial other) is =
        stepped taken most c _ (row_of e written c.hardware.cycle) less refl refl is.stop is
    turn-commits most taken c _ less (serial_faults e es cause value head serial other) is =
        stepped taken most c _ (step.Trap e.pc cause value c.hardware.cycle) less refl refl (breakpoint cause) is
    turn-commits most taken c _ less (traps e es issue cycle message fault head plain at faulty) is =
        stepped taken most c _ (step.Trap e.pc fault.cause fault.value c.hardware.cycle) less refl refl
        (breakpoint fault.cause) is
    turn-commits most taken c _ less (retires e es issue cycle message head plain at none) is =
        stepped taken (suc taken) c _ (row_of e (written_of e message) c.hardware.cycle)
        (omega arith) refl refl is.stop is
    turn-commits most taken c _ less (retires_last e es issue cycle message head plain at none) is =
        stepped taken most c _ (row_of e (written_of e message) c.hardware.cycle) less refl refl is.stop is
    turn-commits most taken c _ less _ is = stays taken most c _ less refl refl is.stop is

    unless : (o : Option ℕ) (h : Hardware) → h.cycle ≡ now → 1 ≤ h.values.commit_width →
        Commits h.values.commit_width (commit_unless is_stale o h)
    unless (Some code) h is some = record { cycle = is; steps = some; stop = tt }
    unless None h is some =
        let most = h.values.commit_width in
        turns_within most Commits (Commits most) (commit_turn is_stale)
        (λ taken c less held. turn-commits most taken c (commit_turn is_stale c) less (commit_turn_is is_stale c) held)
        (λ c held. held)
        most 0 (record { hardware = h; steps = []; stop = None }) (omega arith)
        (record { cycle = is; steps = omega arith; stop = tt })

    -- a commit takes as many steps at most as it may
    pub commit-now : (h : Hardware) → h.cycle ≡ now → 1 ≤ h.values.commit_width →
        Commits h.values.commit_width (commit is_stale h)
    commit-now h is some = unless (due h.csrs h.lines) h is some
