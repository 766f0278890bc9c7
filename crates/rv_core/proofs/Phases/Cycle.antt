-- The phases one after another are a cycle of the hardware.
use Rattle.rv_core.proofs.Words.{◌≡◌, ℕ, ◌+◌, ◌≤◌, Option, refl, ap, ◌∙◌, subst, Lines, Stop, Answers, FetchesInto}
use Rattle.rv_core.proofs.Words.{FetchStop, Committing, IsCycle, commit_with, execute, with_lines, Dispatching}
use Rattle.rv_core.proofs.Words.{stall_of, Hardware, Stall, report_with}
use Rattle.std.specs.FinSet as set
use Rattle.rv_hardware.proofs.Gap.Execute.{execute-same}
use Rattle.rv_core.proofs.Phases.Steps.{Commits, commit-now}

module _ (lines : Lines) (old committed : Hardware) (width : 1 ≤ old.values.commit_width)
    (commits : committed ≡ (commit_with set.contains lines old).hardware) where
  -- the commit phase, and those from drain to dispatch
  abbrev pub committing : Committing
  committing = commit_with set.contains lines old

  abbrev pub executing : Dispatching
  executing = execute committing.hardware

  -- the commit phase of a cycle keeps its number, and takes as many steps at most as it may
  pub committing-now : Commits old.cycle old.values.commit_width committing
  committing-now = commit-now old.cycle set.contains (with_lines lines old) refl width

  executing-now : executing.hardware.cycle ≡ old.cycle
  executing-now =
      (execute-same committing.hardware).2 ∙ committing-now.cycle

  module _ (dispatched : Hardware) (dispatches : dispatched ≡ (execute committed).hardware) where
    dispatched-is : dispatched ≡ executing.hardware
    dispatched-is = dispatches ∙ ap (λ h. (execute h).hardware) commits

    -- the phases up to dispatch keep the number of the cycle
    pub dispatched-now : dispatched.cycle ≡ old.cycle
    dispatched-now = ap (λ (h : Hardware). h.cycle) dispatched-is ∙ executing-now

    -- with what the dispatch reported, the stop and the fetch
    pub cycle-done : (answers : Answers) (new : Hardware) (why : FetchStop) (count : ℕ) (stall : Option Stall)
        (stop : Option Stop) → count ≡ (execute committed).dispatched → stall ≡ stall_of (execute committed) →
        stop ≡ committing.stop
        → FetchesInto answers dispatched.cache.backing dispatched.cycle dispatched.front new.front why →
        new ≡ record dispatched { front = new.front }
        → IsCycle answers lines old
        (report_with committing.steps (record { dispatched = count; stall = stall; stop = stop }))
        (record new { cycle = old.cycle + 1 })
    cycle-done answers new why count stall stop counts stalls stops fetches others = record {
      committing = committing;
      commits = refl;
      dispatching = executing;
      executes = refl;
      fetch_stop = why;
      fetches =
          subst (λ (n : ℕ). FetchesInto answers executing.hardware.cache.backing n
          executing.hardware.front new.front why)
          dispatched-now
          (subst (λ (h : Hardware). FetchesInto answers h.cache.backing dispatched.cycle h.front
          new.front why) dispatched-is
          fetches);
      others_stay = ap {A = Hardware} (λ h. record h { cycle = old.cycle + 1 })
          (others ∙ ap {A = Hardware} (λ h. record h { front = new.front }) dispatched-is);
      reports = λ i. record {
        steps = committing.steps;
        dispatched = (counts ∙ ap (λ h. (execute h).dispatched) commits) i;
        stall = (stalls ∙ ap (λ h. stall_of (execute h)) commits) i;
        stop = stops i;
      };
    }
