-- A whole cycle keeps what its phases and its fetch keep.
use Rattle.rv_hardware.proofs.Words.{◌≡◌, ℕ, ◌+◌, sym, refl, ap, ◌∙◌, subst, Lines, Kind, CacheValues, Values, Memory}
use Rattle.rv_hardware.proofs.Words.{Answers, FetchBuffer, FetchesInto, FetchStop, IsCycle, any_prediction, execute}
use Rattle.rv_hardware.proofs.Words.{with_lines, Hardware, Report, arith}
use Rattle.rv_hardware.proofs.Turns.Changes.{IsKeptByChanges, new_levels, all_squashed, head_retires, cache_written}
use Rattle.rv_hardware.proofs.Turns.Changes.{store_drained, store_drains, load_accesses, one_starts, one_sent}
use Rattle.rv_hardware.proofs.Turns.Changes.{one_mended, one_enters}
use Rattle.rv_hardware.proofs.Turns.KeptByBroadcast.{IsKeptByBroadcast, broadcast-keeps}
use Rattle.rv_hardware.proofs.Turns.KeptByCommit.{IsKeptByCommit, commit-keeps}
use Rattle.rv_hardware.proofs.Turns.KeptByDispatch.{IsKeptByDispatch, dispatch-keeps}
use Rattle.rv_hardware.proofs.Turns.KeptByDrain.{IsKeptByDrain, drain-keeps}
use Rattle.rv_hardware.proofs.Turns.KeptByIssue.{IsKeptByIssue, issue-keeps}

module _ (P : Hardware → Type 0) where
  -- new line levels and the phases from commit to dispatch keep the property
  pub record IsKeptByPhases : Type 0 where
    pub lines : (h : Hardware) (levels : Lines) → P h → P (with_lines levels h)
    pub commit : IsKeptByCommit P
    pub drain : IsKeptByDrain P
    pub issue : (k : Kind) → IsKeptByIssue P k
    pub broadcast : IsKeptByBroadcast P
    pub dispatch : IsKeptByDispatch P

  -- a fetch keeps it
  abbrev pub IsKeptByFetch : Type 0
  IsKeptByFetch =
      (ram : Memory) (cycle : ℕ) (h : Hardware) (front : FetchBuffer) (stop : FetchStop) → P h →
      FetchesInto any_prediction ram cycle h.front front stop → P (record h { front = front; cycle = h.cycle + 1 })

  -- the phases keep the property, and a fetch does
  pub record IsKept : Type 0 where
    pub phases : IsKeptByPhases
    pub fetch : IsKeptByFetch

-- what each change keeps the phases keep
pub phases-kept : {P : Hardware → Type 0} → IsKeptByChanges P → IsKeptByPhases P
phases-kept kept = record {
  lines = λ h levels p. kept h _ (new_levels levels) p;
  commit = record {
    empties = λ h s retired p. kept h _ (all_squashed s retired) p;
    retires = λ h e es s message p split known none. kept h _ (head_retires e es s message split known none) p;
    writes_back = λ h p drained. kept h _ (cache_written drained) p;
  };
  drain = record {
    leaves = λ h p idle. kept h _ (store_drained idle) p;
    drains = λ h access p idle is. kept h _ (store_drains access idle is) p;
  };
  issue = λ k. record {
    accesses = λ h older younger e address p split ready by.
        kept h _ (load_accesses k older younger e address split ready by) p;
    starts = λ h older younger e cost message p split waits of_kind result costs.
        kept h _ (one_starts k older younger e cost message split waits of_kind result costs) p;
  };
  broadcast = record {
    broadcasts = λ h older younger e message p split gives. kept h _ (one_sent older younger e message split gives) p;
    mends = λ h older younger e next p split. kept h _ (one_mended older younger e next split) p;
  };
  dispatch = record { dispatches = λ h f rest p first none. kept h _ (one_enters f rest first none) p };
}

-- and what the phases keep each change keeps
pub changes-kept : {P : Hardware → Type 0} → IsKeptByPhases P → IsKeptByChanges P
changes-kept kept h _ (new_levels levels) p = kept.lines h levels p
changes-kept kept h _ (all_squashed s retired) p = kept.commit.empties h s retired p
changes-kept kept h _ (head_retires e es s message split known none) p =
    kept.commit.retires h e es s message p split known none
changes-kept kept h _ (cache_written drained) p = kept.commit.writes_back h p drained
changes-kept kept h _ (store_drained idle) p = kept.drain.leaves h p idle
changes-kept kept h _ (store_drains access idle is) p = kept.drain.drains h access p idle is
changes-kept kept h _ (load_accesses k older younger e address split ready by) p =
    (kept.issue k).accesses h older younger e address p split ready by
changes-kept kept h _ (one_starts k older younger e cost message split waits of_kind result costs) p =
    (kept.issue k).starts h older younger e cost message p split waits of_kind result costs
changes-kept kept h _ (one_sent older younger e message split gives) p =
    kept.broadcast.broadcasts h older younger e message p split gives
changes-kept kept h _ (one_mended older younger e next split) p = kept.broadcast.mends h older younger e next p split
changes-kept kept h _ (one_enters f rest first none) p = kept.dispatch.dispatches h f rest p first none

-- what is kept and what is kept beside it are kept together
pub kept-together : {P Q R : Hardware → Type 0} → ((h : Hardware) → P h → Q h → R h) → ((h : Hardware) → R h → P h) →
    ((h : Hardware) → R h → Q h) → IsKept P → IsKept Q → IsKept R
kept-together both one other p q = record {
  phases = phases-kept (λ h g change r.
      both g (changes-kept p.phases h g change (one h r)) (changes-kept q.phases h g change (other h r)));
  fetch = λ ram cycle h front stop r fetches.
      both _ (p.fetch ram cycle h front stop (one h r) fetches) (q.fetch ram cycle h front stop (other h r) fetches);
}

-- two properties that are kept are kept together
pub both-kept : {P Q : Hardware → Type 0} → IsKept P → IsKept Q → IsKept (λ h. P h × Q h)
both-kept p q = kept-together (λ h one other. (one, other)) (λ h both. both.0) (λ h both. both.1) p q

module _ {P : Hardware → Type 0} (kept : IsKeptByPhases P) where
  -- so the phases from drain to dispatch keep it
  pub execute-keeps : (h : Hardware) → P h → P (execute h).hardware
  execute-keeps h holds =
      dispatch-keeps kept.dispatch _
      (broadcast-keeps kept.broadcast _ (issue-keeps P kept.issue _ (drain-keeps kept.drain h holds)))

  -- and so do those of a cycle up to its dispatch
  pub phases-keep : {answers : Answers} {lines : Lines} {old new : Hardware} {report : Report}
      (cycle : IsCycle answers lines old report new) →
      P old → P cycle.dispatching.hardware
  phases-keep {lines = lines} {old = old} cycle holds = grind (arith, commit-keeps, execute-keeps)

-- what was described, and the cycle's number
abbrev pub SameAs : Values → CacheValues → ℕ → Hardware → Type 0
SameAs values cache cycle h = (h.values ≡ values) × (h.cache.values ≡ cache) × (h.cycle ≡ cycle)

same_changes : (values : Values) (cache : CacheValues) (cycle : ℕ) → IsKeptByChanges (SameAs values cache cycle)
same_changes values cache cycle h given holds same = grind arith

-- no phase from commit to dispatch changes what was described or the cycle's number
pub same-kept : (values : Values) (cache : CacheValues) (cycle : ℕ) → IsKeptByPhases (SameAs values cache cycle)
same-kept values cache cycle = phases-kept (same_changes values cache cycle)

-- a whole cycle keeps what its phases and its fetch keep
pub cycle-keeps : {P : Hardware → Type 0} {lines : Lines} {old new : Hardware} {report : Report} → IsKept P →
    IsCycle any_prediction lines old report new → P old → P new
cycle-keeps {P} {lines} {old} {new} kept cycle holds =
    let after = phases-keep kept.phases cycle holds in
    let d : Hardware = cycle.dispatching.hardware in
    let number : d.cycle ≡ old.cycle =
    (phases-keep (same-kept old.values old.cache.values old.cycle) cycle (refl, refl, refl)).2 in
    let fetched = kept.fetch d.cache.backing old.cycle d new.front cycle.fetch_stop after cycle.fetches in
    subst P (ap (λ n. record d { front = new.front; cycle = n + 1 }) number ∙ sym cycle.others_stay) fetched
