-- What each turn of the commit phase keeps all its turns keep, and what each phase keeps the phases of a cycle keep.
use Rattle.rv_hardware.proofs.Words.{◌≡◌, ℕ, Bool, true, List, ◌∷◌, ◌++◌, nat_cmp, at_kind, Lines, Kind, Values}
use Rattle.rv_hardware.proofs.Words.{is_free, Entry, Committing, commit_turn, with_lines, Hardware, is_ready, issued}
use Rattle.rv_hardware.proofs.Words.{Turn, repeated, Report, Step, Leads, leads_both, left_by_turns, arith}
use Rattle.std.specs.FinSet as set
use Rattle.rv_hardware.proofs.Turns.Cited.{access_keeps, IsKeptByBroadcast, broadcast-keeps, IsKeptByCommit}
use Rattle.rv_hardware.proofs.Turns.Cited.{commit-keeps, IsKeptByDispatch, dispatch-keeps, IsKeptByDrain, drain-keeps}
use Rattle.rv_hardware.proofs.Turns.Cited.{KeepsStarts, starts-keep, issue-by, CommitTurn, commit_turn_is}
use Rattle.rv_hardware.proofs.Always.Sizes.{HasShape, shape-kept}
use Rattle.rv_hardware.proofs.Marks.List.{Mark}
use Rattle.rv_hardware.proofs.Marks.History.{anything_is_kept, Passed, committing, drained, issued_all, sent_all}
use Rattle.rv_hardware.proofs.Marks.History.{dispatching}
use Rattle.rv_hardware.proofs.Marks.Phases.{Commits, commit_turn_keeps}

module _ (v : Values) (now : ℕ) (earlier : List Step) (is_stale : set.FinSet nat_cmp → ℕ → Bool) where
  -- what is basic in the commit phase
  abbrev pub InCommit : Committing → Type 0
  InCommit c = Commits (anything_is_kept v now) earlier is_stale c

  module _ {Q : Committing → Type 0}
      (keeps : (c : Committing) (t : Turn Committing) → CommitTurn is_stale c t → InCommit c → Q c → Leads Q Q t) where
    turn_keeps : (c : Committing) → InCommit c × Q c → Leads (λ c. InCommit c × Q c) Q (commit_turn is_stale c)
    turn_keeps c p =
        let is = commit_turn_is is_stale c in
        leads_both InCommit Q Q (commit_turn is_stale c)
        (commit_turn_keeps (anything_is_kept v now) earlier is_stale is p.0)
        (keeps c (commit_turn is_stale c) is p.0 p.1)

    -- what each turn of the commit phase keeps, where what is basic holds, all turns keep
    pub commit_turns_keep : (width : ℕ) {c : Committing} → InCommit c → Q c →
        Q (repeated (commit_turn is_stale) width c)
    commit_turns_keep width {c} p q = left_by_turns (commit_turn is_stale) turn_keeps (λ c p. p.1) width c (p, q)

-- the hardware is of a description, in a cycle
abbrev pub InCycle : Values → ℕ → Hardware → Type 0
InCycle v now h = HasShape v h × (h.cycle ≡ now)

-- a start leaves it so
pub starts_in_cycle : (v : Values) (now : ℕ) (k : Kind) → KeepsStarts (InCycle v now) k
starts_in_cycle v now k h older younger e p given is free = grind (arith, starts-keep, shape-kept, access_keeps)

-- what each phase of a cycle keeps of the hardware, where a start knows the description and the cycle
pub record IsKeptInCycle (v : Values) (now : ℕ) (P : Hardware → Type 0) : Type 0 where
  pub lines : (h : Hardware) (levels : Lines) → P h → P (with_lines levels h)
  pub commit : IsKeptByCommit P
  pub drain : IsKeptByDrain P
  pub issue : (k : Kind) (h : Hardware) (older younger : List Entry) (e : Entry) → InCycle v now h → P h →
      h.rob.entries ≡ older ++ e ∷ younger → is_ready h k older e ≡ true → is_free h.cycle (at_kind k h.units) ≡ true →
      P (issued k h older e)
  pub broadcast : IsKeptByBroadcast P
  pub dispatch : IsKeptByDispatch P

-- so the phases of a cycle up to dispatch keep it
pub in_cycle : {v : Values} {R : List Mark → Type 0} {earlier : List Step} {lines : Lines} {old new : Hardware}
    {report : Report} {P : Hardware → Type 0} →
    IsKeptInCycle v old.cycle P → Passed v R earlier lines old report new → P old → P (dispatching lines old).hardware
in_cycle {v} {R} {earlier} {lines} {old} {new} {report} {P} kept passed holds =
    let now : ℕ = old.cycle in
    let committed = commit-keeps kept.commit set.contains (with_lines lines old) (kept.lines old lines holds) in
    let drains = drain-keeps kept.drain (committing lines old).hardware committed in
    let issues = issue-by (λ h. InCycle v now h × P h)
    (λ k h older younger e p at is free.
    (starts_in_cycle v now k h older younger e p.0 at is free, kept.issue k h older younger e p.0 p.1 at is free))
    (drained lines old) ((passed.drains.basics.always.sizes, passed.drains.basics.cycle), drains) in
    dispatch-keeps kept.dispatch (sent_all lines old) (broadcast-keeps kept.broadcast (issued_all lines old) issues.1)
