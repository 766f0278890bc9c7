-- A FENCE.I retires after the accesses of all older stores.
use Rattle.rv_hardware.proofs.Words.{◌≡◌, ℕ, ◌+◌, ◌≤◌, Bool, true, false, cond, List, [], ◌∷◌, ◌++◌, filter, Option}
use Rattle.rv_hardware.proofs.Words.{Some, None, AllPairs, nat_cmp, sym, refl, subst, true≢false, append-nil, arith}
use Rattle.rv_hardware.proofs.Words.{is_serialising, is_fence_i, Instr, Values, Each, Lines, due, interrupt_cause}
use Rattle.rv_hardware.proofs.Words.{Entry, Committing, commit_unless, with_lines, Hardware, written_of, Turn, GoesOn}
use Rattle.rv_hardware.proofs.Words.{Ends, Report, FencesAfterStore, is_store_row, rows_of, Row, Step, Interrupt}
use Rattle.rv_hardware.proofs.Words.{Retired, Trap, Each-all, each_then, EveryPair, EveryPair-append}
use Rattle.rv_hardware.proofs.Words.{AllPairs-EveryPair, Leaves}
use Rattle.std.specs.FinSet as set
use Rattle.rv_hardware.proofs.Marks.Cited.{CommitTurn, drained_none, fence_retires, executes, serial_faults, traps}
use Rattle.rv_hardware.proofs.Marks.Cited.{retires, retires_last, History, began, went_on, begin, anything_is_kept}
use Rattle.rv_hardware.proofs.Marks.Cited.{Passed, history_is_legal, history_passes, InCommit, commit_turns_keep}
use Rattle.rv_hardware.proofs.Marks.Cited.{row_at, MayRetire, may_retire_serial, may_retire_finished, Mark}
use Rattle.rv_hardware.proofs.Laws.StoreQueue.{Queue, pushed, commit_queue, queue_of_history}
use Rattle.rv_hardware.proofs.Laws.StoreQueue.Queue.{AreQueued, QueueOk}

-- ---- where no retired store waits, the accesses of all are over

one_by_test : (b : Bool) (P : Row → Type 0) (row : Row) (rows : List Row) → Each P (cond b (row ∷ rows) rows) →
    (b ≡ true → P row) × Each P rows
one_by_test true P row rows h = (λ is. h.0, h.1)
one_by_test false P row rows h = (λ is. absurd (true≢false (sym is)), h)

each_by_test : (p : Row → Bool) (P : Row → Type 0) (rows : List Row) → Each P (filter p rows) →
    Each (λ row. p row ≡ true → P row) rows
each_by_test p P [] h = tt
each_by_test p P (row ∷ rows) h =
    let one = one_by_test (p row) P row (filter p rows) h in
    (one.0, each_by_test p P rows one.1)

all_gone : (hit port : ℕ) (gone kept : List Row) → AreQueued hit port kept [] → gone ++ kept ≡ gone
all_gone hit port gone [] queued = append-nil gone
all_gone hit port gone (row ∷ kept) queued = absurd queued

stores_over : {hit now : ℕ} {rows : List Row} {port : ℕ} → QueueOk hit now rows port [] →
    Each (λ a. is_store_row a ≡ true → a.retired + hit ≤ now) rows
stores_over {hit} {now} {rows} {port} ok = grind (arith, each_by_test, all_gone)

-- ---- the commit phase

module _ (v : Values) (now : ℕ) (earlier : List Step) (is_stale : set.FinSet nat_cmp → ℕ → Bool) where
  -- the FENCE.I among the rows retired after the accesses of older stores
  abbrev Fenced : List Step → Type 0
  Fenced steps = EveryPair (FencesAfterStore v.cache.hit) (rows_of steps)

  abbrev Fences : Committing → Type 0
  Fences c = Queue v now (earlier ++ c.steps) c.hardware × Fenced (earlier ++ c.steps)

  leaves_both : (P Q : Committing → Type 0) (t : Turn Committing) → Leaves P t → Leaves Q t →
      Leaves (λ c. P c × Q c) t
  leaves_both P Q (GoesOn c) p q = (p, q)
  leaves_both P Q (Ends c) p q = (p, q)

  -- a step without a row
  no_row : (c : Committing) (s : Step) → rows_of (s ∷ []) ≡ [] → Fenced (earlier ++ c.steps) →
      Fenced (earlier ++ (c.steps ++ s ∷ []))
  no_row c s none fenced = grind (arith, pushed, append-nil)

  one_row : (c : Committing) (row : Row) →
      Each (λ a. FencesAfterStore v.cache.hit a row) (rows_of (earlier ++ c.steps)) → Fenced (earlier ++ c.steps) →
      Fenced (earlier ++ (c.steps ++ Retired row ∷ []))
  one_row c row after fenced = grind (arith, pushed, EveryPair-append, each_then)

  -- one that is no FENCE.I
  other_row : (c : Committing) (e : Entry) (es : List Entry) (written : Option (ℕ × ℕ)) →
      c.hardware.rob.entries ≡ e ∷ es → MayRetire e.instruction e.stage → is_fence_i e.instruction ≡ false →
      InCommit v now earlier is_stale c → Fenced (earlier ++ c.steps) →
      Fenced (earlier ++ (c.steps ++ Retired (row_at e written c.hardware.cycle) ∷ []))
  other_row c e es written place may other p fenced = grind (arith, one_row, Each-all)

  plain_is_other : (i : Option Instr) → is_serialising i ≡ false → is_fence_i i ≡ false
  plain_is_other i plain = grind arith

  commit_fences : (c : Committing) (t : Turn Committing) → CommitTurn is_stale c t →
      InCommit v now earlier is_stale c → Fences c → Leaves (λ d. Fenced (earlier ++ d.steps)) t
  commit_fences c _ (fence_retires e es written next head is drained) p (ok, fenced) =
      let empty = subst (λ ss. QueueOk v.cache.hit now (rows_of (earlier ++ c.steps)) c.hardware.port_free ss)
      (drained_none c.hardware drained) ok in
      one_row c (row_at e written c.hardware.cycle)
      (each_then (λ a over store fence. omega (arith, over store, p.basics.cycle)) (rows_of (earlier ++ c.steps))
      (stores_over empty))
      fenced
  commit_fences c _ (executes e es written next head serial other) p (ok, fenced) =
      other_row c e es written head.place (may_retire_serial e.instruction e.stage serial) other p fenced
  commit_fences c _ (serial_faults e es cause value head serial other) p (ok, fenced) =
      no_row c (Trap e.pc cause value c.hardware.cycle) refl fenced
  commit_fences c _ (traps e es issue cycle message fault head plain at is) p (ok, fenced) =
      no_row c (Trap e.pc fault.cause fault.value c.hardware.cycle) refl fenced
  commit_fences c _ (retires e es issue cycle message head plain at none) p (ok, fenced) =
      other_row c e es (written_of e message) head.place (may_retire_finished e.instruction at none)
      (plain_is_other e.instruction plain) p fenced
  commit_fences c _ (retires_last e es issue cycle message head plain at none) p (ok, fenced) =
      other_row c e es (written_of e message) head.place (may_retire_finished e.instruction at none)
      (plain_is_other e.instruction plain) p fenced
  commit_fences c _ _ p (ok, fenced) = fenced

  commit_fences_by : (o : Option ℕ) (h : Hardware) →
      InCommit v now earlier is_stale (record { hardware = h; steps = []; stop = None }) →
      Queue v now (earlier ++ []) h → Fenced (earlier ++ []) → Fenced (earlier ++ (commit_unless is_stale o h).steps)
  commit_fences_by (Some code) h p ok fenced =
      no_row (record { hardware = h; steps = []; stop = None })
      (Interrupt h.pc (interrupt_cause code) h.cycle) refl fenced
  commit_fences_by None h p ok fenced =
      (commit_turns_keep v now earlier is_stale
      (λ c t turn q both.
      leaves_both (λ d. Queue v now (earlier ++ d.steps) d.hardware) (λ d. Fenced (earlier ++ d.steps)) t
      (commit_queue v now earlier is_stale c t turn q both.0) (commit_fences c t turn q both))
      h.values.commit_width p (ok, fenced)).1

-- ---- a cycle, and all

fences_in_cycle : {v : Values} {R : List Mark → Type 0} {earlier : List Step} {old new : Hardware} {lines : Lines}
    {report : Report} → History v earlier old → Passed v R earlier lines old report new →
    EveryPair (FencesAfterStore v.cache.hit) (rows_of earlier) →
    EveryPair (FencesAfterStore v.cache.hit) (rows_of (earlier ++ report.steps))
fences_in_cycle {v} {R} {earlier} {old} {new} {lines} {report} before passed fenced =
    let first = begin (history_is_legal before) lines new report (anything_is_kept v old.cycle) passed.begins tt in
    let g : Hardware = with_lines lines old in
    let committed = commit_fences_by v old.cycle earlier set.contains (due g.csrs g.lines) g first
    (rw (append-nil earlier) (queue_of_history before)) (rw (append-nil earlier) fenced) in
    rw (passed.steps) committed

fences_of_history : {v : Values} {steps : List Step} {h : Hardware} → History v steps h →
    EveryPair (FencesAfterStore v.cache.hit) (rows_of steps)
fences_of_history (began image start legal) = tt
fences_of_history {v} (went_on before is) =
    fences_in_cycle before (history_passes v before is) (fences_of_history before)

-- the field `fences_after_stores` of `Laws`, over every history
pub law_of_fences_after_stores : {v : Values} {steps : List Step} {h : Hardware} → History v steps h →
    AllPairs (FencesAfterStore v.cache.hit) (rows_of steps)
law_of_fences_after_stores history = AllPairs-EveryPair _ _ (fences_of_history history)
