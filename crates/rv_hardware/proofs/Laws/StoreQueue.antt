-- Every cycle keeps the store queue's tie to the rows, and so it holds no more stores than it has room for.
pub mod Queue
use Rattle.rv_hardware.proofs.Words.{◌≡◌, ℕ, zero, suc, ◌+◌, ◌<◌, ◌≤◌, Bool, true, false, cond, ◌&&◌, List, [], ◌∷◌}
use Rattle.rv_hardware.proofs.Words.{◌++◌, map, length, is_some, nat_lt, nat_le, Some, None, filter, Option, nat_cmp}
use Rattle.rv_hardware.proofs.Words.{sym, refl, ap, ◌∙◌, subst, inl, inr, append_assoc, append-nil, arith, ltb-true}
use Rattle.rv_hardware.proofs.Words.{le-ltb, lt-ltb, le-leb, leb-true, and_from, cases_lt, is_serialising, is_store}
use Rattle.rv_hardware.proofs.Words.{Message, Issue, Lines, Kind, CacheValues, Values, due, interrupt_cause, Each}
use Rattle.rv_hardware.proofs.Words.{Store, Entry, Finished, broadcast, Committing, commit_unless, with_fault}
use Rattle.rv_hardware.proofs.Words.{with_lines, dispatch, drain, Hardware, broadcast_of, FromCache, has_port, issue}
use Rattle.rv_hardware.proofs.Words.{NeverMoreThan, Turn, Report, written_of, is_queued_in, is_store_row, rows_of, Row}
use Rattle.rv_hardware.proofs.Words.{Step, Interrupt, Retired, Trap, and_first, and_second, Each-weaker, Each-all}
use Rattle.rv_hardware.proofs.Words.{count, count-count_by, count-append, count-none, count-map, count-le, count-length}
use Rattle.rv_hardware.proofs.Words.{Beginning-count, Leads, and_right, each_then}
use Rattle.std.specs.FinSet as set
use Rattle.rv_hardware.proofs.Marks.Cited.{IsKeptByBroadcast, broadcast-keeps, access_cost-least, IsKeptByDispatch}
use Rattle.rv_hardware.proofs.Marks.Cited.{dispatch-keeps, IsKeptByDrain, drain-keeps, IsKeptByIssue, issue-keeps}
use Rattle.rv_hardware.proofs.Marks.Cited.{ready-parts, store_count, instructions_of, CommitTurn, no_head, stale_head}
use Rattle.rv_hardware.proofs.Marks.Cited.{unfinished, fence_waits, fence_writes, fence_retires, executes}
use Rattle.rv_hardware.proofs.Marks.Cited.{serial_faults, traps, retires, retires_last, written_back, retired_with}
use Rattle.rv_hardware.proofs.Marks.Cited.{count-as_of, Anything, anything_is_kept, Passed, History, began, went_on}
use Rattle.rv_hardware.proofs.Marks.Cited.{begin, committing, drained, history_is_legal, history_is_sound}
use Rattle.rv_hardware.proofs.Marks.Cited.{history_passes, InCommit, commit_turns_keep, Mark, mark_of_row}
use Rattle.rv_hardware.proofs.Marks.Cited.{mark_of_entry, mark_of_fetched, marks_in, at_end, as_of, was_fetched, until}
use Rattle.rv_hardware.proofs.Marks.Cited.{Extends, rows_append, until_by, rows_obey, SoundRow, row_at, retiring_is_one}
use Rattle.rv_hardware.proofs.Marks.Cited.{may_retire_serial, may_retire_finished, MayRetire, SoundEntry, row_decodes}
use Rattle.rv_hardware.proofs.Marks.Cited.{Shaped, message_at_end, count_marks}
use Rattle.rv_hardware.proofs.Headline.Stores.{serialising_is_no_store}
use Rattle.rv_hardware.proofs.Laws.Port.Loads.{has_its_port, port_grows}
use Rattle.rv_hardware.proofs.Laws.Port.Phases.{drained_idle}
use Rattle.rv_hardware.proofs.Laws.StoreQueue.Queue.{QueueOk, queued_length, queue_later, queue_next, plain_retires}
use Rattle.rv_hardware.proofs.Laws.StoreQueue.Queue.{queue_retires, queue_leaves, queue_begins}

-- the tie of a description, by the steps of earlier cycles and of this one
abbrev pub Queue : Values → ℕ → List Step → Hardware → Type 0
Queue v now steps h = QueueOk v.cache.hit now (rows_of steps) h.port_free h.committed

-- commit

module _ (v : Values) (now : ℕ) (earlier : List Step) (is_stale : set.FinSet nat_cmp → ℕ → Bool) where
  abbrev pub Queues : Committing → Type 0
  Queues c = Queue v now (earlier ++ c.steps) c.hardware

  -- the rows after one more step
  pub pushed : (c : Committing) (s : Step) →
      rows_of (earlier ++ (c.steps ++ s ∷ [])) ≡ rows_of (earlier ++ c.steps) ++ rows_of (s ∷ [])
  pushed c s = ap rows_of (sym (append_assoc earlier c.steps (s ∷ []))) ∙ rows_append (earlier ++ c.steps) (s ∷ [])

  -- a step without a row
  no_row : (c : Committing) (s : Step) (h : Hardware) → rows_of (s ∷ []) ≡ [] → h.port_free ≡ c.hardware.port_free →
      h.committed ≡ c.hardware.committed → Queue v now (earlier ++ c.steps) c.hardware →
      Queue v now (earlier ++ (c.steps ++ s ∷ [])) h
  no_row c s h given port committed ok = grind (arith, pushed, append-nil)

  -- a serialising instruction
  serial_row : (c : Committing) (e : Entry) (es : List Entry) (written : Option (ℕ × ℕ)) (port : ℕ) →
      c.hardware.rob.entries ≡ e ∷ es → is_serialising e.instruction ≡ true → c.hardware.port_free ≤ port →
      InCommit v now earlier is_stale c → Queue v now (earlier ++ c.steps) c.hardware →
      QueueOk v.cache.hit now
      (rows_of (earlier ++ (c.steps ++ Retired (row_at e written c.hardware.cycle) ∷ []))) port c.hardware.committed
  serial_row c e es written port place serial le p ok =
      grind (arith, serialising_is_no_store, plain_retires, pushed, queue_later)

  -- a result
  result_row : (c : Committing) (e : Entry) (es : List Entry) {issue : Option Issue} {cycle : ℕ} {message : Message} →
      c.hardware.rob.entries ≡ e ∷ es → e.stage ≡ Finished issue cycle message → message.fault ≡ None →
      InCommit v now earlier is_stale c → Queues c →
      Queue v now (earlier ++ (c.steps ++ Retired (row_at e (written_of e message) c.hardware.cycle) ∷ []))
      (retired_with e message c).hardware
  result_row c e es {issue} {cycle} {message} place given holds p ok = grind (arith, pushed, queue_retires)

  -- each turn of the commit phase keeps the tie
  pub commit_queue : (c : Committing) (t : Turn Committing) → CommitTurn is_stale c t →
      InCommit v now earlier is_stale c → Queues c → Leads Queues Queues t
  commit_queue c _ (fence_writes e es head is drained dirty) p ok =
      queue_later ok (written_back c).hardware.port_free (omega (arith, drained_idle _ c.hardware drained))
  commit_queue c _ (fence_retires e es written next head is drained) p ok =
      serial_row c e es written (written_back c).hardware.port_free head.place (ap is_serialising is)
      (omega (arith, drained_idle _ c.hardware drained)) p ok
  commit_queue c _ (executes e es written next head serial other) p ok =
      serial_row c e es written c.hardware.port_free head.place serial (omega arith) p ok
  commit_queue c _ (serial_faults e es cause value head serial other) p ok =
      no_row c (Trap e.pc cause value c.hardware.cycle) (with_fault e cause value c).hardware refl refl refl ok
  commit_queue c _ (traps e es issue cycle message fault head plain at is) p ok = grind (arith, no_row)
  commit_queue c _ (retires e es issue cycle message head plain at none) p ok =
      result_row c e es head.place at none p ok
  commit_queue c _ (retires_last e es issue cycle message head plain at none) p ok =
      result_row c e es head.place at none p ok
  commit_queue c _ _ p ok = ok

  commit_queue_by : (o : Option ℕ) (h : Hardware) →
      InCommit v now earlier is_stale (record { hardware = h; steps = []; stop = None }) →
      Queue v now (earlier ++ []) h →
      Queue v now (earlier ++ (commit_unless is_stale o h).steps) (commit_unless is_stale o h).hardware
  commit_queue_by (Some code) h p ok =
      no_row (record { hardware = h; steps = []; stop = None }) (Interrupt h.pc (interrupt_cause code) h.cycle)
      (commit_unless is_stale (Some code) h).hardware refl refl refl ok
  commit_queue_by None h p ok = commit_turns_keep v now earlier is_stale commit_queue h.values.commit_width p ok

-- drain, and the phases after it

module _ (v : Values) (now : ℕ) (steps : List Step) where
  abbrev Drained : Hardware → Type 0
  Drained h = (h.cycle ≡ now) × (h.cache.values ≡ v.cache) × Queue v now steps h

  drain_queue : IsKeptByDrain Drained
  drain_queue = grind (arith, queue_leaves, queue_begins)

  issue_queue : (k : Kind) → IsKeptByIssue (Queue v now steps) k
  issue_queue k = grind (arith, queue_later)

  broadcast_queue : IsKeptByBroadcast (Queue v now steps)
  broadcast_queue = grind arith

  dispatch_queue : IsKeptByDispatch (Queue v now steps)
  dispatch_queue = record { dispatches = λ h fetched rest ok first none. ok }

  executed_queue : (h : Hardware) → Drained h → Queue v now steps (dispatch (broadcast (issue (drain h)))).hardware
  executed_queue h p =
      dispatch-keeps dispatch_queue (broadcast (issue (drain h)))
      (broadcast-keeps broadcast_queue (issue (drain h))
      (issue-keeps (Queue v now steps) issue_queue (drain h) (drain-keeps drain_queue h p).2))

-- a cycle

queue_in_cycle : {v : Values} {R : List Mark → Type 0} {earlier : List Step} {old new : Hardware} {lines : Lines}
    {report : Report} →
    History v earlier old → Passed v R earlier lines old report new → Queue v old.cycle earlier old →
    Queue v old.cycle (earlier ++ report.steps) new
queue_in_cycle {v} {earlier} {old} {new} {lines} {report} before passed ok =
    let first = begin (history_is_legal before) lines new report (anything_is_kept v old.cycle) passed.begins tt in
    let g : Hardware = with_lines lines old in
    let committed = commit_queue_by v old.cycle earlier set.contains (due g.csrs g.lines) g first
    (rw (append-nil earlier) ok) in
    let at_commit : Queue v old.cycle (earlier ++ report.steps) (committing lines old).hardware =
    rw (passed.steps) committed in
    let done = executed_queue v old.cycle (earlier ++ report.steps) (committing lines old).hardware
    (passed.committed.basics.cycle, passed.committed.basics.always.sizes.cache, at_commit) in
    subst (λ (h : Hardware). Queue v old.cycle (earlier ++ report.steps) h) (sym passed.others_stay) done

pub queue_of_history : {v : Values} {steps : List Step} {h : Hardware} → History v steps h → Queue v h.cycle steps h
queue_of_history (began image start legal) =
    record { gone = []; kept = []; split = refl; over = tt; by_now = tt; queued = tt }
queue_of_history {v} (went_on {earlier} {old} {new} {lines} {report} before is) =
    let passed = history_passes v before is in
    let next : new.cycle ≡ old.cycle + 1 = ap (λ (h : Hardware). h.cycle) passed.others_stay in
    queue_next (queue_in_cycle before passed (queue_of_history before)) new.cycle (omega (arith, next))

-- counts

-- a store that did not retire by the cycle, or no longer ago than its access takes
abbrev stays : ℕ → ℕ → Option ℕ → Bool
stays hit c None = true
stays hit c (Some retired) = nat_lt c (retired + hit)

abbrev is_queued_mark : ℕ → ℕ → Mark → Bool
is_queued_mark hit c m = is_store m.instruction && (is_some m.dispatched && stays hit c m.retired)

module _ (hit now : ℕ) where
  abbrev is_late : Row → Bool
  is_late row = nat_lt now (row.retired + hit)

  late_by : (b : Bool) (row : Row) {m : ℕ} (rows : List Row) → m ≡ count is_late rows →
      cond (b && is_late row) (suc m) m ≡ count is_late (cond b (row ∷ rows) rows)
  late_by b row rows same = grind arith

  late_rows : (rows : List Row) →
      count (λ row. is_queued_mark hit now (mark_of_row row)) rows ≡ count is_late (filter is_store_row rows)
  late_rows [] = refl
  late_rows (row ∷ rows) = late_by (is_store_row row) row (filter is_store_row rows) (late_rows rows)

  queued_rows : {rows : List Row} {port : ℕ} {committed : List Store} → QueueOk hit now rows port committed →
      count (λ row. is_queued_mark hit now (mark_of_row row)) rows ≤ length committed
  queued_rows ok = grind (arith, late_rows, count-append, count-none, Each-weaker, le-ltb, count-length, queued_length)

  counted_by : (b : Bool) (m n : ℕ) → m ≡ n → cond (b && true) (suc m) m ≡ cond b 1 0 + n
  counted_by b m n same = grind arith

  queued_entries : (es : List Entry) →
      count (λ e. is_queued_mark hit now (mark_of_entry e)) es ≡ store_count (instructions_of es)
  queued_entries [] = refl
  queued_entries (e ∷ es) = counted_by (is_store e.instruction) _ _ (queued_entries es)

law_by_cycle : {v : Values} {steps : List Step} {h : Hardware} → History v steps h → (c : ℕ) → c < h.cycle →
    count (is_queued_mark v.cache.hit c) (as_of c (map mark_of_row (rows_of steps))) ≤ v.store_queue
law_by_cycle {v} history =
    rows_obey v (λ c ms. count (is_queued_mark v.cache.hit c) ms ≤ v.store_queue)
    (λ c xs ys b le. let less = Beginning-count (is_queued_mark v.cache.hit c) xs ys b in omega (arith, less, le))
    (λ earlier old new lines report before after passed.
    let p : Mark → Bool = is_queued_mark v.cache.hit old.cycle in
    let ok = queue_in_cycle before passed (queue_of_history before) in
    let parts = count_marks p (earlier ++ report.steps) new.rob.entries new.front.entries in
    let rows = queued_rows v.cache.hit old.cycle ok in
    let entries = queued_entries v.cache.hit old.cycle new.rob.entries in
    let words = count-none (λ f. p (mark_of_fetched f)) new.front.entries
    (Each-all (λ f. p (mark_of_fetched f) ≡ false)
    (λ f. and_right (is_store f.instruction) false refl) new.front.entries) in
    let room = (history_is_sound after).always.stores.1 in
    let values = ap (λ (w : Values). w.store_queue) (history_is_sound after).always.sizes.values in
    omega (arith, parts, rows, entries, words, room, values)) history

-- so of rows

row_is_queued : {v : Values} (c : ℕ) {bound : ℕ} {row : Row} → SoundRow v bound row →
    is_queued_in v.cache.hit c row ≡ true →
    (was_fetched c (mark_of_row row) && is_queued_mark v.cache.hit c (at_end c (mark_of_row row))) ≡ true
row_is_queued c sound h = grind (arith, and_first, leb-true, and_second, and_from, le-leb, until_by)

-- after the last cycle no more rows are counted than in it
still_queued : {v : Values} (c now : ℕ) {row : Row} → now ≤ c → SoundRow v (now + 1) row →
    is_queued_in v.cache.hit c row ≡ true → is_queued_in v.cache.hit now row ≡ true
still_queued c now le sound h = grind (arith, and_first, ltb-true, and_second, and_from, le-leb, lt-ltb)

module _ {v : Values} {steps : List Step} {h : Hardware} (history : History v steps h) where
  queued_before : (c : ℕ) → c < h.cycle → count (is_queued_in v.cache.hit c) (rows_of steps) ≤ v.store_queue
  queued_before c lt =
      let p : Mark → Bool = is_queued_mark v.cache.hit c in
      let law = law_by_cycle history c lt in
      let counts = count-as_of p c (map mark_of_row (rows_of steps)) ∙
      count-map (λ m. was_fetched c m && p (at_end c m)) mark_of_row (rows_of steps) in
      let fewer = count-le (is_queued_in v.cache.hit c)
      (λ row. was_fetched c (mark_of_row row) && p (at_end c (mark_of_row row))) _
      (each_then (λ row sound. row_is_queued c sound) _ (history_is_sound history).rows) in
      omega (arith, law, counts, fewer)

  queued_by : (n c : ℕ) → h.cycle ≡ n → n ≤ c → count (is_queued_in v.cache.hit c) (rows_of steps) ≤ v.store_queue
  queued_by zero c at le = grind (arith, count-none, Each-weaker, history_is_sound)
  queued_by (suc now) c at le =
      let fewer = count-le (is_queued_in v.cache.hit c) (is_queued_in v.cache.hit now) _
      (each_then (λ row sound.
      still_queued c now (omega (arith, le)) (subst (λ n. SoundRow v n row) (omega (arith, at)) sound)) _
      (history_is_sound history).rows) in
      let law = queued_before now (omega (arith, at)) in
      omega (arith, fewer, law)

  -- the field `store_queue` of `Laws`, over every history
  pub law_of_store_queue : NeverMoreThan v.store_queue (is_queued_in v.cache.hit) (rows_of steps)
  law_of_store_queue c =
      let same = count-count_by (is_queued_in v.cache.hit c) (rows_of steps) in
      elim (cases_lt c h.cycle) [
        | inl before ↦ let le = queued_before c before in omega (arith, same, le)
        | inr after ↦ let le = queued_by h.cycle c refl after in omega (arith, same, le)
      ]
