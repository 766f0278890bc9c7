-- Every phase keeps what is basic, turn by turn, and its marks go on.
use Rattle.rv_hardware.proofs.Words.{is_known as is_known_store, ◌≡◌, ℕ, ◌+◌, ◌<◌, ◌≤◌, Bool, true, false, not, ◌&&◌}
use Rattle.rv_hardware.proofs.Words.{◌||◌, List, [], ◌∷◌, ◌++◌, map, length, Some, None, filter, Option, nat_cmp, sym}
use Rattle.rv_hardware.proofs.Words.{refl, ap, ◌∙◌, subst, append_assoc, append-nil, arith, leb-false, list_all}
use Rattle.rv_hardware.proofs.Words.{IsLegal, is_load, is_of_kind, is_serialising, kind_of_word, sources_of_word}
use Rattle.rv_hardware.proofs.Words.{at_kind, Message, Issue, Kind, Values, due, interrupt_cause, Each, finished}
use Rattle.rv_hardware.proofs.Words.{predicting, started, Entry, Fetched, broadcast, broadcast_turn, has_result}
use Rattle.rv_hardware.proofs.Words.{with_broadcast, with_recovery, Committing, commit, commit_turn, commit_unless}
use Rattle.rv_hardware.proofs.Words.{Dispatching, dispatch, dispatch_turn, entry_of_fetched, has_full_stations}
use Rattle.rv_hardware.proofs.Words.{is_stationed, with_dispatched, drain, Hardware, cost_of, has_port, is_ready, issue}
use Rattle.rv_hardware.proofs.Words.{issue_kind, issue_turn, may_load, path, Turn, written_of, stores_after, rows_of}
use Rattle.rv_hardware.proofs.Words.{Step, Interrupt, Retired, Trap, Each-append, Each-left, Each-set, Each-place}
use Rattle.rv_hardware.proofs.Words.{Each-weaker, EveryAfter, Leads, Leaves, kept_by_turns}
use Rattle.std.specs.FinSet as set
use Rattle.rv_isa.specs.declared.operations.Kind.TheVariants as kind
use Rattle.rv_hardware.proofs.Turns.Cited.{commit_outcome-keeps, unless-keeps, drain-keeps, drain-same, sends-makes}
use Rattle.rv_hardware.proofs.Turns.Cited.{mends-makes, ready-parts, starts-keep, BroadcastTurn, no_result, sends}
use Rattle.rv_hardware.proofs.Turns.Cited.{mends, broadcast_turn_is, Sends, sent_entries, mended_entries, CommitTurn}
use Rattle.rv_hardware.proofs.Turns.Cited.{fence_writes, fence_retires, executes, serial_faults, traps, retires}
use Rattle.rv_hardware.proofs.Turns.Cited.{retires_last, commit_turn_is, head_retired_entries, DispatchTurn, dispatches}
use Rattle.rv_hardware.proofs.Turns.Cited.{dispatch_turn_is, IssueTurn, starts, issue_turn_is, access_keeps, message_at}
use Rattle.rv_hardware.proofs.Turns.Cited.{started_entries}
use Rattle.rv_hardware.proofs.Marks.Advance.{Advances, Starts, IsSent, mark_retires, mark_starts, mark_is_sent}
use Rattle.rv_hardware.proofs.Marks.Advance.{mark_enters, Kept}
use Rattle.rv_hardware.proofs.Marks.Evidence.{operands_known, stores_known, none_waits, rows_and_entries_are_dispatched}
use Rattle.rv_hardware.proofs.Marks.Evidence.{in_flight_room, stations_room}
use Rattle.rv_hardware.proofs.Marks.Basics.{Basics, started_sound, finished_sound, finished_mark, predicting_sound}
use Rattle.rv_hardware.proofs.Marks.Basics.{dispatched_sound, dispatched_mark, is_waiting_is}
use Rattle.rv_hardware.proofs.Marks.List.{Mark, start_of_issue, start_of_stage, broadcast_of_stage, mark_of_row}
use Rattle.rv_hardware.proofs.Marks.List.{mark_of_entry, mark_of_fetched, marks, marks_in, marks_squashed, rows_append}
use Rattle.rv_hardware.proofs.Marks.List.{marks_at_entry, marks_retired, marks_dispatched, older_marks}
use Rattle.rv_hardware.proofs.Marks.Row.{SoundRow, row_at, row_is_sound, row_advances, may_retire_serial}
use Rattle.rv_hardware.proofs.Marks.Row.{may_retire_finished, MayRetire}
use Rattle.rv_hardware.proofs.Always.Sizes.{HasShape}
use Rattle.rv_hardware.proofs.Always.Sound.{IsSoundFor, always-kept}
use Rattle.rv_hardware.proofs.Marks.Sound.{SoundCost, SoundEntry, SoundFetched, sound_later, is_of_kind_is, issued_cost}
use Rattle.rv_hardware.proofs.Marks.Sound.{positive_cost}

-- what is basic holds, and something of the marks that beginnings keep and marks that go on
pub record Goes (v : Values) (now dispatch_bound issue_bound stage_bound fetch_bound row_bound : ℕ)
    (R : List Mark → Type 0) (steps : List Step) (h : Hardware) : Type 0 where
  pub basics : Basics v now dispatch_bound issue_bound stage_bound fetch_bound row_bound steps h
  pub marks : R (marks_in steps h)

-- what goes on from marks to later ones
marks_from : (R : List Mark → Type 0) (steps further : List Step) (g h : Hardware) {es : List Entry}
    {fs : List Fetched} →
    g.rob.entries ≡ es → g.front.entries ≡ fs → R (marks_in steps h) →
    (R (marks_in steps h) → R (marks further es fs)) → R (marks_in further g)
marks_from R steps further g h at at' went goes = rw (at, at') (goes went)

module _ {v : Values} {now : ℕ} {R : List Mark → Type 0} (kept : Kept v now R) (earlier : List Step)
    (is_stale : set.FinSet nat_cmp → ℕ → Bool) where
  -- what holds in the commit phase
  abbrev pub Commits : Committing → Type 0
  Commits c = Goes v now now now now now (now + 1) R (earlier ++ c.steps) c.hardware

  push : (c : Committing) (s : Step) → earlier ++ (c.steps ++ s ∷ []) ≡ (earlier ++ c.steps) ++ s ∷ []
  push c s = sym (append_assoc earlier c.steps (s ∷ []))

  -- everything is flushed after a step
  after_step : (c : Committing) {g : Hardware} (s : Step) {es : List Entry} {fs : List Fetched} → Commits c →
      IsSoundFor v g → g.cycle ≡ c.hardware.cycle → g.rob.entries ≡ es → g.front.entries ≡ fs →
      Each (SoundEntry v now now now) es → Each (SoundFetched now) fs → Each (SoundRow v (now + 1)) (rows_of (s ∷ [])) →
      (R (marks_in (earlier ++ c.steps) c.hardware) → R (marks ((earlier ++ c.steps) ++ s ∷ []) es fs)) →
      Goes v now now now now now (now + 1) R (earlier ++ (c.steps ++ s ∷ [])) g
  after_step c s p always cycle given words sound sound' row goes =
      grind (arith, push, rows_append, Each-append, marks_from)

  squash_marks : (steps : List Step) (older younger : List Entry) (fs : List Fetched) →
      R (marks steps (older ++ younger) fs) → R (marks steps older [])
  squash_marks steps older younger fs r =
      let left = marks_squashed steps older younger fs in kept.cut (marks steps older []) left.0 (subst R left.1 r)

  flush_marks : (steps further : List Step) (es : List Entry) (fs : List Fetched) → rows_of further ≡ rows_of steps →
      R (marks steps es fs) → R (marks further [] [])
  flush_marks steps further es fs same r = rw same (squash_marks steps [] es fs r)

  -- a trap or an interrupt has no row
  no_row : (c : Committing) (s : Step) → rows_of (s ∷ []) ≡ [] → R (marks_in (earlier ++ c.steps) c.hardware) →
      R (marks ((earlier ++ c.steps) ++ s ∷ []) [] [])
  no_row c s given = grind (arith, flush_marks, rows_append, append-nil)

  module _ (c : Committing) (e : Entry) (es : List Entry) (written : Option (ℕ × ℕ))
      (place : c.hardware.rob.entries ≡ e ∷ es) (may : MayRetire e.instruction e.stage) (p : Commits c) where
    head_sound : SoundEntry v now now now e
    head_sound = (subst (Each (SoundEntry v now now now)) place p.basics.entries).0

    row_sound : SoundRow v (now + 1) (row_at e written c.hardware.cycle)
    row_sound = rw (p.basics.cycle) (row_is_sound written head_sound may)

    -- the head's mark becomes that of its row
    row_goes : R (marks_in (earlier ++ c.steps) c.hardware) →
        R (marks ((earlier ++ c.steps) ++ Retired (row_at e written c.hardware.cycle) ∷ []) es c.hardware.front.entries)
    row_goes =
        rw (
          place,
          p.basics.cycle,
          marks_retired (earlier ++ c.steps) (row_at e written now) es c.hardware.front.entries,
        )
        (kept.set (map mark_of_row (rows_of (earlier ++ c.steps)))
        (map mark_of_entry es ++ map mark_of_fetched c.hardware.front.entries) (mark_of_entry e)
        (mark_of_row (row_at e written now))
        (mark_retires (row_advances written head_sound may)))

    row_flushes : R (marks_in (earlier ++ c.steps) c.hardware) →
        R (marks ((earlier ++ c.steps) ++ Retired (row_at e written c.hardware.cycle) ∷ []) [] [])
    row_flushes r =
        squash_marks
        ((earlier ++ c.steps) ++ Retired (row_at e written c.hardware.cycle) ∷ []) [] es c.hardware.front.entries
        (row_goes r)

  turn_goes : (c : Committing) (t : Turn Committing) → CommitTurn is_stale c t → Commits c →
      Leaves (λ d. IsSoundFor v d.hardware) t → Leads Commits Commits t
  turn_goes c _ (fence_writes e es head is drained dirty) p always = grind arith
  turn_goes c _ (fence_retires e es written next head is drained) p always =
      let may = may_retire_serial e.instruction e.stage (ap is_serialising is) in
      after_step c (Retired (row_at e written c.hardware.cycle)) p
      always refl refl refl tt tt (row_sound c e es written head.place may p, tt)
      (row_flushes c e es written head.place may p)
  turn_goes c _ (executes e es written next head serial other) p always =
      let may = may_retire_serial e.instruction e.stage serial in
      after_step c (Retired (row_at e written c.hardware.cycle)) p
      always refl refl refl tt tt (row_sound c e es written head.place may p, tt)
      (row_flushes c e es written head.place may p)
  turn_goes c _ (serial_faults e es cause value head serial other) p always =
      after_step c (Trap e.pc cause value c.hardware.cycle) p always refl refl refl tt tt tt
      (no_row c (Trap e.pc cause value c.hardware.cycle) refl)
  turn_goes c _ (traps e es issue cycle message fault head plain at is) p always =
      after_step c (Trap e.pc fault.cause fault.value c.hardware.cycle) p
      always refl refl refl tt tt tt (no_row c (Trap e.pc fault.cause fault.value c.hardware.cycle) refl)
  turn_goes c _ (retires e es issue cycle message head plain at none) p always =
      let may = may_retire_finished e.instruction at none in
      after_step c (Retired (row_at e (written_of e message) c.hardware.cycle)) p
      always refl (head_retired_entries c.hardware.rob e es head.place) refl
      (subst (Each (SoundEntry v now now now)) head.place p.basics.entries).1 p.basics.fetched
      (row_sound c e es (written_of e message) head.place may p, tt)
      (row_goes c e es (written_of e message) head.place may p)
  turn_goes c _ (retires_last e es issue cycle message head plain at none) p always =
      let may = may_retire_finished e.instruction at none in
      after_step c (Retired (row_at e (written_of e message) c.hardware.cycle)) p
      always refl refl refl tt tt (row_sound c e es (written_of e message) head.place may p, tt)
      (row_flushes c e es (written_of e message) head.place may p)
  turn_goes c _ _ p always = p

  -- each turn of the commit phase keeps it
  pub commit_turn_keeps : {c : Committing} {t : Turn Committing} → CommitTurn is_stale c t → Commits c →
      Leads Commits Commits t
  commit_turn_keeps {c} {t} is p =
      turn_goes c t is p (commit_outcome-keeps (always-kept v).phases.commit is_stale is p.basics.always)

  commit_by_due : (o : Option ℕ) (h : Hardware) → Goes v now now now now now (now + 1) R (earlier ++ []) h →
      Commits (commit_unless is_stale o h)
  commit_by_due (Some code) h p =
      let c : Committing = record { hardware = h; steps = []; stop = None } in
      let g : Hardware = (commit_unless is_stale (Some code) h).hardware in
      let s : Step = Interrupt h.pc (interrupt_cause code) h.cycle in
      after_step c s p
      (unless-keeps (always-kept v).phases.commit is_stale (Some code) h p.basics.always) refl refl refl tt tt tt
      (no_row c s refl)
  commit_by_due None h p =
      kept_by_turns Commits (commit_turn is_stale)
      (λ c q. commit_turn_keeps (commit_turn_is is_stale c) q) h.values.commit_width
      (record { hardware = h; steps = []; stop = None }) p

  -- the commit phase keeps it
  pub commit_keeps : {h : Hardware} → Goes v now now now now now (now + 1) R (earlier ++ []) h →
      Commits (commit is_stale h)
  commit_keeps {h} p = commit_by_due (due h.csrs h.lines) h p

-- drain changes neither instructions nor words

-- the drain phase keeps what is basic and the marks
pub drain_keeps : {v : Values} {now d a b f r : ℕ} {R : List Mark → Type 0} {steps : List Step} {h : Hardware} →
    Goes v now d a b f r R steps h → Goes v now d a b f r R steps (drain h)
drain_keeps {v} {h} p =
    let same = drain-same h in
    record {
      basics = record {
        cycle = same.cycle ∙ p.basics.cycle;
        always = drain-keeps (always-kept v).phases.drain h p.basics.always;
        rows = p.basics.rows;
        entries = rw (same.rob) (p.basics.entries);
        fetched = rw (same.front) (p.basics.fetched);
      };
      marks = rw (same.rob, same.front) (p.marks);
    }

-- issue and broadcast

module _ {v : Values} {now : ℕ} (bound : ℕ) {R : List Mark → Type 0} (kept : Kept v now R) (steps : List Step) where
  abbrev pub Executes : Hardware → Type 0
  Executes h = Goes v now now (now + 1) bound now (now + 1) R steps h

  -- one instruction changes
  change : {g h : Hardware} (older younger : List Entry) (e : Entry) {x : Entry} →
      h.rob.entries ≡ older ++ e ∷ younger → g.rob.entries ≡ older ++ x ∷ younger → g.front.entries ≡ h.front.entries →
      g.cycle ≡ h.cycle → IsSoundFor v g → SoundEntry v now (now + 1) bound x →
      Advances v now (older_marks steps older) (mark_of_entry e) (mark_of_entry x) → Executes h → Executes g
  change {g} {h} older younger e {x} at at' front cycle always sound agree p = record {
    basics = record {
      cycle = cycle ∙ p.basics.cycle;
      always = always;
      rows = p.basics.rows;
      entries = rw at'
          (Each-set _ older younger e x sound (subst (Each (SoundEntry v now (now + 1) bound)) at p.basics.entries));
      fetched = rw front (p.basics.fetched);
    };
    marks = marks_from R steps steps g h at' front p.marks
        (rw (
          at,
          marks_at_entry steps older younger e h.front.entries,
          marks_at_entry steps older younger x h.front.entries,
        )
        (kept.set (older_marks steps older)
        (map mark_of_entry younger ++ map mark_of_fetched h.front.entries) (mark_of_entry e) (mark_of_entry x) agree));
  }

  entry_sound : (h : Hardware) (older younger : List Entry) (e : Entry) → h.rob.entries ≡ older ++ e ∷ younger →
      Executes h → SoundEntry v now (now + 1) bound e
  entry_sound h older younger e at p =
      Each-place _ older younger e (subst (Each (SoundEntry v now (now + 1) bound)) at p.basics.entries)

-- a load that leaves its station has all older stores known
load_waits_by : {b : Bool} (c d : Bool) → b ≡ true → (not b || (c && d)) ≡ true → c ≡ true
load_waits_by c d is h = grind arith

load_waits : (h : Hardware) (older : List Entry) (e : Entry) → is_load e.instruction ≡ true →
    may_load h older e ≡ true → list_all is_known_store (stores_after h older) ≡ true
load_waits h older e load may =
    load_waits_by (list_all is_known_store (stores_after h older)) (has_port h (path h older e)) load may

-- issue: broadcasts lie in earlier cycles

module _ {v : Values} (legal : IsLegal v) {now : ℕ} {R : List Mark → Type 0} (kept : Kept v now R)
    (steps : List Step) where
  -- what holds in the issue phase
  abbrev pub Issues : Hardware → Type 0
  Issues h = Executes now kept steps h

  -- what a start finds
  pub start_is : (k : Kind) (h : Hardware) (older younger : List Entry) (e : Entry) →
      h.rob.entries ≡ older ++ e ∷ younger → is_ready h k older e ≡ true → Issues h →
      Starts v now (older_marks steps older) (mark_of_entry e)
      (mark_of_entry
      (started (record { cycle = h.cycle; cost = cost_of h k (path h older e) }) (message_at h older e) e))
  start_is k h older younger e at is p =
      let ready = ready-parts h k older e is in
      let cost : ℕ = cost_of h k (path h older e) in
      let message : Message = message_at h older e in
      let x : Entry = started (record { cycle = h.cycle; cost = cost }) message e in
      let sound : SoundEntry v now (now + 1) now e = entry_sound now kept steps h older younger e at p in
      let olders : Each (SoundEntry v now (now + 1) now) older =
      Each-left _ older _ (subst (Each (SoundEntry v now (now + 1) now)) at p.basics.entries) in
      record {
        start = start_of_issue (record { cycle = h.cycle; cost = cost }) message;
        becomes = λ i.
            record (mark_of_entry x) { broadcast = sym (ap broadcast_of_stage (is_waiting_is e.stage ready.waits)) i };
        now_is = p.basics.cycle;
        positive = positive_cost legal h p.basics.always.sizes k (path h older e);
        not_yet = ap start_of_stage (is_waiting_is e.stage ready.waits);
        not_sent = ap broadcast_of_stage (is_waiting_is e.stage ready.waits);
        not_retired = refl;
        cycle = e.dispatched;
        dispatched = refl;
        before = sound.by_now;
        operands = operands_known v now (now + 1) now (rows_of steps) p.basics.rows older
            (sources_of_word e.instruction) olders ready.operands;
        stores = λ load.
            stores_known v now (now + 1) now (rows_of steps) p.basics.rows h.committed h.rob.retired older olders
            (load_waits h older e load ready.loads);
      }

  -- each turn of the issue phase keeps it
  pub issue_turn_keeps : {k : Kind} {h : Hardware} {t : Turn Hardware} → IssueTurn k h t → Issues h →
      Leads Issues Issues t
  issue_turn_keeps {k} {h} (starts older younger e at is none free) p =
      let ready = ready-parts h k older e is in
      let keep = access_keeps (path h older e) h in
      let cost : ℕ = cost_of h k (path h older e) in
      let message : Message = message_at h older e in
      let x : Entry = started (record { cycle = h.cycle; cost = cost }) message e in
      let sound : SoundEntry v now (now + 1) now e = entry_sound now kept steps h older younger e at p in
      change now kept steps older younger e at (started_entries k h older younger e at)
      (ap (λ r. r.entries) keep.front) keep.cycle
      (starts-keep ((always-kept v).phases.issue k) h older younger e p.basics.always at is free)
      (subst (λ n. SoundEntry v now (now + 1) now (started (record { cycle = n; cost = cost }) message e))
      (sym p.basics.cycle)
      (started_sound k cost message sound ready.of_kind
      (subst (λ n. SoundCost v e.instruction (start_of_issue (record { cycle = n; cost = cost }) message))
      p.basics.cycle
      (issued_cost v h p.basics.always.sizes older e k ready.of_kind))))
      (mark_starts (start_is k h older younger e at is p)) p
  issue_turn_keeps _ p = p

  -- the turns of one kind keep it
  pub issue_kind_keeps : (k : Kind) {h : Hardware} → Issues h → Issues (issue_kind k h)
  issue_kind_keeps k {h} p =
      kept_by_turns Issues (issue_turn k) (λ g q. issue_turn_keeps (issue_turn_is k g) q)
      (at_kind k h.values.kinds).units h p

  -- the issue phase keeps it
  pub issue_keeps : {h : Hardware} → Issues h → Issues (issue h)
  issue_keeps {h} p =
      issue_kind_keeps kind.Mem
      (issue_kind_keeps kind.Div
      (issue_kind_keeps kind.Mul (issue_kind_keeps kind.Alu p)))

-- broadcast: starts lie in this cycle at the latest

module _ {v : Values} {now : ℕ} {R : List Mark → Type 0} (kept : Kept v now R) (steps : List Step) where
  -- what holds in the broadcast phase
  abbrev pub Broadcasts : Hardware → Type 0
  Broadcasts h = Executes (now + 1) kept steps h

  -- what is younger is squashed
  squash : (r g : Hardware) (older younger : List Entry) (x y : Entry) → g.rob.entries ≡ older ++ x ∷ younger →
      r.rob.entries ≡ older ++ y ∷ [] → r.front.entries ≡ [] → r.cycle ≡ g.cycle → IsSoundFor v r →
      (SoundEntry v now (now + 1) (now + 1) x → SoundEntry v now (now + 1) (now + 1) y) →
      mark_of_entry x ≡ mark_of_entry y → Broadcasts g → Broadcasts r
  squash r g older younger x y at at' none cycle always sound same q =
      let entries = subst (Each (SoundEntry v now (now + 1) (now + 1))) at q.basics.entries in
      record {
        basics = record {
          cycle = cycle ∙ q.basics.cycle;
          always = always;
          rows = q.basics.rows;
          entries = rw at'
              (Each-append _ _ _ (Each-left _ older _ entries) (sound (Each-place _ older younger x entries), tt));
          fetched = rw none tt;
        };
        marks = marks_from R steps steps r g at' none q.marks
            (rw (at, ← append_assoc older (x ∷ []) younger)
            (λ went. subst R
            (marks_at_entry steps older [] x [] ∙
            ap (λ m. older_marks steps older ++ m ∷ []) same ∙
            sym (marks_at_entry steps older [] y []))
            (squash_marks kept [] (λ words word. false) steps (older ++ x ∷ []) younger g.front.entries went)));
      }

  -- what a broadcast finds
  pub send_is : {h : Hardware} {older younger : List Entry} {e : Entry} {issue : Issue} {message : Message} →
      Sends h older younger e issue message → Broadcasts h →
      IsSent now (older_marks steps older) (mark_of_entry e) (mark_of_entry (finished message h.cycle e))
  send_is {older} {younger} {e} {issue} {message} sent p =
      let olders : Each (SoundEntry v now (now + 1) (now + 1)) older =
      Each-left _ older _ (subst (Each (SoundEntry v now (now + 1) (now + 1))) sent.place p.basics.entries) in
      record {
        start = start_of_issue issue message;
        becomes = ap (λ n. mark_of_entry (finished message n e)) p.basics.cycle ∙ finished_mark now e sent.runs;
        started = ap start_of_stage sent.runs;
        ready = omega (arith, sent.over, p.basics.cycle);
        not_yet = ap broadcast_of_stage sent.runs;
        not_retired = refl;
        oldest = none_waits v now (now + 1) now _ older p.basics.rows olders
            (subst (λ n. EveryAfter (λ before z. has_result n before z ≡ false) [] older) p.basics.cycle
            sent.oldest_one);
      }

  -- the oldest result is broadcast
  send : {h : Hardware} {older younger : List Entry} {e : Entry} {issue : Issue} {message : Message} →
      Sends h older younger e issue message → Broadcasts h →
      Broadcasts (with_broadcast (h.rob.retired + length older) message h)
  send {h} {older} {younger} {e} {issue} {message} sent p =
      let g : Hardware = with_broadcast (h.rob.retired + length older) message h in
      let x : Entry = finished message h.cycle e in
      let sound : SoundEntry v now (now + 1) (now + 1) e =
      entry_sound (now + 1) kept steps h older younger e sent.place p in
      change (now + 1) kept steps older younger e sent.place
      (sent_entries h older younger e message sent.place) refl refl
      (sends-makes (always-kept v).phases.broadcast sent p.basics.always)
      (subst (λ n. SoundEntry v now (now + 1) (now + 1) (finished message n e)) (sym p.basics.cycle)
      (finished_sound sound sent.runs (omega (arith, sent.over, p.basics.cycle))))
      (mark_is_sent (send_is sent p)) p

  -- each turn of the broadcast phase keeps it
  pub broadcast_turn_keeps : {h : Hardware} {t : Turn Hardware} → BroadcastTurn h t → Broadcasts h →
      Leads Broadcasts Broadcasts t
  broadcast_turn_keeps (no_result none) p = p
  broadcast_turn_keeps {h} (sends older younger e issue message sent late) p = send sent p
  broadcast_turn_keeps {h} (mends older younger e issue message sent early) p =
      let seq : ℕ = h.rob.retired + length older in
      let g : Hardware = with_broadcast seq message h in
      let r : Hardware = with_recovery seq message g in
      let x : Entry = finished message h.cycle e in
      let y : Entry = predicting message.next_pc x in
      squash r g older younger x y (sent_entries h older younger e message sent.place)
      (mended_entries h older younger e message sent.place) refl refl
      (mends-makes (always-kept v).phases.broadcast sent p.basics.always)
      (λ sound. predicting_sound message.next_pc sound) refl (send sent p)

  -- the broadcast phase keeps it
  pub broadcast_keeps : {h : Hardware} → Broadcasts h → Broadcasts (broadcast h)
  broadcast_keeps {h} p =
      kept_by_turns Broadcasts broadcast_turn
      (λ g q. broadcast_turn_keeps (broadcast_turn_is g) q) h.values.bus_width h p

-- dispatch

module _ {v : Values} {now : ℕ} {R : List Mark → Type 0} (kept : Kept v now R) (steps : List Step) where
  abbrev pub Dispatches : Dispatching → Type 0
  Dispatches d = Goes v now (now + 1) (now + 1) (now + 1) now (now + 1) R steps d.hardware

  full_stations : (h : Hardware) (o : Option Kind) (k : Kind) → HasShape v h → has_full_stations h o ≡ false →
      is_of_kind k o ≡ true → length (filter (is_stationed k) h.rob.entries) < (at_kind k v.kinds).stations
  full_stations h o k shape free is = grind (arith, is_of_kind_is, leb-false)

  pub dispatch_turn_keeps : {d : Dispatching} {t : Turn Dispatching} → DispatchTurn d t → Dispatches d →
      Leads Dispatches Dispatches t
  dispatch_turn_keeps {d} (dispatches f fs at nothing) p =
      let h : Hardware = d.hardware in
      let g : Hardware = with_dispatched f fs h in
      let e : Entry = entry_of_fetched h f in
      let sound = subst (Each (SoundFetched now)) at p.basics.fetched in
      let buffer = leb-false h.rob.capacity (length h.rob.entries) nothing.buffer in
      record {
        basics = record {
          cycle = p.basics.cycle;
          always = (always-kept v).phases.dispatch.dispatches h f fs p.basics.always at nothing;
          rows = p.basics.rows;
          entries = Each-append _ _ _ p.basics.entries (dispatched_sound v now h f p.basics.cycle sound.0, tt);
          fetched = sound.1;
        };
        marks = marks_from R steps steps g h refl refl p.marks
            (rw (at, marks_dispatched steps h.rob.entries f fs, marks_at_entry steps h.rob.entries [] e fs)
            (kept.set (older_marks steps h.rob.entries) (map mark_of_fetched fs)
            (mark_of_fetched f) (mark_of_entry e)
            (mark_enters (record {
              becomes =
                  dispatched_mark h f ∙ ap (λ n. record (mark_of_fetched f) { dispatched = Some n }) p.basics.cycle;
              not_yet = refl;
              not_sent = refl;
              not_retired = refl;
              before = sound.0.0;
              in_order = rows_and_entries_are_dispatched (rows_of steps) h.rob.entries;
              room = omega (arith, buffer, p.basics.always.sizes.buffer, in_flight_room (rows_of steps) h.rob.entries);
              stations = λ k is.
                  omega (
                    arith,
                    full_stations h (kind_of_word f.instruction) k p.basics.always.sizes nothing.stations is,
                    stations_room v (now + 1) (now + 1) (now + 1) (now + 1) k
                        (rows_of steps) h.rob.entries p.basics.rows p.basics.entries,
                  );
            }))));
      }
  dispatch_turn_keeps _ p = p

  -- the dispatch phase keeps what is basic and the marks
  pub dispatch_keeps : {h : Hardware} → Goes v now (now + 1) (now + 1) (now + 1) now (now + 1) R steps h →
      Dispatches (dispatch h)
  dispatch_keeps {h} p =
      kept_by_turns Dispatches dispatch_turn (λ d q. dispatch_turn_keeps (dispatch_turn_is d) q) h.values.dispatch_width
      (record { hardware = h; dispatched = 0; waits_for = None }) p

-- bounds that are further on
pub goes_later : {v : Values} {now d a b f r : ℕ} (d' a' b' r' : ℕ) {R : List Mark → Type 0} {steps : List Step}
    {h : Hardware} →
    d ≤ d' → a ≤ a' → b ≤ b' → r ≤ r' → Goes v now d a b f r R steps h → Goes v now d' a' b' f r' R steps h
goes_later d' a' b' r' le le' le'' le''' p = grind (arith, Each-weaker, sound_later)

module _ {v : Values} {now : ℕ} {R : List Mark → Type 0} {steps : List Step} {h : Hardware} where
  -- executions may begin in this cycle from the drain phase on
  pub before_drain : Goes v now now now now now (now + 1) R steps h →
      Goes v now now (now + 1) now now (now + 1) R steps h
  before_drain p = goes_later now (now + 1) now (now + 1) (omega arith) (omega arith) (omega arith) (omega arith) p

  -- results may be broadcast in it from the broadcast phase on
  pub before_broadcast : Goes v now now (now + 1) now now (now + 1) R steps h →
      Goes v now now (now + 1) (now + 1) now (now + 1) R steps h
  before_broadcast p =
      goes_later now (now + 1) (now + 1) (now + 1) (omega arith) (omega arith) (omega arith) (omega arith) p

  -- instructions may be dispatched in it from the dispatch phase on
  pub before_dispatch : Goes v now now (now + 1) (now + 1) now (now + 1) R steps h →
      Goes v now (now + 1) (now + 1) (now + 1) now (now + 1) R steps h
  before_dispatch p =
      goes_later (now + 1) (now + 1) (now + 1) (now + 1) (omega arith) (omega arith) (omega arith) (omega arith) p

-- the phases from drain to dispatch
pub execute_keeps : {v : Values} → IsLegal v → {now : ℕ} {R : List Mark → Type 0} → Kept v now R →
    {steps : List Step} {h : Hardware} → Goes v now now now now now (now + 1) R steps h →
    Goes v now (now + 1) (now + 1) (now + 1) now (now + 1) R steps (dispatch (broadcast (issue (drain h)))).hardware
execute_keeps {v} legal {now} {R} kept {steps} {h} p =
    let drains = drain_keeps (before_drain p) in
    let issues = issue_keeps legal kept steps drains in
    let sends = broadcast_keeps kept steps (before_broadcast issues) in
    dispatch_keeps kept steps (before_dispatch sends)

-- the same of other marks
pub with_marks : {v : Values} {now d a b f r : ℕ} {R : List Mark → Type 0} (S : List Mark → Type 0) {steps : List Step}
    {h : Hardware} →
    S (marks_in steps h) → Goes v now d a b f r R steps h → Goes v now d a b f r S steps h
with_marks S s p = record { basics = p.basics; marks = s }
