-- After a step the next instruction neither waits without need nor was it fetched late.
use Rattle.rv_hardware.proofs.Words.{◌≡◌, ℕ, suc, ◌+◌, ◌<◌, ◌≤◌, max, Bool, true, false, ◌&&◌, List, [], ◌∷◌, ◌++◌}
use Rattle.rv_hardware.proofs.Words.{is_some, Some, None, Option, option_map, nat_cmp, unwrap_or, sym, refl, ap, ◌∙◌}
use Rattle.rv_hardware.proofs.Words.{subst, inl, inr, append_assoc, arith, is_fence_i, is_serialising, is_store}
use Rattle.rv_hardware.proofs.Words.{kind_of_word, Message, Cause, Fault, Instr, Issue, Values, word_of, Stop, Each}
use Rattle.rv_hardware.proofs.Words.{Entry, Stage, Finished, Fetched, Committing, commit_turn, commit_unless}
use Rattle.rv_hardware.proofs.Words.{with_fault, Hardware, DoesNotWait, IsTrappedSoon, Turn, execution_of, written_of}
use Rattle.rv_hardware.proofs.Words.{is_store_row, last_that, needs_no_unit, stamp_of, Execution, Step, Retired, Trap}
use Rattle.rv_hardware.proofs.Words.{not_both, EveryAfter, EveryAfter-append, Leads, leads_both, turns_within}
use Rattle.std.specs.FinSet as set
use Rattle.rv_hardware.proofs.Marks.Cited.{CommitTurn, Head, no_head, stale_head, unfinished, fence_waits, fence_writes}
use Rattle.rv_hardware.proofs.Marks.Cited.{fence_retires, executes, serial_faults, traps, retires, retires_last}
use Rattle.rv_hardware.proofs.Marks.Cited.{executed, written_back, retired_and_flushed, commit_turn_is, Anything}
use Rattle.rv_hardware.proofs.Marks.Cited.{anything_is_kept, last_from-append, IsShaped, Shaped, Goes, Commits}
use Rattle.rv_hardware.proofs.Marks.Cited.{commit_turn_keeps, MayRetire, may_retire_serial, may_retire_finished}
use Rattle.rv_hardware.proofs.Marks.Cited.{retiring_is_one, row_at, SoundEntry, SoundFetched, SoundStage, kind_is_plain}
use Rattle.rv_hardware.proofs.Marks.Cited.{serial_has_no_kind, row_decodes}
use Rattle.rv_hardware.proofs.Laws.HeadsDoNotWait.Next.{IsKnownSince, HasReason, NextEntry, Next}

-- the cycle of the last of some steps, 0 where there is none
abbrev pub stamp_or_zero : Option Step → ℕ
stamp_or_zero None = 0
stamp_or_zero (Some s) = stamp_of s

-- the cycle of the last step, 0 where there is none
abbrev pub last_stamp : List Step → ℕ
last_stamp steps = stamp_or_zero (last_that (λ s. true) steps)

-- there is a step
abbrev pub has_step : List Step → Bool
has_step steps = is_some (last_that (λ s. true) steps)

-- the cycle of the last step is that of the step just taken
pub last_stamp-push : (steps : List Step) (s : Step) → last_stamp (steps ++ s ∷ []) ≡ stamp_of s
last_stamp-push steps s = ap stamp_or_zero (last_from-append None (λ s. true) steps (s ∷ []))

-- after a step there is one
pub has_step-push : (steps : List Step) (s : Step) → has_step (steps ++ s ∷ []) ≡ true
has_step-push steps s = ap is_some (last_from-append None (λ s. true) steps (s ∷ []))

-- it was fetched by cycle c and dispatched in the cycle after it, but for a store that may wait for the queue
abbrev pub IsAhead : ℕ → Bool → Step → Type 0
IsAhead c store_waits (Retired row) =
    (row.fetched ≤ c) × ((store_waits && is_store_row row) ≡ false → row.dispatched ≤ c + 1)
IsAhead c store_waits _ = Unit {0}

-- a step after one of cycle c, or the first
pub record Follows (c : ℕ) (store_waits : Bool) (b : Step) : Type 0 where
  pub waits : DoesNotWait c b
  pub ahead : IsAhead c store_waits b
  pub soon : IsTrappedSoon c b

-- each step follows the one before it
abbrev pub AllFollow : List Step → Type 0
AllFollow steps = EveryAfter (λ before b. Follows (last_stamp before) (has_step before) b) [] steps

follow-push : (steps : List Step) (b : Step) → AllFollow steps → Follows (last_stamp steps) (has_step steps) b →
    AllFollow (steps ++ b ∷ [])
follow-push steps b all one = EveryAfter-append _ [] steps _ all (one, tt)

-- ---- what the oldest leaves

fence_serialises : (i : Option Instr) → is_fence_i i ≡ true → is_serialising i ≡ true
fence_serialises i h = grind arith

no_kind_no_store : (i : Option Instr) → kind_of_word i ≡ None → is_store i ≡ false
no_kind_no_store i h = grind arith

no_store : (store_waits : Bool) (i : Option Instr) → kind_of_word i ≡ None → (store_waits && is_store i) ≡ false
no_store store_waits i h = grind (arith, no_kind_no_store)

-- the cycle in which an execution is known, from that of the dispatch
abbrev known_from : ℕ → Option Execution → ℕ
known_from D None = D
known_from D (Some x) = x.broadcast

known_is : (D : ℕ) (x : Option Execution) → unwrap_or (option_map (λ (y : Execution). y.broadcast) x) D ≡ known_from D x
known_is D x = grind arith

module _ {v : Values} {now s : ℕ} {store_waits : Bool} {stale : set.FinSet nat_cmp} {e : Entry}
    (sound : SoundEntry v now now now e) (next : NextEntry now s store_waits stale e)
    (fresh : set.contains stale (word_of e.pc) ≡ false) where
  known_by_stage : (i : Option Instr) (D : ℕ) (st : Stage) → SoundStage v i D now now st → MayRetire i st →
      IsKnownSince now i D st → now ≤ known_from D (execution_of st) + 1
  known_by_stage i D st held may since = grind (arith, not_both, kind_is_plain)

  retires_soon : MayRetire e.instruction e.stage → is_fence_i e.instruction ≡ false → HasReason now s stale e →
      now ≤ max s (known_from e.dispatched (execution_of e.stage)) + 1
  retires_soon may plain given = grind (arith, not_both, known_by_stage)

  row_follows : (written : Option (ℕ × ℕ)) → MayRetire e.instruction e.stage →
      Follows s store_waits (Retired (row_at e written now))
  row_follows written may = grind (arith, row_decodes, retiring_is_one, retires_soon, known_is)

  -- a fault that needs no unit
  trapped_by_stage : (word : Option ℕ) (i : Option Instr) (D : ℕ) (issue : Option Issue) (cycle : ℕ) (message : Message)
      (fault : Fault) →
      SoundStage v i D now now (Finished issue cycle message) → IsShaped word i (Finished issue cycle message) →
      message.fault ≡ Some fault → needs_no_unit fault.cause ≡ true →
      ((store_waits && is_store i) ≡ false → D ≤ s + 1) →
      IsKnownSince now i D (Finished issue cycle message) → now ≤ s + 2
  trapped_by_stage word i D issue cycle message fault held found is needs soon since = grind (arith, no_store, not_both)

  trap_follows : {issue : Option Issue} {cycle : ℕ} {message : Message} {fault : Fault} →
      is_serialising e.instruction ≡ false → e.stage ≡ Finished issue cycle message → message.fault ≡ Some fault →
      Shaped e → Follows s store_waits (Trap e.pc fault.cause fault.value now)
  trap_follows plain given is found = grind (arith, not_both, fence_serialises, trapped_by_stage)

  serial_by_stage : (i : Option Instr) (D : ℕ) (st : Stage) → is_serialising i ≡ true → SoundStage v i D now now st →
      IsKnownSince now i D st → now ≤ D + 1
  serial_by_stage i D st serial held since = grind (arith, not_both, kind_is_plain)

  serial_follows : (cause : Cause) (value : ℕ) → is_serialising e.instruction ≡ true →
      is_fence_i e.instruction ≡ false → Follows s store_waits (Trap e.pc cause value now)
  serial_follows cause value serial other = grind (arith, not_both, serial_by_stage, no_store, serial_has_no_kind)

-- ---- the commit phase of cycle `now`, after the steps of earlier cycles

next-raise : {n n' : ℕ} (m : ℕ) {s : ℕ} {store_waits : Bool} {stale : set.FinSet nat_cmp} {es : List Entry}
    (fs : List Fetched) →
    ((e : Entry) (rest : List Entry) → es ≡ e ∷ rest → NextEntry n s store_waits stale e →
    NextEntry n' s store_waits stale e) →
    Next n m s store_waits stale es fs → Next n' m s store_waits stale es fs
next-raise m fs goes next = grind arith

-- after a step of the present cycle
next-now : (v : Values) (n now : ℕ) (store_waits : Bool) (stale : set.FinSet nat_cmp) (es : List Entry)
    (fs : List Fetched) →
    n ≤ now + 1 → Each (SoundEntry v now now now) es → Each (SoundFetched now) fs →
    Next n now now store_waits stale es fs
next-now v n now store_waits stale es fs le sound words = grind arith

same_head : (e x : Entry) (es rest : List Entry) {all : List Entry} → all ≡ e ∷ es → all ≡ x ∷ rest → e ≡ x
same_head e x es rest at at' = let same : e ∷ es ≡ x ∷ rest = sym at ∙ at' in cc

module _ (v : Values) (now : ℕ) (earlier : List Step) where
  abbrev InCommit : Committing → Type 0
  InCommit c = Commits (anything_is_kept v now) earlier set.contains c

  abbrev NextIn : ℕ → Committing → Type 0
  NextIn n c = Next n now (last_stamp (earlier ++ c.steps))
      (has_step (earlier ++ c.steps)) c.hardware.stale c.hardware.rob.entries c.hardware.front.entries

  -- after the phase each step follows the one before, and the next instruction has not retired in this cycle
  pub record Committed (c : Committing) : Type 0 where
    pub follow : AllFollow (earlier ++ c.steps)
    pub next : NextIn (now + 1) c

  record Going (k : ℕ) (c : Committing) : Type 0 where
    follow : AllFollow (earlier ++ c.steps)
    next : NextIn now c
    later : 0 < k → NextIn (now + 1) c

  regroup : (c : Committing) (x : Step) → earlier ++ (c.steps ++ x ∷ []) ≡ (earlier ++ c.steps) ++ x ∷ []
  regroup c x = sym (append_assoc earlier c.steps (x ∷ []))

  last_is : (c : Committing) (x : Step) → stamp_of x ≡ now → last_stamp (earlier ++ (c.steps ++ x ∷ [])) ≡ now
  last_is c x at = ap last_stamp (regroup c x) ∙ last_stamp-push (earlier ++ c.steps) x ∙ at

  more_follow : (c : Committing) (x : Step) → AllFollow (earlier ++ c.steps) →
      Follows (last_stamp (earlier ++ c.steps)) (has_step (earlier ++ c.steps)) x →
      AllFollow (earlier ++ (c.steps ++ x ∷ []))
  more_follow c x all one = subst AllFollow (sym (regroup c x)) (follow-push (earlier ++ c.steps) x all one)

  -- a step after which nothing is left
  flushing : (c : Committing) {x : Step} (g : Hardware) (stop : Option Stop) → stamp_of x ≡ now →
      AllFollow (earlier ++ c.steps) → Follows (last_stamp (earlier ++ c.steps)) (has_step (earlier ++ c.steps)) x →
      g.rob.entries ≡ [] → g.front.entries ≡ [] →
      Committed (record { hardware = g; steps = c.steps ++ x ∷ []; stop = stop })
  flushing c g stop given all one holds none' = grind (arith, last_is, more_follow)

  -- the same steps, where the oldest has a reason not to have retired
  standing : {k : ℕ} {c : Committing} (stop : Option Stop) → Going k c →
      ((e : Entry) (rest : List Entry) → c.hardware.rob.entries ≡ e ∷ rest →
      HasReason (now + 1) (last_stamp (earlier ++ c.steps)) c.hardware.stale e) →
      Committed c
  standing {c} stop p why = record {
    follow = p.follow;
    next = next-raise now c.hardware.front.entries
        (λ e rest at is. record { fetched = is.fetched; dispatched = is.dispatched; reason = why e rest at }) p.next;
  }

  module _ (k : ℕ) (c : Committing) (e : Entry) (es : List Entry) (head : Head set.contains c e es) (q : InCommit c)
      (p : Going k c) where
    s : ℕ
    s = last_stamp (earlier ++ c.steps)

    head_sound : SoundEntry v now now now e
    head_sound = (subst (Each (SoundEntry v now now now)) head.place q.basics.entries).0

    head_next : NextEntry now (last_stamp (earlier ++ c.steps)) (has_step (earlier ++ c.steps)) c.hardware.stale e
    head_next = grind arith

    head_found : Shaped e
    head_found = (subst (Each Shaped) head.place q.basics.always.stores.0.0).0

    retired_follows : (written : Option (ℕ × ℕ)) → MayRetire e.instruction e.stage →
        Follows (last_stamp (earlier ++ c.steps)) (has_step (earlier ++ c.steps))
        (Retired (row_at e written c.hardware.cycle))
    retired_follows written may = rw q.basics.cycle (row_follows head_sound head_next head.fresh written may)

    fence_stands : is_fence_i e.instruction ≡ true → (x : Entry) (rest : List Entry) →
        c.hardware.rob.entries ≡ x ∷ rest → HasReason (now + 1) (last_stamp (earlier ++ c.steps)) c.hardware.stale x
    fence_stands fence x rest at = grind arith

  turn_leads : (total k : ℕ) (c : Committing) (t : Turn Committing) → CommitTurn set.contains c t → InCommit c →
      Going k c → Leads InCommit InCommit t → Leads (Going (suc k)) Committed t
  turn_leads total k c _ (no_head none) q p goes =
      standing c.stop p (λ x rest at. absurd (let no_more = sym none ∙ at in cc))
  turn_leads total k c _ (stale_head e es at is) q p goes =
      let same = standing c.stop p
      (λ x rest at'.
      inr (inl (subst (λ (y : Entry). set.contains c.hardware.stale (word_of y.pc) ≡ true)
      (same_head e x es rest at at') is))) in
      record { follow = same.follow; next = same.next }
  turn_leads total k c _ (unfinished e es head plain none) q p goes = grind arith
  turn_leads total k c _ (fence_waits e es head is busy) q p goes =
      standing c.stop p (fence_stands k c e es head q p (ap is_fence_i is))
  turn_leads total k c _ (fence_writes e es head is drained dirty) q p goes =
      let same = standing c.stop p (fence_stands k c e es head q p (ap is_fence_i is)) in
      record { follow = same.follow; next = same.next }
  turn_leads total k c _ (fence_retires e es written next head is drained) q p goes =
      flushing c (executed e written next (written_back c)).hardware c.stop q.basics.cycle p.follow
      (retired_follows k c e es head q p written (may_retire_serial e.instruction e.stage (ap is_serialising is)))
      refl refl
  turn_leads total k c _ (executes e es written next head serial other) q p goes =
      flushing c (executed e written next c).hardware c.stop q.basics.cycle p.follow
      (retired_follows k c e es head q p written (may_retire_serial e.instruction e.stage serial)) refl refl
  turn_leads total k c _ (serial_faults e es cause value head serial other) q p goes =
      let follows = serial_follows (head_sound k c e es head q p)
      (head_next k c e es head q p) head.fresh cause value serial other in
      flushing c (with_fault e cause value c).hardware (with_fault e cause value c).stop q.basics.cycle p.follow
      (subst (λ n. Follows (last_stamp (earlier ++ c.steps)) (has_step (earlier ++ c.steps)) (Trap e.pc cause value n))
      (sym q.basics.cycle) follows)
      refl refl
  turn_leads total k c _ (traps e es issue cycle message fault head plain at is) q p goes =
      let follows = trap_follows (head_sound k c e es head q p) (head_next k c e es head q p) head.fresh plain at is
      (head_found k c e es head q p) in
      flushing c (with_fault e fault.cause fault.value c).hardware
      (with_fault e fault.cause fault.value c).stop q.basics.cycle p.follow
      (subst (λ n.
      Follows (last_stamp (earlier ++ c.steps)) (has_step (earlier ++ c.steps)) (Trap e.pc fault.cause fault.value n))
      (sym q.basics.cycle) follows)
      refl refl
  turn_leads total k c _ (retires e es issue cycle message head plain at none) q p goes =
      let x : Step = Retired (row_at e (written_of e message) c.hardware.cycle) in
      let last = last_is c x q.basics.cycle in
      record {
        follow = more_follow c x p.follow
            (retired_follows k c e es head q p (written_of e message) (may_retire_finished e.instruction at none));
        next = rw last (next-now v now now _ _ _ _ (omega arith) goes.basics.entries goes.basics.fetched);
        later =
            λ some. rw last (next-now v (now + 1) now _ _ _ _ (omega arith) goes.basics.entries goes.basics.fetched);
      }
  turn_leads total k c _ (retires_last e es issue cycle message head plain at none) q p goes =
      flushing c (retired_and_flushed e message c).hardware c.stop q.basics.cycle p.follow
      (retired_follows k c e es head q p (written_of e message) (may_retire_finished e.instruction at none)) refl refl

  -- the commit phase takes steps that follow one another, and leaves the next instruction with its reason to wait
  pub commit_leads_by : {total : ℕ} → 1 ≤ total → (o : Option ℕ) {h : Hardware} → h.values.commit_width ≡ total →
      Goes v now now now now now (now + 1) Anything (earlier ++ []) h → AllFollow (earlier ++ []) →
      Next now now (last_stamp (earlier ++ [])) (has_step (earlier ++ [])) h.stale h.rob.entries h.front.entries →
      Committed (commit_unless set.contains o h)
  commit_leads_by le (Some code) {h} width goes follow next =
      let c : Committing = record { hardware = h; steps = []; stop = None } in
      flushing c (commit_unless set.contains (Some code) h).hardware None goes.basics.cycle follow
      (record { waits = tt; ahead = tt; soon = tt }) refl refl
  commit_leads_by {total} le None {h} width goes follow next =
      let first : Committing = record { hardware = h; steps = []; stop = None } in
      turns_within total (λ k c. InCommit c × Going k c) Committed (commit_turn set.contains)
      (λ k c lt p.
      let goes_on = commit_turn_keeps (anything_is_kept v now) earlier set.contains
      (commit_turn_is set.contains c) p.0 in
      leads_both InCommit (Going (suc k)) Committed (commit_turn set.contains c) goes_on
      (turn_leads total k c (commit_turn set.contains c) (commit_turn_is set.contains c) p.0 p.1 goes_on))
      (λ c p. record { follow = p.1.follow; next = p.1.later le }) h.values.commit_width 0 first (omega (arith, width))
      (goes, record { follow = follow; next = next; later = λ some. absurd (omega (arith, some)) })
