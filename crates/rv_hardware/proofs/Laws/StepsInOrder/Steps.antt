-- Steps come in order, within the width; interrupts alone, flushes last; after a flush everything is fetched anew.
use Rattle.rv_hardware.proofs.Words.{nat_eq as eqb, ◌≡◌, ℕ, suc, ◌+◌, ◌<◌, ◌≤◌, Bool, true, false, List, [], ◌∷◌, ◌++◌}
use Rattle.rv_hardware.proofs.Words.{map, length, ◌==◌, Some, None, Option, nat_cmp, unwrap_or, sym, refl, ap, subst}
use Rattle.rv_hardware.proofs.Words.{true≢false, append_assoc, append-nil, arith, length-append, ne_eqb, eqb-true}
use Rattle.rv_hardware.proofs.Words.{IsLegal, is_serialising, Message, Issue, Lines, Values, instruction_of, due, Stop}
use Rattle.rv_hardware.proofs.Words.{Each, Entry, Finished, Committing, commit_turn, commit_unless, with_fault, IsCycle}
use Rattle.rv_hardware.proofs.Words.{any_prediction, with_lines, Hardware, IsFetchedSince, Turn, Report, written_of}
use Rattle.rv_hardware.proofs.Words.{flushes, rows_of, is_interrupt, stamp_of, Row, Step, Retired, Trap, Each-append}
use Rattle.rv_hardware.proofs.Words.{Each-left, Each-right, Each-weaker, Each-all, Each-both, Each-unmap, EveryPair}
use Rattle.rv_hardware.proofs.Words.{count, EveryPair-append, count-append, count-none, count-length, Leads, leads_both}
use Rattle.rv_hardware.proofs.Words.{turns_within, Each-images, each_image, each_then, Fetched, pair_moves, each_moves}
use Rattle.std.specs.FinSet as set
use Rattle.rv_hardware.proofs.Marks.Advance.{Kept, Advances, each_is_kept}
use Rattle.rv_hardware.proofs.Marks.List.{Mark, mark_of_row, mark_of_entry, mark_of_fetched, marks_in}
use Rattle.rv_hardware.proofs.Turns.Commit.{CommitTurn, stale_head, fence_writes, fence_retires, executes}
use Rattle.rv_hardware.proofs.Turns.Commit.{serial_faults, traps, retires, retires_last, commit_turn_is}
use Rattle.rv_hardware.proofs.Turns.Commit.{head_retired_entries}
use Rattle.rv_hardware.proofs.Marks.History.{Anything, anything_is_kept, Sound, Passed, History, began, went_on, begin}
use Rattle.rv_hardware.proofs.Marks.History.{committing, dispatching, cycle_passes, history_is_legal, history_is_sound}
use Rattle.rv_hardware.proofs.Marks.Phases.{Goes, Commits, commit_turn_keeps, commit_keeps, execute_keeps, with_marks}
use Rattle.rv_hardware.proofs.Marks.Row.{retiring_is_one, row_at, may_retire_finished}
use Rattle.rv_hardware.proofs.Marks.Sound.{row_decodes}

-- every flush among some steps was no later than a cycle
abbrev pub NotBefore : List Step → ℕ → Type 0
NotBefore steps cycle = Each (λ a. flushes a ≡ true → stamp_of a ≤ cycle) steps

-- what is in flight, and what is fetched, came after every flush among some steps
abbrev pub EntriesAnew : List Step → List Entry → Type 0
EntriesAnew steps = Each (λ e. NotBefore steps e.fetched)

abbrev pub WordsAnew : List Step → List Fetched → Type 0
WordsAnew steps = Each (λ f. NotBefore steps f.cycle)

-- a step was fetched after every flush among some steps
abbrev SinceFlushes : Step → List Step → Type 0
SinceFlushes s = Each (λ a. flushes a ≡ true → IsFetchedSince a s)

-- the commit phase of a cycle has come so far after some steps
abbrev ComesSoFar : Values → ℕ → List Step → Hardware → Type 0
ComesSoFar v now steps h = Goes v now now now now now (now + 1) Anything steps h

-- two steps, the later of which may be of the same cycle
pub record InOrder (a b : Step) : Type 0 where
  pub order : stamp_of a ≤ stamp_of b
  pub alone : is_interrupt b ≡ true → stamp_of a < stamp_of b
  pub last : flushes a ≡ true → stamp_of a < stamp_of b
  pub anew : flushes a ≡ true → IsFetchedSince a b

-- the steps of a cycle so far, after those of earlier cycles
pub record Steps (v : Values) (now : ℕ) (earlier : List Step) (k : ℕ) (c : Committing) : Type 0 where
  pub goes : ComesSoFar v now (earlier ++ c.steps) c.hardware
  pub pairs : EveryPair InOrder (earlier ++ c.steps)
  pub of_now : Each (λ s. stamp_of s ≡ now) c.steps
  pub within : length c.steps ≤ k
  pub entries : EntriesAnew (earlier ++ c.steps) c.hardware.rob.entries
  pub words : WordsAnew (earlier ++ c.steps) c.hardware.front.entries

abbrev pub Plain : Step → Type 0
Plain s = (is_interrupt s ≡ false) × (flushes s ≡ false)

module _ (v : Values) (now : ℕ) (earlier : List Step) (before : Each (λ s. stamp_of s < now) earlier)
    (is_stale : set.FinSet nat_cmp → ℕ → Bool) where
  pub record Going (k : ℕ) (c : Committing) : Type 0 where
    pub steps : Steps v now earlier k c
    pub plain : Each Plain c.steps

  -- one more step of this cycle
  module _ {k : ℕ} {c : Committing} (s : Step) (p : Going k c) (at : stamp_of s ≡ now) (alone : is_interrupt s ≡ false)
      (anew : SinceFlushes s (earlier ++ c.steps)) where
    regroup : earlier ++ (c.steps ++ s ∷ []) ≡ (earlier ++ c.steps) ++ s ∷ []
    regroup = sym (append_assoc earlier c.steps (s ∷ []))

    from_earlier : Each (λ a. InOrder a s) earlier
    from_earlier =
        Each-both _
        (λ a lt new.
        record {
          order = omega (arith, lt, at);
          alone = λ h. omega (arith, lt, at);
          last = λ h. omega (arith, lt, at);
          anew = new;
        })
        earlier before
        (Each-left _ earlier _ anew)

    from_now : Each (λ a. InOrder a s) c.steps
    from_now = grind (arith, Each-both)

    more_pairs : EveryPair InOrder (earlier ++ (c.steps ++ s ∷ []))
    more_pairs = grind (arith, pair_moves, each_moves, regroup, from_earlier, from_now)

    more_of_now : Each (λ a. stamp_of a ≡ now) (c.steps ++ s ∷ [])
    more_of_now = Each-append _ _ _ p.steps.of_now (at, tt)

    more_within : length (c.steps ++ s ∷ []) ≤ suc k
    more_within = let all = length-append c.steps (s ∷ []) in omega (arith, all, p.steps.within)

    -- which flushes everything
    pub flushing : {g : Hardware} (stop : Option Stop) → ComesSoFar v now (earlier ++ (c.steps ++ s ∷ [])) g →
        g.rob.entries ≡ [] → g.front.entries ≡ [] →
        Steps v now earlier (suc k) (record { hardware = g; steps = c.steps ++ s ∷ []; stop = stop })
    flushing stop goes none none' =
        record {
          goes = goes;
          pairs = more_pairs;
          of_now = more_of_now;
          within = more_within;
          entries = rw none tt;
          words = rw none' tt;
        }

    not_before : (cycle : ℕ) → flushes s ≡ false → NotBefore (earlier ++ c.steps) cycle →
        NotBefore (earlier ++ (c.steps ++ s ∷ [])) cycle
    not_before cycle plain h = grind (arith, regroup, Each-append, true≢false)

    -- or leaves what is younger
    pub leaving : {g : Hardware} (stop : Option Stop) (e : Entry) {es : List Entry} → flushes s ≡ false →
        ComesSoFar v now (earlier ++ (c.steps ++ s ∷ [])) g → c.hardware.rob.entries ≡ e ∷ es → g.rob.entries ≡ es →
        g.front.entries ≡ c.hardware.front.entries →
        Steps v now earlier (suc k) (record { hardware = g; steps = c.steps ++ s ∷ []; stop = stop })
    leaving stop e {es} plain goes place here front = record {
      goes = goes;
      pairs = more_pairs;
      of_now = more_of_now;
      within = more_within;
      entries = rw here
          (each_then (λ x h. not_before x.fetched plain h) _
          (subst (EntriesAnew (earlier ++ c.steps)) place p.steps.entries).1);
      words = rw front (each_then (λ x h. not_before x.cycle plain h) _ p.steps.words);
    }

  steps_up_to : {k : ℕ} (n : ℕ) {c : Committing} → k ≤ n → Steps v now earlier k c → Steps v now earlier n c
  steps_up_to n le h =
      record {
        goes = h.goes;
        pairs = h.pairs;
        of_now = h.of_now;
        within = omega (arith, h.within, le);
        entries = h.entries;
        words = h.words;
      }

  -- the same steps
  standing : {k : ℕ} (n : ℕ) {c d : Committing} → k ≤ n → d.steps ≡ c.steps →
      d.hardware.rob.entries ≡ c.hardware.rob.entries →
      d.hardware.front.entries ≡ c.hardware.front.entries → Commits (anything_is_kept v now) earlier is_stale d →
      Steps v now earlier k c → Steps v now earlier n d
  standing n le same entries words goes h = record {
    goes = goes;
    pairs = rw same (h.pairs);
    of_now = rw same (h.of_now);
    within = rw same (omega (arith, h.within, le));
    entries = rw (same, entries) (h.entries);
    words = rw (same, words) (h.words);
  }

  no_row_since : (s : Step) (steps : List Step) → ((a : Step) → IsFetchedSince a s) →
      SinceFlushes s steps
  no_row_since s steps f = Each-all _ (λ a h. f a) steps

  row_since : (c : Committing) (e : Entry) (es : List Entry) (written : Option (ℕ × ℕ)) →
      c.hardware.rob.entries ≡ e ∷ es → EntriesAnew (earlier ++ c.steps) c.hardware.rob.entries →
      SinceFlushes (Retired (row_at e written c.hardware.cycle)) (earlier ++ c.steps)
  row_since c e es written place h = (subst (EntriesAnew (earlier ++ c.steps)) place h).0

  plain_row : (c : Committing) (e : Entry) (es : List Entry) {issue : Option Issue} {cycle : ℕ} {message : Message} →
      c.hardware.rob.entries ≡ e ∷ es → is_serialising e.instruction ≡ false → e.stage ≡ Finished issue cycle message →
      message.fault ≡ None → ComesSoFar v now (earlier ++ c.steps) c.hardware →
      is_serialising (instruction_of (unwrap_or e.word 0)) ≡ false
  plain_row c e es place plain given holds goes = grind (arith, row_decodes, retiring_is_one, may_retire_finished)

  turn_leads : (total k : ℕ) (c : Committing) (t : Turn Committing) → k < total → CommitTurn is_stale c t →
      Commits (anything_is_kept v now) earlier is_stale c → Going k c →
      Leads (Commits (anything_is_kept v now) earlier is_stale) (Commits (anything_is_kept v now) earlier is_stale) t →
      Leads (Going (suc k)) (Steps v now earlier total) t
  turn_leads total k c _ lt (stale_head e es at is) q p goes =
      standing total (omega (arith, lt)) refl refl refl goes p.steps
  turn_leads total k c _ lt (fence_writes e es head is drained dirty) q p goes =
      standing total (omega (arith, lt)) refl refl refl goes p.steps
  turn_leads total k c _ lt (fence_retires e es written next head is drained) q p goes =
      steps_up_to total lt
      (flushing (Retired (row_at e written c.hardware.cycle)) p q.basics.cycle refl
      (row_since c e es written head.place p.steps.entries) c.stop goes refl refl)
  turn_leads total k c _ lt (executes e es written next head serial other) q p goes =
      steps_up_to total lt
      (flushing (Retired (row_at e written c.hardware.cycle)) p q.basics.cycle refl
      (row_since c e es written head.place p.steps.entries) c.stop goes refl refl)
  turn_leads total k c _ lt (serial_faults e es cause value head serial other) q p goes =
      steps_up_to total lt
      (flushing (Trap e.pc cause value c.hardware.cycle) p q.basics.cycle refl
      (no_row_since (Trap e.pc cause value c.hardware.cycle) (earlier ++ c.steps) (λ a. tt))
      (with_fault e cause value c).stop goes refl refl)
  turn_leads total k c _ lt (traps e es issue cycle message fault head plain at is) q p goes =
      steps_up_to total lt
      (flushing (Trap e.pc fault.cause fault.value c.hardware.cycle) p q.basics.cycle refl
      (no_row_since (Trap e.pc fault.cause fault.value c.hardware.cycle) (earlier ++ c.steps) (λ a. tt))
      (with_fault e fault.cause fault.value c).stop goes refl refl)
  turn_leads total k c _ lt (retires e es issue cycle message head plain at none) q p goes =
      let row : Step = Retired (row_at e (written_of e message) c.hardware.cycle) in
      let calm = plain_row c e es head.place plain at none q in
      record {
        steps = leaving row p q.basics.cycle refl
            (row_since c e es (written_of e message) head.place p.steps.entries) c.stop e calm goes head.place
            (head_retired_entries c.hardware.rob e es head.place) refl;
        plain = Each-append _ _ _ p.plain ((refl, calm), tt);
      }
  turn_leads total k c _ lt (retires_last e es issue cycle message head plain at none) q p goes =
      steps_up_to total lt
      (flushing (Retired (row_at e (written_of e message) c.hardware.cycle)) p q.basics.cycle refl
      (row_since c e es (written_of e message) head.place p.steps.entries) c.stop goes refl refl)
  turn_leads total k c _ lt it q p goes = steps_up_to total (omega (arith, lt)) p.steps

  commit_leads_by : {total : ℕ} → 1 ≤ total → (o : Option ℕ) {h : Hardware} → h.values.commit_width ≡ total →
      ComesSoFar v now (earlier ++ []) h → EveryPair InOrder (earlier ++ []) →
      EntriesAnew (earlier ++ []) h.rob.entries → WordsAnew (earlier ++ []) h.front.entries →
      Commits (anything_is_kept v now) earlier is_stale (commit_unless is_stale o h) →
      Steps v now earlier total (commit_unless is_stale o h)
  commit_leads_by le (Some code) width goes pairs entries words after =
      grind (arith, EveryPair-append, append-nil, Each-weaker)
  commit_leads_by {total} le None {h} width goes pairs entries words after =
      let first : Committing = record { hardware = h; steps = []; stop = None } in
      turns_within total (λ k c. Commits (anything_is_kept v now) earlier is_stale c × Going k c)
      (Steps v now earlier total) (commit_turn is_stale)
      (λ k c lt p.
      let goes_on = commit_turn_keeps (anything_is_kept v now) earlier is_stale (commit_turn_is is_stale c) p.0 in
      leads_both (Commits (anything_is_kept v now) earlier is_stale) (Going (suc k)) (Steps v now earlier total)
      (commit_turn is_stale c) goes_on
      (turn_leads total k c (commit_turn is_stale c) lt (commit_turn_is is_stale c) p.0 p.1 goes_on))
      (λ c p. p.1.steps) h.values.commit_width 0 first (omega (arith, width)) (
        goes,
        record {
          steps = record {
            goes = goes;
            pairs = pairs;
            of_now = tt;
            within = omega arith;
            entries = entries;
            words = words;
          };
          plain = tt;
        },
      )

pub record StepsPast (v : Values) (steps : List Step) (h : Hardware) : Type 0 where
  pub before : Each (λ s. stamp_of s < h.cycle) steps
  pub pairs : EveryPair InOrder steps
  pub width : (c : ℕ) → count (λ s. stamp_of s == c) steps ≤ v.commit_width
  pub entries : EntriesAnew steps h.rob.entries
  pub words : WordsAnew steps h.front.entries

-- what is in flight was fetched after every flush
abbrev pub FetchedAnew : List Step → Mark → Type 0
FetchedAnew steps m = m.retired ≡ None → NotBefore steps m.fetched

some_is_none : {P : Type 0} {n : ℕ} → Some n ≡ None → P
some_is_none e = absurd (cc)

anew_goes_on : (steps : List Step) {v : Values} {now : ℕ} {xs : List Mark} {m n : Mark} → Advances v now xs m n →
    FetchedAnew steps m → FetchedAnew steps n
anew_goes_on steps given h holds = grind (arith, some_is_none)

anew_is_kept : (steps : List Step) (v : Values) (now : ℕ) → Kept v now (Each (FetchedAnew steps))
anew_is_kept steps v now = each_is_kept (FetchedAnew steps) (λ xs m n a. anew_goes_on steps a)

rows_are_gone : (steps : List Step) (rows : List Row) → Each (FetchedAnew steps) (map mark_of_row rows)
rows_are_gone steps rows = Each-images _ _ (λ row none. some_is_none none) rows

module _ (v : Values) (legal : IsLegal v) (earlier : List Step) (old new : Hardware) (lines : Lines) (report : Report)
    (begins : Sound v earlier old) (past : StepsPast v earlier old)
    (is : IsCycle any_prediction lines old report new) where
  now : ℕ
  now = old.cycle

  passed : Passed v Anything earlier lines old report new
  passed = cycle_passes legal lines new report (anything_is_kept v old.cycle) begins tt is

  committed : Steps v old.cycle earlier v.commit_width (committing lines old)
  committed =
      let g : Hardware = with_lines lines old in
      let first = begin legal lines new report (anything_is_kept v old.cycle) begins tt in
      commit_leads_by v old.cycle earlier past.before set.contains (omega (arith, legal.pipeline.commit_width))
      (due g.csrs g.lines) (ap (λ (w : Values). w.commit_width) begins.always.sizes.values) first
      (rw (append-nil earlier) (past.pairs)) (rw (append-nil earlier) (past.entries))
      (rw (append-nil earlier) (past.words))
      (commit_keeps (anything_is_kept v old.cycle) earlier set.contains first)

  -- the steps with those of this cycle
  abbrev so_far : List Step
  so_far = earlier ++ report.steps

  here : so_far ≡ earlier ++ (committing lines old).steps
  here = ap (λ l. earlier ++ l) passed.steps

  at_commit : Each (FetchedAnew so_far) (marks_in so_far (committing lines old).hardware)
  at_commit =
      let h : Hardware = (committing lines old).hardware in
      let es = subst (λ l. EntriesAnew l h.rob.entries) (sym here) committed.entries in
      let fs = subst (λ l. WordsAnew l h.front.entries) (sym here) committed.words in
      Each-append _ _ _ (rows_are_gone so_far (rows_of so_far))
      (Each-append _ _ _ (each_image _ (λ e w none. w) _ es) (each_image _ (λ f w none. w) _ fs))

  at_dispatch : Each (FetchedAnew so_far) (marks_in so_far (dispatching lines old).hardware)
  at_dispatch =
      (execute_keeps legal (anew_is_kept so_far v old.cycle)
      (with_marks (Each (FetchedAnew so_far)) at_commit passed.committed)).marks

  by_now : Each (λ s. stamp_of s < old.cycle + 1) so_far
  by_now =
      Each-append _ _ _ (each_then (λ s lt. omega (arith, lt)) _ past.before)
      (each_then (λ s e. omega (arith, e)) _
      (subst (Each (λ s. stamp_of s ≡ old.cycle)) (sym passed.steps) committed.of_now))

  new_words_anew : WordsAnew so_far passed.fetches.added
  new_words_anew = grind (arith, Each-weaker, by_now, passed)

  -- the steps of a cycle carry its number
  pub steps_of_cycle : Each (λ s. stamp_of s ≡ old.cycle) report.steps
  steps_of_cycle = subst (Each (λ s. stamp_of s ≡ old.cycle)) (sym passed.steps) committed.of_now

  none_of_now : (c : ℕ) (b : Bool) → eqb old.cycle c ≡ b → count (λ s. stamp_of s == c) so_far ≤ v.commit_width
  none_of_now c true e =
      let none = count-none (λ s. stamp_of s == c) earlier
      (each_then (λ s lt. ne_eqb (stamp_of s) c (omega (arith, lt, eqb-true old.cycle c e))) _ past.before) in
      omega (
        arith,
        none,
        count-append (λ s. stamp_of s == c) earlier report.steps,
        count-length (λ s. stamp_of s == c) report.steps,
        ap (λ l. length l) passed.steps,
        committed.within,
      )
  none_of_now c false e = grind (arith, count-none, each_then, steps_of_cycle, count-append)

  pub steps_go_on : StepsPast v so_far new
  steps_go_on =
      let d : Hardware = (dispatching lines old).hardware in
      let unretired = Each-right _ _ _ at_dispatch in
      let es = Each-unmap _ _ _ (Each-left _ _ _ unretired) in
      let fs = Each-unmap _ _ _ (Each-right _ _ _ unretired) in
      record {
        before = subst (λ n. Each (λ s. stamp_of s < n) so_far)
            (sym (ap (λ (h : Hardware). h.cycle) passed.others_stay)) by_now;
        pairs = subst (EveryPair InOrder) (sym here) committed.pairs;
        width = λ c. none_of_now c (eqb old.cycle c) refl;
        entries = subst (EntriesAnew so_far) (sym (ap (λ (h : Hardware). h.rob.entries) passed.others_stay))
            (Each-weaker (λ e. FetchedAnew so_far (mark_of_entry e)) (λ e. NotBefore so_far e.fetched)
            (λ e w. w refl) d.rob.entries es);
        words = rw (passed.fetches.entries)
            (Each-append (λ f. NotBefore so_far f.cycle) d.front.entries passed.fetches.added
            (Each-weaker (λ f. FetchedAnew so_far (mark_of_fetched f)) (λ f. NotBefore so_far f.cycle)
            (λ f w. w refl) d.front.entries fs)
            new_words_anew);
      }

-- in every history the steps are in order and within the width
pub history_has_steps : {v : Values} {steps : List Step} {h : Hardware} → History v steps h → StepsPast v steps h
history_has_steps (began image start legal) =
    record { before = tt; pairs = tt; width = λ c. omega arith; entries = tt; words = tt }
history_has_steps {v} (went_on {earlier} {old} {new} {lines} {report} before is) =
    steps_go_on v (history_is_legal before) earlier old new lines report (history_is_sound before)
    (history_has_steps before) is
