-- What is in flight, or is fetched next, was fetched no later than the last step.
use Rattle.rv_hardware.proofs.Words.{◌≡◌, ℕ, ◌+◌, ◌-◌, ◌≤◌, Bool, true, ◌⊎◌, List, [], ◌∷◌, ◌++◌, length, Some, None}
use Rattle.rv_hardware.proofs.Words.{Option, nat_cmp, sym, refl, ap, ◌∙◌, subst, true≢false, append_assoc, append-nil}
use Rattle.rv_hardware.proofs.Words.{arith, Lines, Kind, Values, due, interrupt_cause, Each, Entry, FetchBuffer}
use Rattle.rv_hardware.proofs.Words.{Fetched, broadcast, Committing, commit_unless, with_fault, IsCycle, any_prediction}
use Rattle.rv_hardware.proofs.Words.{with_lines, dispatch, drain, Hardware, issue, Turn, Report, written_of, EachNext}
use Rattle.rv_hardware.proofs.Words.{stamp_of, Step, Interrupt, Retired, Trap, Leads, each_then}
use Rattle.std.specs.FinSet as set
use Rattle.rv_hardware.proofs.Marks.Cited.{IsKeptByBroadcast, broadcast-keeps, IsKeptByDispatch, dispatch-keeps}
use Rattle.rv_hardware.proofs.Marks.Cited.{IsKeptByDrain, drain-keeps, IsKeptByIssue, issue-keeps, HaltsAfter, words_of}
use Rattle.rv_hardware.proofs.Marks.Cited.{runs-empty, CommitTurn, fence_retires, executes, serial_faults, traps}
use Rattle.rv_hardware.proofs.Marks.Cited.{retires, retires_last, executed, written_back, retired_with}
use Rattle.rv_hardware.proofs.Marks.Cited.{retired_and_flushed, head_retired_entries, Anything, anything_is_kept}
use Rattle.rv_hardware.proofs.Marks.Cited.{Passed, History, began, went_on, begin, committing, dispatching}
use Rattle.rv_hardware.proofs.Marks.Cited.{history_is_legal, history_is_sound, history_passes, InCommit}
use Rattle.rv_hardware.proofs.Marks.Cited.{commit_turns_keep, row_at, SoundEntry, SoundFetched}
use Rattle.rv_hardware.proofs.Laws.NoIdleFetch.Links.{LastIs, last_at, last_of}
use Rattle.rv_hardware.proofs.Laws.NoIdleFetch.Rows.{stays_halted}

-- a row was fetched by a cycle
abbrev pub IsFetchedBy : ℕ → Step → Type 0
IsFetchedBy c (Retired row) = row.fetched ≤ c
IsFetchedBy c _ = Unit {0}

abbrev pub IsFetchedNext : Step → Step → Type 0
IsFetchedNext a b = IsFetchedBy (stamp_of a) b

-- R of an element and the next one, where one comes
abbrev pub NextIs : {X : Type 0} → (X → X → Type 0) → X → List X → Type 0
NextIs R x [] = Unit {0}
NextIs R x (y ∷ ys) = R x y

-- R of each element and the next one, by recursion
abbrev pub EveryNext : {X : Type 0} → (X → X → Type 0) → List X → Type 0
EveryNext R [] = Unit {0}
EveryNext R (x ∷ xs) = NextIs R x xs × EveryNext R xs

module _ {X : Type 0} (R : X → X → Type 0) where
  next_push : (x y : X) (xs : List X) → LastIs (λ z. R z y) (x ∷ xs) → NextIs R x xs → NextIs R x (xs ++ y ∷ [])
  next_push x y xs last h = grind arith

  EveryNext-push : (xs : List X) (y : X) → LastIs (λ z. R z y) xs → EveryNext R xs → EveryNext R (xs ++ y ∷ [])
  EveryNext-push [] y last h = (tt, tt)
  EveryNext-push (x ∷ xs) y last h =
      (next_push x y xs last h.0, EveryNext-push xs y (last_of (λ z. R z y) x xs last) h.1)

  next_at : (before after : List X) (x y : X) → EveryNext R (before ++ x ∷ y ∷ after) → R x y
  next_at [] after x y h = h.0
  next_at (z ∷ before) after x y h = next_at before after x y h.1

last_weaker : {X : Type 0} {P Q : X → Type 0} → ((x : X) → P x → Q x) → (xs : List X) → LastIs P xs → LastIs Q xs
last_weaker f [] h = tt
last_weaker f (x ∷ []) h = f x h
last_weaker {P} {Q} f (x ∷ y ∷ ys) h = last_weaker f (y ∷ ys) h

-- the cycle in which the oldest instruction in flight was fetched, or a word will be
abbrev coming : ℕ → List Entry → List Fetched → ℕ
coming now (e ∷ es) fs = e.fetched
coming now [] (f ∷ fs) = f.cycle
coming now [] [] = now

coming_same : (now : ℕ) (older younger others : List Entry) (e x : Entry) (fs gs : List Fetched) →
    x.fetched ≡ e.fetched → coming now (older ++ x ∷ others) gs ≡ coming now (older ++ e ∷ younger) fs
coming_same now [] younger others e x fs gs same = same
coming_same now (o ∷ older) younger others e x fs gs same = refl

coming_dispatched : (now : ℕ) (es : List Entry) (e : Entry) (f : Fetched) (fs : List Fetched) → e.fetched ≡ f.cycle →
    coming now (es ++ e ∷ []) fs ≡ coming now es (f ∷ fs)
coming_dispatched now es e f fs same = grind arith

coming_by : (v : Values) (now : ℕ) (es : List Entry) (fs : List Fetched) → Each (SoundEntry v now now now) es →
    Each (SoundFetched now) fs → coming now es fs ≤ now
coming_by v now es fs entries words = grind arith

-- each row was fetched by the step before it, and so is what comes after the last
abbrev AreFetchedNext : ℕ → List Step → Hardware → Type 0
AreFetchedNext now steps h =
    EveryNext IsFetchedNext steps × LastIs (λ s. coming now h.rob.entries h.front.entries ≤ stamp_of s) steps

-- commit

module _ (v : Values) (now : ℕ) (earlier : List Step) (is_stale : set.FinSet nat_cmp → ℕ → Bool) where
  abbrev Following : Committing → Type 0
  Following c = AreFetchedNext now (earlier ++ c.steps) c.hardware

  one_more : (c : Committing) (s : Step) (h : Hardware) → stamp_of s ≡ now →
      coming now h.rob.entries h.front.entries ≤ now → LastIs (λ a. IsFetchedNext a s) (earlier ++ c.steps) →
      Following c → AreFetchedNext now (earlier ++ (c.steps ++ s ∷ [])) h
  one_more c s h at by last p =
      rw (← append_assoc earlier c.steps (s ∷ [])) (
        EveryNext-push IsFetchedNext (earlier ++ c.steps) s last p.0,
        last_at (λ a. coming now h.rob.entries h.front.entries ≤ stamp_of a) (earlier ++ c.steps) s
            (omega (arith, at, by)),
      )

  head_next : (c : Committing) (e : Entry) (es : List Entry) (written : Option (ℕ × ℕ)) →
      c.hardware.rob.entries ≡ e ∷ es → Following c →
      LastIs (λ a. IsFetchedNext a (Retired (row_at e written c.hardware.cycle))) (earlier ++ c.steps)
  head_next c e es written place p =
      subst (λ l. LastIs (λ s. coming now l c.hardware.front.entries ≤ stamp_of s) (earlier ++ c.steps)) place p.1

  no_row_next : (c : Committing) (s : Step) → ((a : Step) → IsFetchedNext a s) → Following c →
      LastIs (λ a. IsFetchedNext a s) (earlier ++ c.steps)
  no_row_next c s f p = last_weaker (λ a h. f a) (earlier ++ c.steps) p.1

  commit_follows : (c : Committing) (t : Turn Committing) → CommitTurn is_stale c t →
      InCommit v now earlier is_stale c → Following c → Leads Following Following t
  commit_follows c _ (fence_retires e es written next head is drained) q p =
      one_more c (Retired (row_at e written c.hardware.cycle))
      (executed e written next (written_back c)).hardware q.basics.cycle (omega arith)
      (head_next c e es written head.place p) p
  commit_follows c _ (executes e es written next head serial other) q p =
      one_more c (Retired (row_at e written c.hardware.cycle))
      (executed e written next c).hardware q.basics.cycle (omega arith) (head_next c e es written head.place p) p
  commit_follows c _ (serial_faults e es cause value head serial other) q p =
      one_more c (Trap e.pc cause value c.hardware.cycle)
      (with_fault e cause value c).hardware q.basics.cycle (omega arith)
      (no_row_next c (Trap e.pc cause value c.hardware.cycle) (λ a. tt) p) p
  commit_follows c _ (traps e es begun cycle message fault head plain at is) q p =
      one_more c (Trap e.pc fault.cause fault.value c.hardware.cycle)
      (with_fault e fault.cause fault.value c).hardware q.basics.cycle (omega arith)
      (no_row_next c (Trap e.pc fault.cause fault.value c.hardware.cycle) (λ a. tt) p) p
  commit_follows c _ (retires e es begun cycle message head plain at none) q p =
      let these = subst (Each (SoundEntry v now now now)) head.place q.basics.entries in
      let by = coming_by v now es _ these.1 q.basics.fetched in
      one_more c (Retired (row_at e (written_of e message) c.hardware.cycle))
      (retired_with e message c).hardware q.basics.cycle
      (subst (λ l. coming now l c.hardware.front.entries ≤ now)
      (sym (head_retired_entries c.hardware.rob e es head.place)) by)
      (head_next c e es (written_of e message) head.place p) p
  commit_follows c _ (retires_last e es begun cycle message head plain at none) q p =
      one_more c (Retired (row_at e (written_of e message) c.hardware.cycle))
      (retired_and_flushed e message c).hardware q.basics.cycle (omega arith)
      (head_next c e es (written_of e message) head.place p) p
  commit_follows c _ _ q p = p

  commit_follows_by : (o : Option ℕ) (h : Hardware) →
      InCommit v now earlier is_stale (record { hardware = h; steps = []; stop = None }) →
      AreFetchedNext now (earlier ++ []) h → Following (commit_unless is_stale o h)
  commit_follows_by (Some code) h q p =
      let c : Committing = record { hardware = h; steps = []; stop = None } in
      let s : Step = Interrupt h.pc (interrupt_cause code) h.cycle in
      one_more c s (commit_unless is_stale (Some code) h).hardware q.basics.cycle (omega arith)
      (no_row_next c s (λ a. tt) p) p
  commit_follows_by None h q p = commit_turns_keep v now earlier is_stale commit_follows h.values.commit_width q p

-- the other phases leave the oldest

module _ (now t : ℕ) where
  abbrev Comes : Hardware → Type 0
  Comes h = coming now h.rob.entries h.front.entries ≡ t

  drain_comes : IsKeptByDrain Comes
  drain_comes = record { leaves = λ h p idle. p; drains = λ h access p idle is. p }

  other_entry : (h : Hardware) (older younger others : List Entry) (e x : Entry) (fs : List Fetched) →
      h.rob.entries ≡ older ++ e ∷ younger → x.fetched ≡ e.fetched → Comes h → coming now (older ++ x ∷ others) fs ≡ t
  other_entry h older younger others e x fs split same p = grind (arith, coming_same)

  issue_comes : (k : Kind) → IsKeptByIssue Comes k
  issue_comes k = grind (arith, other_entry)

  broadcast_comes : IsKeptByBroadcast Comes
  broadcast_comes = grind (arith, other_entry)

  dispatch_comes : IsKeptByDispatch Comes
  dispatch_comes = grind (arith, coming_dispatched)

  executed_comes : (h : Hardware) → Comes h → Comes (dispatch (broadcast (issue (drain h)))).hardware
  executed_comes h p =
      dispatch-keeps dispatch_comes (broadcast (issue (drain h)))
      (broadcast-keeps broadcast_comes (issue (drain h))
      (issue-keeps Comes issue_comes (drain h) (drain-keeps drain_comes h p)))

-- fetch leaves something in flight

coming_fetched : (now : ℕ) {es : List Entry} (fs added : List Fetched) → Each (λ f. f.cycle ≡ now) added →
    (es ≡ [] → fs ++ added ≡ [] → ⊥) → coming (now + 1) es (fs ++ added) ≡ coming now es fs
coming_fetched now fs added new some = grind arith

-- a fetch that goes on, into a buffer with room, leaves something there
leaves_some : (entries : List Fetched) {added : List Fetched} {halted : Bool} {width capacity most room : ℕ} →
    width ≡ most → capacity ≡ room → 1 ≤ most → 1 ≤ room → (halted ≡ true → ⊥) →
    (added ≡ [] → (halted ≡ true) ⊎ ((width ≡ 0) ⊎ (capacity - length entries ≡ 0))) → entries ++ added ≡ [] → ⊥
leaves_some [] same same' wide roomy runs goes_on none = grind arith
leaves_some (f ∷ fs) same same' wide roomy runs goes_on none = absurd (cc)

module _ {v : Values} {earlier : List Step} {old new : Hardware} {lines : Lines} {report : Report}
    (before : History v earlier old) (is : IsCycle any_prediction lines old report new) where
  abbrev Passes : Type 0
  Passes = Passed v Anything earlier lines old report new

  abbrev d : Hardware
  d = (dispatching lines old).hardware

  something_is_there : (passed : Passes) → d.rob.entries ≡ [] → d.front.entries ++ passed.fetches.added ≡ [] → ⊥
  something_is_there passed none none' =
      let here = (history_is_sound (went_on before is)).always.halted.1 in
      let entries = ap (λ (h : Hardware). h.rob.entries) passed.others_stay ∙ none in
      let runs = runs-empty new.front.halted
      (subst (HaltsAfter new.front.halted)
      (ap (λ es. words_of es new.front.entries) entries ∙ ap (words_of []) (passed.fetches.entries ∙ none')) here) in
      let legal = (history_is_legal before).pipeline in
      let sizes = passed.dispatches.basics.always.sizes in
      leaves_some d.front.entries sizes.width sizes.room (omega (arith, legal.fetch_width))
      (omega (arith, legal.fetch_buffer))
      (λ halted. true≢false (sym halted ∙ ap (λ (r : FetchBuffer). r.halted) (sym (stays_halted is halted)) ∙ runs))
      passed.fetches.goes_on none'

  next_in_cycle : AreFetchedNext old.cycle earlier old → AreFetchedNext new.cycle (earlier ++ report.steps) new
  next_in_cycle p =
      let passed = history_passes v before is in
      let first = begin (history_is_legal before) lines new report (anything_is_kept v old.cycle)
      (history_is_sound before) tt in
      let g : Hardware = with_lines lines old in
      let c : Hardware = (committing lines old).hardware in
      let after = commit_follows_by v old.cycle earlier set.contains (due g.csrs g.lines) g first
      (rw (append-nil earlier) p) in
      let executed = executed_comes old.cycle (coming old.cycle c.rob.entries c.front.entries) c refl in
      let fetched = coming_fetched old.cycle d.front.entries _ (each_then (λ f w. w.0) _ passed.fetches.are_new)
      (something_is_there passed) in
      let here = ap (λ (h : Hardware). coming h.cycle h.rob.entries new.front.entries) passed.others_stay ∙
      ap (coming (old.cycle + 1) d.rob.entries) passed.fetches.entries ∙ fetched ∙ executed in
      rw (passed.steps, here) after

next_of_history : {v : Values} {steps : List Step} {h : Hardware} → History v steps h → AreFetchedNext h.cycle steps h
next_of_history (began image start legal) = (tt, tt)
next_of_history {v} (went_on before is) = next_in_cycle before is (next_of_history before)

-- a row that comes next was fetched by then
pub next_was_fetched : {v : Values} {steps : List Step} {h : Hardware} → History v steps h →
    EachNext IsFetchedNext steps
next_was_fetched {v} history before after a b at =
    next_at IsFetchedNext before after a b (subst (EveryNext IsFetchedNext) at (next_of_history history).0)
