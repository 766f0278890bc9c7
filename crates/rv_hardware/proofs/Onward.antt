-- Through each cycle what is in flight goes on as it was, and what is in flight was fetched before the cycle.
use Rattle.rv_hardware.proofs.Words.{◌≡◌, ℕ, ◌+◌, List, [], ◌∷◌, ◌++◌, map, drop, Some, None, Option, nat_cmp, sym}
use Rattle.rv_hardware.proofs.Words.{refl, ap, ◌∙◌, subst, inl, inr, arith, due, Lines, Kind, Message, Issue, Entry}
use Rattle.rv_hardware.proofs.Words.{Stage, Waiting, Running, Finished, Fetched, predicting, issue_of, Answers, IsCycle}
use Rattle.rv_hardware.proofs.Words.{Committing, commit_turn, commit_unless, with_lines, broadcast, drain, issue}
use Rattle.rv_hardware.proofs.Words.{Hardware, entry_of_fetched, Turn, Report, Step, Each, Each-append, Each-left}
use Rattle.rv_hardware.proofs.Words.{Each-place, Each-push, Each-change, Leaves, kept_by_turns, always, Reachable}
use Rattle.rv_hardware.proofs.Words.{execute, each_image, each_then, Bool}
use Rattle.std.specs.FinSet as set
use Rattle.rv_hardware.specs.Onward.{Flight, GoOn, IsLater, Stays, StaysAtStage, fetched_now, flights}
use Rattle.rv_hardware.specs.Onward.{goes_on, IsFetchedBefore, IsFetchedIn, left_by, of_entry, of_fetched}
use Rattle.rv_hardware.specs.declared.step.Step.TheVariants as step
use Rattle.rv_hardware.proofs.Turns.Commit.{CommitTurn, commit_turn_is, retires, fence_retires, executes, serial_faults}
use Rattle.rv_hardware.proofs.Turns.Commit.{traps, retires_last}
use Rattle.rv_hardware.proofs.Turns.Fetch.{fetch_phase}
use Rattle.rv_hardware.proofs.Turns.KeptByBroadcast.{IsKeptByBroadcast, broadcast-keeps}
use Rattle.rv_hardware.proofs.Turns.KeptByDispatch.{IsKeptByDispatch, dispatch-keeps}
use Rattle.rv_hardware.proofs.Turns.KeptByDrain.{IsKeptByDrain, drain-keeps}
use Rattle.rv_hardware.proofs.Turns.KeptByIssue.{IsKeptByIssue, issue-keeps}

-- ---- one instruction

stage-self : (s : Stage) → StaysAtStage s s
stage-self Waiting = tt
stage-self (Running issue message) = inl refl
stage-self (Finished issue cycle message) = refl

-- what is unchanged stays
pub stays-self : {X : Type 0} (a : Option X) → Stays a a
stays-self None = tt
stays-self (Some x) = refl

-- what is later than what is later is later
pub later-then : {a b c : Flight} → IsLater a b → IsLater b c → IsLater a c
later-then {a} {b} {c} one two = grind arith

-- an entry at a later stage
staged : (e : Entry) (s : Stage) → StaysAtStage e.stage s → IsLater (of_entry e) (of_entry (record e { stage = s }))
staged e s stays = grind arith

-- ---- lists of them

module _ {cycle : ℕ} where
  -- one of them is as it is later
  changes : {old : List Flight} (older younger : List Flight) (x y : Flight) → IsLater x y →
      GoOn cycle old (older ++ x ∷ younger) → GoOn cycle old (older ++ y ∷ younger)
  changes [] younger x y later (fetched_now new) = fetched_now (later.fetched ∙ new.0, new.1)
  changes [] younger x y later (goes_on is rest) = goes_on (later-then is later) rest
  changes (o ∷ older) younger x y later (fetched_now new) =
      fetched_now (Each-change (IsFetchedIn cycle) (o ∷ older) younger x y (λ is. later.fetched ∙ is) new)
  changes (o ∷ older) younger x y later (goes_on is rest) = goes_on is (changes older younger x y later rest)

  -- the oldest has left
  leaves : {old : List Flight} (x : Flight) (xs : List Flight) → GoOn cycle old (x ∷ xs) → GoOn cycle (drop 1 old) xs
  leaves x xs (fetched_now new) = fetched_now new.1
  leaves x xs (goes_on is rest) = rest

  -- those after one are squashed
  cut : {old : List Flight} (older younger : List Flight) (x : Flight) → GoOn cycle old (older ++ x ∷ younger) →
      GoOn cycle old (older ++ x ∷ [])
  cut [] younger x (fetched_now new) = fetched_now (new.0, tt)
  cut [] younger x (goes_on is rest) = goes_on is (fetched_now tt)
  cut (o ∷ older) younger x (fetched_now new) =
      fetched_now
      (Each-push (IsFetchedIn cycle) (o ∷ older) x (Each-place (IsFetchedIn cycle) (o ∷ older) younger x new)
      (Each-left (IsFetchedIn cycle) (o ∷ older) (x ∷ younger) new))
  cut (o ∷ older) younger x (goes_on is rest) = goes_on is (cut older younger x rest)

  -- more are fetched
  adds : {old new : List Flight} (added : List Flight) → Each (IsFetchedIn cycle) added → GoOn cycle old new →
      GoOn cycle old (new ++ added)
  adds {new} added is (fetched_now all) = fetched_now (Each-append (IsFetchedIn cycle) _ added all is)
  adds added is (goes_on later rest) = goes_on later (adds added is rest)

-- ---- the flights of hardware

flights-at : (older younger : List Entry) (e : Entry) (words : List Fetched) →
    map of_entry (older ++ e ∷ younger) ++ map of_fetched words ≡
    map of_entry older ++ of_entry e ∷ (map of_entry younger ++ map of_fetched words)
flights-at [] younger e words = refl
flights-at (o ∷ older) younger e words = ap (λ l. of_entry o ∷ l) (flights-at older younger e words)

flights-added : (entries : List Entry) (words added : List Fetched) →
    map of_entry entries ++ map of_fetched (words ++ added) ≡
    (map of_entry entries ++ map of_fetched words) ++ map of_fetched added
flights-added [] [] added = refl
flights-added [] (f ∷ words) added = ap (λ l. of_fetched f ∷ l) (flights-added [] words added)
flights-added (e ∷ entries) words added = ap (λ l. of_entry e ∷ l) (flights-added entries words added)

-- ---- the phases from drain to dispatch

module _ (cycle : ℕ) (old : List Flight) where
  -- what was in flight has gone on
  abbrev Gone : Hardware → Type 0
  Gone h = GoOn cycle old (flights h)

  -- in the order around an entry
  around : (h : Hardware) (older younger : List Entry) (e : Entry) → h.rob.entries ≡ older ++ e ∷ younger → Gone h →
      GoOn cycle old (map of_entry older ++ of_entry e ∷ (map of_entry younger ++ map of_fetched h.front.entries))
  around h older younger e split gone = grind (arith, flights-at)

  restaged : (h : Hardware) (older younger : List Entry) (e : Entry) (s : Stage) →
      h.rob.entries ≡ older ++ e ∷ younger → StaysAtStage e.stage s → Gone h →
      GoOn cycle old (map of_entry (older ++ record e { stage = s } ∷ younger) ++ map of_fetched h.front.entries)
  restaged h older younger e s split stays gone =
      let new : Entry = record e { stage = s } in
      subst (λ l. GoOn cycle old l) (sym (flights-at older younger new h.front.entries))
      (changes (map of_entry older) (map of_entry younger ++ map of_fetched h.front.entries) (of_entry e) (of_entry new)
      (staged e s stays) (around h older younger e split gone))

  drain-goes : IsKeptByDrain Gone
  drain-goes = record { leaves = λ h gone idle. gone; drains = λ h access gone idle is. gone }

  issue-goes : (k : Kind) → IsKeptByIssue Gone k
  issue-goes k = grind (arith, restaged)

  sent-stays : (s : Stage) (now : ℕ) (issue : Issue) (message : Message) → s ≡ Running issue message →
      StaysAtStage s (Finished (issue_of s) now message)
  sent-stays s now issue message runs =
      subst (λ t. StaysAtStage t (Finished (issue_of t) now message)) (sym runs) (inr (now, refl))

  broadcast-goes : IsKeptByBroadcast Gone
  broadcast-goes = record {
    broadcasts = λ h older younger e message gone split run.
        restaged h older younger e (Finished (issue_of e.stage) h.cycle message) split
        (sent-stays e.stage h.cycle run.issue message run.runs) gone;
    mends = λ h older younger e next gone split.
        subst (λ l. GoOn cycle old l) (sym (flights-at older [] (predicting next e) []))
        (cut (map of_entry older) (map of_entry younger ++ map of_fetched h.front.entries) (of_entry e)
        (around h older younger e split gone));
  }

  dispatch-goes : IsKeptByDispatch Gone
  dispatch-goes = record {
    dispatches = λ h f rest gone first none.
        let e : Entry = entry_of_fetched h f in
        let later : IsLater (of_fetched f) (of_entry e) =
        record { pc = refl; word = refl; instruction = refl; fetched = refl; dispatched = tt; stage = tt } in
        subst (λ l. GoOn cycle old l) (sym (flights-at h.rob.entries [] e rest))
        (changes (map of_entry h.rob.entries) (map of_fetched rest) (of_fetched f) (of_entry e) later
        (subst (λ fs. GoOn cycle old (map of_entry h.rob.entries ++ map of_fetched fs)) first gone));
  }

  execute-goes : (h : Hardware) → Gone h → Gone (execute h).hardware
  execute-goes h gone =
      dispatch-keeps dispatch-goes (broadcast (issue (drain h)))
      (broadcast-keeps broadcast-goes (issue (drain h))
      (issue-keeps Gone issue-goes (drain h) (drain-keeps drain-goes h gone)))

-- ---- the commit phase

left_by-one_more : {X : Type 0} (steps : List Step) (last : Step) (xs : List X) →
    left_by (steps ++ last ∷ []) xs ≡ left_by (last ∷ []) (left_by steps xs)
left_by-one_more [] last xs = refl
left_by-one_more (step.Retired row ∷ steps) last xs = left_by-one_more steps last (drop 1 xs)
left_by-one_more (step.Trap pc cause value cycle ∷ steps) last xs = left_by-one_more steps last (drop 1 xs)
left_by-one_more (step.Interrupt pc cause cycle ∷ steps) last xs = left_by-one_more steps last xs

module _ (cycle : ℕ) (old : List Flight) (is_stale : set.FinSet nat_cmp → ℕ → Bool) where
  -- but for what the steps so far took
  abbrev Left : Committing → Type 0
  Left c = GoOn cycle (left_by c.steps old) (flights c.hardware)

  turn-goes : {c : Committing} {t : Turn Committing} → CommitTurn is_stale c t → Left c → Leaves Left t
  turn-goes (fence_retires e es written next head is drained) left = fetched_now tt
  turn-goes (executes e es written next head serial other) left = fetched_now tt
  turn-goes (serial_faults e es cause value head serial other) left = fetched_now tt
  turn-goes (traps e es issue cycle message fault head plain at is) left = fetched_now tt
  turn-goes (retires_last e es issue cycle message head plain at none) left = fetched_now tt
  turn-goes {c} (retires e es issue now message head plain at none) left = grind (arith, left_by-one_more, leaves)
  turn-goes _ left = left

  commit-goes : (code : Option ℕ) (h : Hardware) → GoOn cycle old (flights h) → Left (commit_unless is_stale code h)
  commit-goes None h gone =
      kept_by_turns Left (commit_turn is_stale) (λ c left. turn-goes (commit_turn_is is_stale c) left)
      h.values.commit_width _ gone
  commit-goes (Some code) h gone = fetched_now tt

-- ---- a whole cycle

go_on-self : (cycle : ℕ) (fs : List Flight) → GoOn cycle fs fs
go_on-self cycle [] = fetched_now tt
go_on-self cycle (f ∷ fs) = goes_on (record {
  pc = refl;
  word = refl;
  instruction = refl;
  fetched = refl;
  dispatched = stays-self f.dispatched;
  stage = stage-self f.stage;
}) (go_on-self cycle fs)

-- Of what was in flight before a cycle its steps take the oldest; of the others the first go on, in order, and all that
-- comes after these was fetched in the cycle.
pub cycle-goes_on : {answers : Answers} {lines : Lines} {old new : Hardware} {report : Report} →
    IsCycle answers lines old report new → GoOn old.cycle (left_by report.steps (flights old)) (flights new)
cycle-goes_on {lines = lines} {old} {new} {report} cycle =
    let h : Hardware = with_lines lines old in
    let d : Hardware = cycle.dispatching.hardware in
    let committed : GoOn old.cycle (left_by cycle.committing.steps (flights old)) (flights cycle.committing.hardware) =
    subst (λ c. GoOn old.cycle (left_by c.steps (flights old)) (flights c.hardware)) (sym cycle.commits)
    (commit-goes old.cycle (flights old) set.contains (due h.csrs h.lines) h (go_on-self old.cycle (flights old))) in
    let left : List Flight = left_by cycle.committing.steps (flights old) in
    let executed : GoOn old.cycle left (flights d) =
    subst (λ p. GoOn old.cycle left (flights p.hardware)) (sym cycle.executes)
    (execute-goes old.cycle left cycle.committing.hardware committed) in
    let phase = fetch_phase _ _ old.cycle d.front new.front cycle.fetch_stop cycle.fetches in
    let added : Each (IsFetchedIn old.cycle) (map of_fetched phase.added) =
    each_image (IsFetchedIn old.cycle) (λ f is. is.0) phase.added phase.are_new in
    let after : GoOn old.cycle left (map of_entry d.rob.entries ++ map of_fetched new.front.entries) =
    subst (λ l. GoOn old.cycle left l)
    (sym (ap (λ fs. map of_entry d.rob.entries ++ map of_fetched fs) phase.entries ∙
    flights-added d.rob.entries d.front.entries phase.added))
    (adds (map of_fetched phase.added) added executed) in
    subst (λ r. GoOn old.cycle (left_by r.steps (flights old)) (flights new)) (sym cycle.reports)
    (subst (λ (g : Hardware). GoOn old.cycle left (flights g)) (sym cycle.others_stay) after)

-- ---- what was fetched before

drop-each : {X : Type 0} (P : X → Type 0) (xs : List X) → Each P xs → Each P (drop 1 xs)
drop-each P [] all = tt
drop-each P (x ∷ xs) all = all.1

-- what is left by some steps is as each was
pub left_by-each : {X : Type 0} (P : X → Type 0) (steps : List Step) (xs : List X) → Each P xs →
    Each P (left_by steps xs)
left_by-each P [] xs all = all
left_by-each P (step.Retired row ∷ steps) xs all = left_by-each P steps (drop 1 xs) (drop-each P xs all)
left_by-each P (step.Trap pc cause value cycle ∷ steps) xs all = left_by-each P steps (drop 1 xs) (drop-each P xs all)
left_by-each P (step.Interrupt pc cause cycle ∷ steps) xs all = left_by-each P steps xs all

go_on-before : {cycle : ℕ} {old new : List Flight} → GoOn cycle old new → Each (IsFetchedBefore cycle) old →
    Each (IsFetchedBefore (cycle + 1)) new
go_on-before {new = new} (fetched_now now) before = each_then (λ f is. omega (arith, is)) new now
go_on-before (goes_on later rest) before = (omega (arith, later.fetched, before.0), go_on-before rest before.1)

-- in a cycle of hardware with nothing in flight but what was fetched before it, all that is in flight at its end was
-- fetched in it at the latest
pub cycle-fetched : {answers : Answers} {lines : Lines} {old new : Hardware} {report : Report} →
    IsCycle answers lines old report new → Each (IsFetchedBefore old.cycle) (flights old) →
    Each (IsFetchedBefore new.cycle) (flights new)
cycle-fetched {old = old} {new} {report} cycle before =
    subst (λ n. Each (IsFetchedBefore n) (flights new)) (sym (ap (λ (h : Hardware). h.cycle) cycle.others_stay))
    (go_on-before (cycle-goes_on cycle) (left_by-each (IsFetchedBefore old.cycle) report.steps (flights old) before))

-- all that is in flight in hardware that a reset and cycles lead to was fetched before
pub fetched-before : {h : Hardware} → Reachable h → Each (IsFetchedBefore h.cycle) (flights h)
fetched-before reached =
    always {P = λ h. Each (IsFetchedBefore h.cycle) (flights h)} (λ values base image start legal loadable. tt)
    (λ old new lines report reachable before counted cycle. cycle-fetched cycle before) reached
