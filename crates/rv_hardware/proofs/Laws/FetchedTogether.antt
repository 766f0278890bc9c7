-- Instructions fetched in one cycle stand one after another in memory.
use Rattle.rv_hardware.proofs.Words.{◌≡◌, ℕ, suc, ◌+◌, ◌<◌, Bool, true, false, List, [], ◌∷◌, ◌++◌, map, ◌==◌, Some}
use Rattle.rv_hardware.proofs.Words.{None, Option, MatchOption, nat_cmp, sym, refl, ap, ◌∙◌, subst, append_assoc}
use Rattle.rv_hardware.proofs.Words.{append-nil, arith, eqb-true, pc_plus_4, Lines, Kind, Values, Memory, due}
use Rattle.rv_hardware.proofs.Words.{interrupt_cause, Each, Entry, Answers, Fetches, stop_for, FetchStop, Fetched}
use Rattle.rv_hardware.proofs.Words.{broadcast, Committing, commit_turn, commit_unless, IsCycle, any_prediction}
use Rattle.rv_hardware.proofs.Words.{execute, with_lines, Dispatching, drain, Hardware, issue, IsNextWord, Turn, Report}
use Rattle.rv_hardware.proofs.Words.{written_of, EachNext, rows_of, Row, Step, Interrupt, Retired, Trap, each_then}
use Rattle.rv_hardware.proofs.Words.{Each-append, Each-left, map-change, Beginning, Leaves, kept_by_turns}
use Rattle.std.specs.FinSet as set
use Rattle.rv_hardware.proofs.Marks.Cited.{IsKeptByBroadcast, broadcast-keeps, IsKeptByDispatch, dispatch-keeps}
use Rattle.rv_hardware.proofs.Marks.Cited.{IsKeptByDrain, drain-keeps, IsKeptByIssue, issue-keeps, CommitTurn}
use Rattle.rv_hardware.proofs.Marks.Cited.{commit_turn_is, fence_retires, executes, serial_faults, traps, retires}
use Rattle.rv_hardware.proofs.Marks.Cited.{retires_last, History, began, went_on, rows_append, row_at}
use Rattle.rv_hardware.proofs.Laws.NoIdleFetch.Next.{EveryNext}

-- where a word stands, and the cycle in which it was fetched
record Place : Type 0 where
  pc : ℕ
  fetched : ℕ

abbrev place_of_row : Row → Place
place_of_row row = record { pc = row.pc; fetched = row.fetched }

abbrev place_of_entry : Entry → Place
place_of_entry e = record { pc = e.pc; fetched = e.fetched }

abbrev place_of_fetched : Fetched → Place
place_of_fetched f = record { pc = f.pc; fetched = f.cycle }

-- of the rows
abbrev row_places : List Step → List Place
row_places steps = map place_of_row (rows_of steps)

-- of what is in flight and of the fetched words
abbrev in_flight : List Entry → List Fetched → List Place
in_flight es fs = map place_of_entry es ++ map place_of_fetched fs

-- of all these, in order
abbrev places : List Step → Hardware → List Place
places steps h = row_places steps ++ in_flight h.rob.entries h.front.entries

-- of two that were fetched in one cycle, the second stands at the address after the first
abbrev IsNext : Place → Place → Type 0
IsNext p q = p.fetched ≡ q.fetched → q.pc ≡ pc_plus_4 p.pc

-- R of each element and the next one, in parts of a list

module _ {X : Type 0} (R : X → X → Type 0) where
  next_left : (xs ys : List X) → EveryNext R (xs ++ ys) → EveryNext R xs
  next_left [] ys h = tt
  next_left (x ∷ []) ys h = (tt, tt)
  next_left (x ∷ z ∷ xs) ys h = (h.0, next_left (z ∷ xs) ys h.1)

  next_append : (P Q : X → Type 0) → ((x y : X) → P x → Q y → R x y) → (xs ys : List X) → Each P xs → Each Q ys →
      EveryNext R xs → EveryNext R ys → EveryNext R (xs ++ ys)
  next_append P Q f [] ys p q h g = g
  next_append P Q f (x ∷ []) [] p q h g = (tt, tt)
  next_append P Q f (x ∷ []) (y ∷ ys) p q h g = (f x y p.0 q.0, g)
  next_append P Q f (x ∷ z ∷ xs) ys p q h g = (h.0, next_append P Q f (z ∷ xs) ys p.1 q h.1 g)

  next_of_map : {Y : Type 0} (f : Y → X) (before after : List Y) (x y : Y) →
      EveryNext R (map f (before ++ x ∷ y ∷ after)) → R (f x) (f y)
  next_of_map f [] after x y h = h.0
  next_of_map f (z ∷ before) after x y h = next_of_map f before after x y h.1

-- each stands at the address after the one before it where both were fetched in one cycle, all before a cycle
abbrev AreNext : ℕ → List Place → Type 0
AreNext now ps = EveryNext IsNext ps × Each (λ p. p.fetched < now) ps

first_are_next : (now : ℕ) (ps qs : List Place) → AreNext now (ps ++ qs) → AreNext now ps
first_are_next now ps qs h = (next_left IsNext ps qs h.0, Each-left _ ps qs h.1)

first_alone : (now : ℕ) (ps qs : List Place) → AreNext now (ps ++ qs) → AreNext now (ps ++ [])
first_alone now ps qs h = subst (AreNext now) (sym (append-nil ps)) (first_are_next now ps qs h)

-- a fetch

-- words of a cycle from a pc on, one after another in memory
abbrev AreStraight : ℕ → ℕ → List Place → Type 0
AreStraight cycle pc [] = Unit {0}
AreStraight cycle pc (p ∷ ps) = ((p.pc ≡ pc) × (p.fetched ≡ cycle)) × AreStraight cycle (pc_plus_4 pc) ps

straight_next : (cycle pc : ℕ) (ps : List Place) → AreStraight cycle pc ps → EveryNext IsNext ps
straight_next cycle pc [] h = tt
straight_next cycle pc (p ∷ []) h = (tt, tt)
straight_next cycle pc (p ∷ q ∷ ps) h =
    ((λ same. h.1.0.0 ∙ ap pc_plus_4 (sym h.0.0)), straight_next cycle (pc_plus_4 pc) (q ∷ ps) h.1)

straight_now : (cycle pc : ℕ) (ps : List Place) → AreStraight cycle pc ps → Each (λ p. p.fetched ≡ cycle) ps
straight_now cycle pc [] h = tt
straight_now cycle pc (p ∷ ps) h = (h.0.1, straight_now cycle (pc_plus_4 pc) ps h.1)

none_straight : (cycle pc : ℕ) (fs : List Fetched) → fs ≡ [] → AreStraight cycle pc (map place_of_fetched fs)
none_straight cycle pc fs none = subst (λ l. AreStraight cycle pc (map place_of_fetched l)) (sym none) tt

straight_by : (cycle pc next predicted : ℕ) (stop : FetchStop) (fs : List Fetched) {Rest : Type 0} (word : Option ℕ)
    (straight : Bool) →
    (straight ≡ true → Rest → AreStraight cycle pc (map place_of_fetched fs)) →
    MatchOption (stop_for word straight) Rest (λ reason. (fs ≡ []) × (next ≡ predicted) × (stop ≡ reason)) →
    AreStraight cycle pc (map place_of_fetched fs)
straight_by cycle pc next predicted stop fs None straight goes h = none_straight cycle pc fs h.0
straight_by cycle pc next predicted stop fs (Some word) true goes h = goes refl h
straight_by cycle pc next predicted stop fs (Some word) false goes h = none_straight cycle pc fs h.0

fetches_straight : (answers : Answers) (ram : Memory) (cycle width room pc : ℕ) (fs : List Fetched) (next : ℕ)
    (stop : FetchStop) →
    Fetches answers ram cycle width room pc fs next stop → AreStraight cycle pc (map place_of_fetched fs)
fetches_straight answers ram cycle width room pc [] next stop h = tt
fetches_straight answers ram cycle (suc width) (suc room) pc (f ∷ fs) next stop h = (
  (h.0.pc_is, h.0.cycle_is),
  straight_by cycle (pc_plus_4 pc) next f.predicted stop fs f.word (f.predicted == pc_plus_4 f.pc)
      (λ is rest.
      subst (λ n. AreStraight cycle n (map place_of_fetched fs))
      (eqb-true f.predicted (pc_plus_4 f.pc) is ∙ ap pc_plus_4 h.0.pc_is)
      (fetches_straight answers ram cycle width room f.predicted fs next stop rest)) h.1,
)
fetches_straight answers ram cycle width room pc (f ∷ fs) next stop h = absurd h

-- the words of a cycle come after those of earlier ones
more_are_next : (now pc : ℕ) (ps qs : List Place) → AreStraight now pc qs → AreNext now ps →
    AreNext (now + 1) (ps ++ qs)
more_are_next now pc ps qs straight h = grind (arith, straight_now, next_append, straight_next, Each-append, each_then)

later_are_next : (now : ℕ) (ps : List Place) → AreNext now ps → AreNext (now + 1) ps
later_are_next now ps h = (h.0, each_then (λ p lt. omega (arith, lt)) ps h.1)

-- the places of hardware

same_places : (older younger : List Entry) (e x : Entry) (fs : List Fetched) → place_of_entry x ≡ place_of_entry e →
    in_flight (older ++ e ∷ younger) fs ≡ in_flight (older ++ x ∷ younger) fs
same_places older younger e x fs same =
    ap (λ l. l ++ map place_of_fetched fs) (sym (map-change place_of_entry older younger e x same))

places_cut : (older younger : List Entry) (e x : Entry) (fs : List Fetched) → place_of_entry x ≡ place_of_entry e →
    Beginning (in_flight (older ++ x ∷ []) []) (in_flight (older ++ e ∷ younger) fs)
places_cut [] younger e x fs same = (in_flight younger fs, ap (λ p. p ∷ in_flight younger fs) (sym same))
places_cut (o ∷ older) younger e x fs same =
    let rest = places_cut older younger e x fs same in (rest.0, ap (λ l. place_of_entry o ∷ l) rest.1)

places_dispatched : (es : List Entry) (e : Entry) (f : Fetched) (fs : List Fetched) →
    place_of_entry e ≡ place_of_fetched f → in_flight es (f ∷ fs) ≡ in_flight (es ++ e ∷ []) fs
places_dispatched [] e f fs same = ap (λ p. p ∷ map place_of_fetched fs) (sym same)
places_dispatched (o ∷ es) e f fs same = ap (λ l. place_of_entry o ∷ l) (places_dispatched es e f fs same)

places_fetched : (ps : List Place) (es : List Entry) (fs more : List Fetched) →
    (ps ++ in_flight es fs) ++ map place_of_fetched more ≡ ps ++ in_flight es (fs ++ more)
places_fetched (p ∷ ps) es fs more = ap (λ l. p ∷ l) (places_fetched ps es fs more)
places_fetched [] (e ∷ es) fs more = ap (λ l. place_of_entry e ∷ l) (places_fetched [] es fs more)
places_fetched [] [] (f ∷ fs) more = ap (λ l. place_of_fetched f ∷ l) (places_fetched [] [] fs more)
places_fetched [] [] [] more = refl

places_retired : (steps : List Step) (row : Row) (ps : List Place) →
    row_places steps ++ place_of_row row ∷ ps ≡ row_places (steps ++ Retired row ∷ []) ++ ps
places_retired [] row ps = refl
places_retired (Retired r ∷ steps) row ps = ap (λ l. place_of_row r ∷ l) (places_retired steps row ps)
places_retired (step ∷ steps) row ps = places_retired steps row ps

-- the phases from drain to dispatch

module _ (now : ℕ) (rows : List Place) where
  abbrev Placed : Hardware → Type 0
  Placed h = AreNext now (rows ++ in_flight h.rob.entries h.front.entries)

  one_changes : (h : Hardware) (older younger : List Entry) (e x : Entry) → h.rob.entries ≡ older ++ e ∷ younger →
      place_of_entry x ≡ place_of_entry e → Placed h →
      AreNext now (rows ++ in_flight (older ++ x ∷ younger) h.front.entries)
  one_changes h older younger e x split same p = grind (arith, same_places)

  one_mended : (h : Hardware) (older younger : List Entry) (e x : Entry) → h.rob.entries ≡ older ++ e ∷ younger →
      place_of_entry x ≡ place_of_entry e → Placed h → AreNext now (rows ++ in_flight (older ++ x ∷ []) [])
  one_mended h older younger e x split same p =
      let left = places_cut older younger e x h.front.entries same in
      first_are_next now (rows ++ in_flight (older ++ x ∷ []) []) left.0
      (subst (AreNext now)
      (ap (λ es. rows ++ in_flight es h.front.entries) split ∙ ap (λ l. rows ++ l) left.1 ∙
      sym (append_assoc rows (in_flight (older ++ x ∷ []) []) left.0)) p)

  drain_placed : IsKeptByDrain Placed
  drain_placed = record { leaves = λ h p idle. p; drains = λ h access p idle is. p }

  issue_placed : (k : Kind) → IsKeptByIssue Placed k
  issue_placed k = grind (arith, one_changes)

  broadcast_placed : IsKeptByBroadcast Placed
  broadcast_placed = grind (arith, one_changes, one_mended)

  dispatch_placed : IsKeptByDispatch Placed
  dispatch_placed = grind (arith, places_dispatched)

  execute_placed : (h : Hardware) → Placed h → Placed (execute h).hardware
  execute_placed h p =
      dispatch-keeps dispatch_placed (broadcast (issue (drain h)))
      (broadcast-keeps broadcast_placed (issue (drain h))
      (issue-keeps Placed issue_placed (drain h) (drain-keeps drain_placed h p)))

-- the commit phase

module _ (now : ℕ) (earlier : List Step) (is_stale : set.FinSet nat_cmp → ℕ → Bool) where
  abbrev Committed : Committing → Type 0
  Committed c = AreNext now (places (earlier ++ c.steps) c.hardware)

  with_row : (c : Committing) (e : Entry) (es : List Entry) (written : Option (ℕ × ℕ)) →
      c.hardware.rob.entries ≡ e ∷ es → Committed c →
      AreNext now (row_places (earlier ++ (c.steps ++ Retired (row_at e written c.hardware.cycle) ∷ [])) ++
      in_flight es c.hardware.front.entries)
  with_row c e es written place p = grind (arith, places_retired, append_assoc)

  row_flushes : (c : Committing) (e : Entry) (es : List Entry) (written : Option (ℕ × ℕ)) →
      c.hardware.rob.entries ≡ e ∷ es → Committed c →
      AreNext now (row_places (earlier ++ (c.steps ++ Retired (row_at e written c.hardware.cycle) ∷ [])) ++ [])
  row_flushes c e es written place p = first_alone now _ _ (with_row c e es written place p)

  other_flushes : (c : Committing) (s : Step) → rows_of (s ∷ []) ≡ [] → Committed c →
      AreNext now (row_places (earlier ++ (c.steps ++ s ∷ [])) ++ [])
  other_flushes c s none p =
      subst (λ rows. AreNext now (map place_of_row rows ++ []))
      (sym (append-nil (rows_of (earlier ++ c.steps))) ∙ ap (λ l. rows_of (earlier ++ c.steps) ++ l) (sym none) ∙
      sym (rows_append (earlier ++ c.steps) (s ∷ [])) ∙ ap rows_of (append_assoc earlier c.steps (s ∷ [])))
      (first_alone now _ _ p)

  turn_placed : {c : Committing} {t : Turn Committing} → CommitTurn is_stale c t → Committed c → Leaves Committed t
  turn_placed {c} (fence_retires e es written next head is drained) p = row_flushes c e es written head.place p
  turn_placed {c} (executes e es written next head serial other) p = row_flushes c e es written head.place p
  turn_placed {c} (serial_faults e es cause value head serial other) p =
      other_flushes c (Trap e.pc cause value c.hardware.cycle) refl p
  turn_placed {c} (traps e es begun cycle message fault head plain at is) p =
      other_flushes c (Trap e.pc fault.cause fault.value c.hardware.cycle) refl p
  turn_placed {c} (retires e es begun cycle message head plain at none) p = grind (arith, with_row)
  turn_placed {c} (retires_last e es begun cycle message head plain at none) p =
      row_flushes c e es (written_of e message) head.place p
  turn_placed _ p = p

  commit_placed : (code : Option ℕ) (h : Hardware) → AreNext now (places (earlier ++ []) h) →
      Committed (commit_unless is_stale code h)
  commit_placed None h p =
      kept_by_turns Committed (commit_turn is_stale) (λ c q. turn_placed (commit_turn_is is_stale c) q)
      h.values.commit_width (record { hardware = h; steps = []; stop = None }) p
  commit_placed (Some code) h p =
      other_flushes (record { hardware = h; steps = []; stop = None }) (Interrupt h.pc (interrupt_cause code) h.cycle)
      refl p

-- a whole cycle

module _ (earlier : List Step) {lines : Lines} {old new : Hardware} {report : Report}
    (is : IsCycle any_prediction lines old report new) (before : AreNext old.cycle (places earlier old)) where
  abbrev Commits : Committing → Type 0
  Commits c = AreNext old.cycle (places (earlier ++ c.steps) c.hardware)

  committed : Commits is.committing
  committed =
      let h : Hardware = with_lines lines old in
      subst Commits (sym is.commits)
      (commit_placed old.cycle earlier set.contains (due h.csrs h.lines) h
      (subst (λ l. AreNext old.cycle (places l h)) (sym (append-nil earlier)) before))

  abbrev rows : List Place
  rows = row_places (earlier ++ is.committing.steps)

  abbrev d : Hardware
  d = is.dispatching.hardware

  executed : Placed old.cycle rows d
  executed =
      subst (λ (p : Dispatching). Placed old.cycle rows p.hardware) (sym is.executes)
      (execute_placed old.cycle rows is.committing.hardware committed)

  fetched : AreNext (old.cycle + 1) (rows ++ in_flight d.rob.entries new.front.entries)
  fetched = grind (arith, later_are_next, executed, places_fetched, more_are_next, fetches_straight)

  cycle_placed : AreNext new.cycle (places (earlier ++ report.steps) new)
  cycle_placed = grind (arith, fetched)

history_placed : {v : Values} {steps : List Step} {h : Hardware} → History v steps h →
    AreNext h.cycle (places steps h)
history_placed (began image start legal) = (tt, tt)
history_placed {v} (went_on {earlier} before is) = cycle_placed earlier is (history_placed before)

-- the field `fetched_together` of `Laws`, over every history
pub law_of_fetched_together : {v : Values} {steps : List Step} {h : Hardware} → History v steps h →
    EachNext IsNextWord (rows_of steps)
law_of_fetched_together {v} {steps} {h} history before after a b at =
    next_of_map IsNext place_of_row before after a b
    (subst (λ rows. EveryNext IsNext (map place_of_row rows)) at
    (first_are_next h.cycle (row_places steps) _ (history_placed history)).0)
