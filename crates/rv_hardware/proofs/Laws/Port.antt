-- Of two loads that use the cache's port one is over when the other begins.
pub mod Loads
pub mod Phases
use Rattle.rv_hardware.proofs.Words.{◌≡◌, ℕ, ◌+◌, ◌<◌, ◌≤◌, Bool, true, false, cond, not, ◌⊎◌, List, [], ◌∷◌, ◌++◌, map}
use Rattle.rv_hardware.proofs.Words.{IfSome, nat_le, ◌==◌, Some, None, Option, AllPairs, sym, refl, ap, ◌∙◌, subst, inl}
use Rattle.rv_hardware.proofs.Words.{inr, true≢false, append_assoc, arith, le-leb, and_from, cases_lt, Instr, Values}
use Rattle.rv_hardware.proofs.Words.{Each, Entry, Stage, Finished, Running, Waiting, Fetched, Hardware, AreApartAtPort}
use Rattle.rv_hardware.proofs.Words.{EachAfter, instruction_of_row, is_load_row, passes, rows_of, uses_port, Execution}
use Rattle.rv_hardware.proofs.Words.{Row, Step, and_first, and_second, Each-left, Each-place, Each-all, Each-both}
use Rattle.rv_hardware.proofs.Words.{EveryPair, EveryAfter, AllPairs-EveryPair, EveryPair-append, EveryPair-map}
use Rattle.rv_hardware.proofs.Words.{EveryPair-EveryAfter, EveryAfter-EveryPair, Each-images, IsBetween, each_then}
use Rattle.rv_hardware.proofs.Marks.Cited.{in_cycle, after_law, History, began, went_on, dispatching, history_is_legal}
use Rattle.rv_hardware.proofs.Marks.Cited.{history_is_sound, history_passes, Mark, Start, mark_of_row, mark_of_entry}
use Rattle.rv_hardware.proofs.Marks.Cited.{mark_of_fetched, marks_in, as_of, as_of-cons, at_end, start_until}
use Rattle.rv_hardware.proofs.Marks.Cited.{start_of_execution, start_of_stage, SoundRow, SoundEntry, SoundStage}
use Rattle.rv_hardware.proofs.Marks.Cited.{rows_obey_after}
use Rattle.rv_hardware.proofs.Laws.Port.Loads.{uses_cache, WhereUsed, OverBy, OneAtATime}
use Rattle.rv_hardware.proofs.Laws.Port.Phases.{PortOk, Tied, new_pair, port_kept, AreTied}

-- at the start of a cycle nothing has begun in it

not_begun_stage : (v : Values) (i : Option Instr) (D now : ℕ) (st : Stage) (P : Start → Type 0) →
    SoundStage v i D now now st → IfSome (start_of_stage st) (λ s. uses_cache v i s ≡ true → s.cycle ≡ now → P s)
not_begun_stage v i D now st P h = grind arith

fresh_pairs : (v : Values) (now : ℕ) (es : List Entry) → Each (SoundEntry v now now now) es →
    EveryPair (λ a b. OneAtATime v now (mark_of_entry a) (mark_of_entry b)) es
fresh_pairs v now [] sound = tt
fresh_pairs v now (e ∷ es) sound = (
  each_then (λ b w. (
    not_begun_stage v e.instruction e.dispatched now e.stage (λ s. OverBy v now (mark_of_entry b)) sound.0.stage,
    not_begun_stage v b.instruction b.dispatched now b.stage (λ s. OverBy v now (mark_of_entry e)) w.stage,
  )) _
      sound.1,
  fresh_pairs v now es sound.1,
)

-- the port is right in every history
pub port_of_history : {v : Values} {steps : List Step} {h : Hardware} → History v steps h → PortOk v h.cycle h
port_of_history (began image start legal) = record { tie = tt; pairs = tt }
port_of_history {v} (went_on {earlier} {old} {new} {lines} {report} before is) =
    let passed = history_passes v before is in
    let ok = in_cycle (port_kept (history_is_legal before) old.cycle) passed (port_of_history before) in
    let d : Hardware = (dispatching lines old).hardware in
    record {
      tie = subst (λ (g : Hardware). AreTied v g.port_free g.rob.entries) (sym passed.others_stay) ok.tie;
      pairs = fresh_pairs v new.cycle _ passed.ends.entries;
    }

-- rows were over before the cycle

row_over : (v : Values) (now D C : ℕ) (i : Option Instr) (x : Option Execution) → C ≤ now →
    IfSome x (IsBetween D C) →
    IfSome (start_of_execution x) (λ s. uses_cache v i s ≡ true → s.cycle + s.cost ≤ now)
row_over v now D C i x le h = grind arith

row_not_begun : (v : Values) (now D C : ℕ) (i : Option Instr) (x : Option Execution) (P : Start → Type 0) → C ≤ now →
    IfSome x (IsBetween D C) → IfSome (start_of_execution x) (λ s. uses_cache v i s ≡ true → s.cycle ≡ now → P s)
row_not_begun v now D C i x P le h = grind arith

over_whenever : (v : Values) (now : ℕ) (m n : Mark) → OverBy v now m →
    WhereUsed v n (λ s. s.cycle ≡ now → OverBy v now m)
over_whenever v now m n over = grind arith

row_pair : (v : Values) (now : ℕ) (row : Row) (n : Mark) → SoundRow v (now + 1) row →
    OneAtATime v now (mark_of_row row) n
row_pair v now row n sound = grind (arith, row_not_begun, over_whenever, row_over)

rows_first : (v : Values) (now : ℕ) (rows : List Row) (ms : List Mark) → Each (SoundRow v (now + 1)) rows →
    EveryPair (OneAtATime v now) ms → EveryPair (OneAtATime v now) (map mark_of_row rows ++ ms)
rows_first v now [] ms sound h = h
rows_first v now (row ∷ rows) ms sound h = grind (arith, Each-all, row_pair, rows_first v now rows ms sound.1 h)

words_last : (v : Values) (now : ℕ) (ms : List Mark) (fs : List Fetched) → EveryPair (OneAtATime v now) ms →
    EveryPair (OneAtATime v now) (ms ++ map mark_of_fetched fs)
words_last v now ms fs h =
    EveryPair-append _ ms _ h (among fs)
    (Each-all _ (λ m. Each-images _ _ (λ f. new_pair v now m (mark_of_fetched f) refl) fs) ms)
  where
    among : (gs : List Fetched) → EveryPair (OneAtATime v now) (map mark_of_fetched gs)
    among [] = tt
    among (g ∷ gs) = (Each-images _ _ (λ f. new_pair v now (mark_of_fetched g) (mark_of_fetched f) refl) gs, among gs)

abbrev PortAfter : Values → ℕ → List Mark → Mark → Type 0
PortAfter v c before m = Each (λ a. OneAtATime v c a m) before

port_marks : {v : Values} {steps : List Step} {h : Hardware} → History v steps h → (c : ℕ) → c < h.cycle →
    EveryAfter (PortAfter v c) [] (as_of c (map mark_of_row (rows_of steps)))
port_marks {v} history =
    rows_obey_after v (PortAfter v)
    (λ earlier old new lines report before after passed.
    let all : List Step = earlier ++ report.steps in
    let now : ℕ = old.cycle in
    let d : Hardware = (dispatching lines old).hardware in
    let ok = in_cycle (port_kept (history_is_legal before) old.cycle) passed (port_of_history before) in
    let es = EveryPair-map _ _ _ ok.pairs in
    rw (passed.new_marks) (EveryAfter-EveryPair _ [] _ tt
    (words_last v now _ passed.fetches.added
    (rows_first v now _ _ passed.dispatches.basics.rows (words_last v now _ d.front.entries es)))))
    history

-- so of two rows

of_rows : (P : Mark → Type 0) (c : ℕ) (rows : List Row) → Each P (as_of c (map mark_of_row rows)) →
    Each (λ a. a.fetched ≤ c → P (at_end c (mark_of_row a))) rows
of_rows P c [] h = tt
of_rows P c (row ∷ rows) h =
    by_stamp (nat_le row.fetched c) refl (subst (Each P) (as_of-cons c (mark_of_row row) (map mark_of_row rows)) h)
    (λ k. of_rows P c rows k)
  where
    by_stamp : (b : Bool) → nat_le row.fetched c ≡ b →
        Each P (cond b (at_end c (mark_of_row row) ∷ as_of c (map mark_of_row rows)) (as_of c (map mark_of_row rows))) →
        (Each P (as_of c (map mark_of_row rows)) → Each (λ a. a.fetched ≤ c → P (at_end c (mark_of_row a))) rows) →
        Each (λ a. a.fetched ≤ c → P (at_end c (mark_of_row a))) (row ∷ rows)
    by_stamp true is k rest = ((λ le. k.0), rest k.1)
    by_stamp false is k rest = ((λ le. absurd (true≢false (sym (le-leb row.fetched c le) ∙ is))), rest k)

every_swap : {X : Type 0} {Q : ℕ → Type 0} (S : ℕ → X → Type 0) (xs : List X) → ((c : ℕ) → Q c → Each (S c) xs) →
    Each (λ x. (c : ℕ) → Q c → S c x) xs
every_swap S [] h = tt
every_swap {Q} S (x ∷ xs) h = ((λ c q. (h c q).0), every_swap S xs (λ c q. (h c q).1))

abbrev start_of : Execution → Start
start_of x = record { cycle = x.issued; cost = x.cost; faults = false }

begun_by : (c : ℕ) (o : Option Execution) (x : Execution) → o ≡ Some x → x.issued ≤ c →
    start_until c (start_of_execution o) ≡ Some (start_of x)
begun_by c o x given le = grind (arith, le-leb)

row_uses : (v : Values) (a : Row) (x : Execution) → a.execution ≡ Some x → uses_port v.forward a ≡ true →
    uses_cache v (instruction_of_row a) (start_of x) ≡ true
row_uses v a x given used = grind (arith, and_from, and_first, and_second)

over_row : (v : Values) (c : ℕ) (a : Row) (x : Execution) → a.execution ≡ Some x → x.issued ≤ c →
    uses_port v.forward a ≡ true → OverBy v c (at_end c (mark_of_row a)) → x.issued + x.cost ≤ c
over_row v c a x given le used over = grind (arith, begun_by, row_uses)

when_row : (v : Values) (c : ℕ) (a : Row) (x : Execution) (P : Start → Type 0) → a.execution ≡ Some x → x.issued ≤ c →
    uses_port v.forward a ≡ true → WhereUsed v (at_end c (mark_of_row a)) P → P (start_of x)
when_row v c a x P given le used h = grind (arith, begun_by, row_uses)

abbrev PortApart : Values → Row → Row → Type 0
PortApart v a b =
    uses_port v.forward a ≡ true → uses_port v.forward b ≡ true →
    IfSome a.execution (λ x. IfSome b.execution (λ y. (x.issued + x.cost ≤ y.issued) ⊎ (y.issued + y.cost ≤ x.issued)))

module _ {v : Values} {bound : ℕ} {a b : Row} (sound_a : SoundRow v bound a) (sound_b : SoundRow v bound b)
    (pair : (c : ℕ) → (c < bound) × (b.fetched ≤ c) → a.fetched ≤ c →
    OneAtATime v c (at_end c (mark_of_row a)) (at_end c (mark_of_row b))) where
  two_apart : (x y : Execution) → a.execution ≡ Some x → b.execution ≡ Some y → uses_port v.forward a ≡ true →
      uses_port v.forward b ≡ true → (x.issued + x.cost ≤ y.issued) ⊎ (y.issued + y.cost ≤ x.issued)
  two_apart x y at at' used used' =
      let between_a = subst (λ o. IfSome o (IsBetween a.dispatched a.retired)) at sound_a.stamps.executed_between in
      let between_b = subst (λ o. IfSome o (IsBetween b.dispatched b.retired)) at' sound_b.stamps.executed_between in
      elim (cases_lt y.issued x.issued) [
        | inl later ↦
            let both = pair x.issued (
              omega (arith, between_a.1, between_a.2, sound_a.below),
              omega (arith, later, between_b.0, sound_b.stamps.dispatched_after_fetch),
            )
            (omega (arith, between_a.0, sound_a.stamps.dispatched_after_fetch)) in
            let over = when_row v x.issued a x
            (λ s. s.cycle ≡ x.issued → OverBy v x.issued (at_end x.issued (mark_of_row b))) at
            (omega arith) used both.0 refl in
            inr (over_row v x.issued b y at' (omega (arith, later)) used' over)
        | inr before ↦
            let both = pair y.issued (
              omega (arith, between_b.1, between_b.2, sound_b.below),
              omega (arith, between_b.0, sound_b.stamps.dispatched_after_fetch),
            )
            (omega (arith, before, between_a.0, sound_a.stamps.dispatched_after_fetch)) in
            let over = when_row v y.issued b y
            (λ s. s.cycle ≡ y.issued → OverBy v y.issued (at_end y.issued (mark_of_row a))) at'
            (omega arith) used' both.1 refl in
            inl (over_row v y.issued a x at (omega (arith, before)) used over)
      ]

  by_executions : {o p : Option Execution} → a.execution ≡ o → b.execution ≡ p → uses_port v.forward a ≡ true →
      uses_port v.forward b ≡ true →
      IfSome o (λ x. IfSome p (λ y. (x.issued + x.cost ≤ y.issued) ⊎ (y.issued + y.cost ≤ x.issued)))
  by_executions given at' used used' = grind (arith, two_apart)

rows_apart : {v : Values} {steps : List Step} {h : Hardware} → History v steps h → (before after : List Row) (b : Row) →
    rows_of steps ≡ before ++ b ∷ after → Each (λ a. PortApart v a b) before
rows_apart {v} {steps} {h} history before after b at =
    let all = subst (Each (SoundRow v h.cycle)) at (history_is_sound history).rows in
    let sound_b : SoundRow v h.cycle b = Each-place _ before after b all in
    Each-both _ (λ a sound_a pair. by_executions sound_a sound_b pair refl refl) before (Each-left _ before _ all)
    (every_swap (λ c a. a.fetched ≤ c → OneAtATime v c (at_end c (mark_of_row a)) (at_end c (mark_of_row b))) before
    (λ c q. of_rows _ c before (after_law _ c before after b (port_marks history c q.0) at q.1)))

-- from places to the recursion
each_after : {X : Type 0} (P : List X → X → Type 0) (before xs all : List X) → all ≡ before ++ xs → EachAfter P all →
    EveryAfter P before xs
each_after P before [] all at h = tt
each_after P before (x ∷ xs) all at h =
    (h before xs x at, each_after P (before ++ x ∷ []) xs all (at ∙ sym (append_assoc before (x ∷ []) xs)) h)

-- the field `port` of `Laws`, over every history
pub law_of_port : {v : Values} {steps : List Step} {h : Hardware} → History v steps h →
    AllPairs (AreApartAtPort v.forward) (rows_of steps)
law_of_port {v} {steps} history =
    AllPairs-EveryPair _ _
    (EveryPair-EveryAfter _ [] _
    (each_after (λ before b. Each (λ a. PortApart v a b) before) [] (rows_of steps) (rows_of steps) refl
    (rows_apart history)))
