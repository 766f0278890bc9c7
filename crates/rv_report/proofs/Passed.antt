-- What is counted of a run for a comparison is what the passages of its instructions say, counted as a profile counts them.
use Rattle.std.proofs.Common.{◌≡◌, ◌∙◌, ℕ, suc, ◌+◌, ◌-◌, ◌^◌, ◌≤◌, ◌<◌, ◌==◌}
use Rattle.std.proofs.Common.{Bool, true, false, cond, List, [], ◌∷◌, ◌++◌}
use Rattle.std.proofs.Common.{length, map, filter, take, drop, count_by, Option}
use Rattle.std.proofs.Common.{Some, None, refl, sym, ap, subst, arith, inl, inr}
use Rattle.std.proofs.Common.{eq-eqb, ne_eqb, ltb-true, length-append, length-drop}
use Rattle.std.specs.Prelude.{if◌then◌else◌}
use Rattle.std.proofs.lemmas.Bool.{cases_Bool}
use Rattle.std.proofs.lemmas.List.{drop-map, length-map}
use Rattle.std.proofs.lemmas.List.Elements.{filter-append}
use Rattle.std.proofs.lemmas.List.Filters.{length-filter_both}
use Rattle.std.proofs.lemmas.List.Sums.{count_by-le-length, length-filter, sum_by-cons}
use Rattle.rv_hardware.proofs.Words.{Each}
use Rattle.rv_isa.specs.declared.{lines.Arrival.Arrival, lines.Lines.Lines}
use Rattle.rv_front.specs.FetchBuffer.{Answers}
use Rattle.rv_front.specs.declared.fetched.Fetched.{Fetched}
use Rattle.rv_rob.specs.declared.entry.Entry.{Entry}
use Rattle.rv_hardware.specs.Cycle.{IsCycle}
use Rattle.rv_hardware.specs.Guided.{GuidedHardware}
use Rattle.rv_hardware.specs.Hardware.{Hardware}
use Rattle.rv_hardware.specs.History.{History, Moment, cycled, ended as no_cycle, reports_of}
use Rattle.rv_hardware.specs.Lessons.{first_pc}
use Rattle.rv_hardware.specs.Onward.{Flight, GoOn, IsFetchedBefore, IsFetchedIn}
use Rattle.rv_hardware.specs.Onward.{IsLater, fetched_now, flights, goes_on, left_by}
use Rattle.rv_hardware.specs.Report.{Report}
use Rattle.rv_hardware.specs.Run.{Reachable, by_cycle, steps_of}
use Rattle.rv_hardware.specs.Step.{is_retirement, is_trap}
use Rattle.rv_hardware.specs.declared.step.Step.{Step}
use Rattle.rv_hardware.specs.declared.step.Step.TheVariants as step
use Rattle.rv_hardware.proofs.AnyPrediction.{any_cycle}
use Rattle.rv_hardware.proofs.Each.{Each-weaker}
use Rattle.rv_hardware.proofs.Marks.History.{Anything, Passed, history_passes, reachable_has_history}
use Rattle.rv_hardware.proofs.Onward.{cycle-goes_on, fetched-before, left_by-each}
use Rattle.rv_passage.specs.Passage.{in_buffers, is_in_flight, is_squash, numbered, of_entry, of_fetched}
use Rattle.rv_passage.specs.Passage.{retired_by, squashed_in, trapped_by}
use Rattle.rv_passage.specs.Prediction.{differ, is_mispredicted, prediction_of}
use Rattle.rv_passage.specs.Producers.{standing_at}
use Rattle.rv_passage.specs.Shown.{Show, more, nothing}
use Rattle.rv_passage.specs.Table.{Passages, after_cycle, next_before, numbered_from}
use Rattle.rv_passage.specs.Table.{still_open, table_at, with_oldest, with_step, with_steps}
use Rattle.rv_hardware.specs.declared.step.Row.{Row}
use Rattle.rv_passage.specs.Walk.{Standing, passages_after, next_cycle, standing_after}
use Rattle.rv_passage.specs.Walk.{standing_after_all, standing_at as standing_before, walk_from}
use Rattle.rv_passage.specs.declared.passage.{Ending.Ending, Passage.Passage}
use Rattle.rv_passage.specs.declared.passage.Ending.TheVariants as ending
use Rattle.rv_passage.proofs.Dropped.{buffers-open}
use Rattle.rv_passage.proofs.InFlight.{length-in_buffers}
use Rattle.rv_passage.proofs.MovesOn.{MovesOn, as_many-moves, fetched, moves_on, squashed, stands, stays}
use Rattle.rv_passage.proofs.Numbers.{open-again}
use Rattle.rv_passage.proofs.Shown.{cycle-shows, hardware-shows, left-show, numbered-show}
use Rattle.rv_passage.proofs.Shown.{open-steps, open-with_oldest, shown-flies}
use Rattle.rv_counts.specs.Left.{left_after, left_in}
use Rattle.rv_counts.specs.Passing.{has_left}
use Rattle.rv_counts.proofs.Among.{filter-among}
use Rattle.rv_counts.proofs.Mispredicted.{differ-none, mispredicted-all}
use Rattle.rv_counts.proofs.PlacesOfCycle.{placed}
use Rattle.rv_report.specs.Speculation.{Speculated, fetched_by, in_flight, oldest}
use Rattle.rv_report.specs.Speculation.{prediction_of_word, speculated_after, speculated_at}
use Rattle.rv_report.specs.Speculation.{speculated_by, speculated_in, without_all, wrong_in}
use Rattle.rv_report.specs.Tally.{losses_of, losses_with}
use Rattle.rv_report.specs.Totals.{counts_of}

-- a step ended it
abbrev is_over : Ending → Bool
is_over ending.InFlight = false
is_over (ending.Retired order cycle written next) = true
is_over (ending.Trapped cycle cause) = true
is_over (ending.Squashed cycle) = false

abbrev was_ended : Passage → Bool
was_ended p = is_over p.ending

abbrev was_squashed : Passage → Bool
was_squashed p = is_squash p.ending

-- how many are so
abbrev many : (Passage → Bool) → List Passage → ℕ
many test ps = length (filter test ps)

-- what was predicted of those in flight
abbrev predicted : List Passage → List (Option ℕ)
predicted ps = map prediction_of (filter is_in_flight ps)

-- none in flight is so
abbrev Fails : (Passage → Bool) → Type 0
Fails test = (p : Passage) → is_in_flight p ≡ true → test p ≡ false

unended : Fails was_ended
unended p flies = grind arith

unsquashed : Fails was_squashed
unsquashed p flies = grind arith

unmissed : Fails is_mispredicted
unmissed p flies = grind (arith, differ-none)

-- ---- the steps of a cycle

length-with : (change : Passage → Passage) (ps : List Passage) → length (with_oldest change ps) ≡ length ps
length-with change [] = refl
length-with change (p ∷ ps) = elim (cases_Bool (is_in_flight p)) [
  | inl flies ↦ rw flies refl
  | inr ended ↦ rw ended (ap suc (length-with change ps))
]

module _ (change : Passage → Passage) (ends : (p : Passage) → is_in_flight (change p) ≡ false) where
  predicted-with : (ps : List Passage) → predicted (with_oldest change ps) ≡ drop 1 (predicted ps)
  predicted-with ps =
      ap (map prediction_of) (open-with_oldest change ends ps) ∙ sym (drop-map prediction_of 1 (filter is_in_flight ps))

  module _ (test : Passage → Bool) (fails : Fails test) where
    -- the oldest in flight is so from then on
    one-with : ((p : Passage) → test (change p) ≡ true) → (ps : List Passage) → 1 ≤ length (predicted ps) →
        many test (with_oldest change ps) ≡ many test ps + 1
    one-with passes [] some = absurd (omega (arith, some))
    one-with passes (p ∷ ps) some = elim (cases_Bool (is_in_flight p)) [
      | inl flies ↦ rw (flies, passes p, fails p flies) (omega arith)
      | inr ended ↦
          let rest = one-with passes ps (rw ended at some) in
          elim (cases_Bool (test p)) [
            | inl holds ↦ rw (ended, holds) (omega (arith, rest))
            | inr fails_here ↦ rw (ended, fails_here) rest
          ]
    ]

    -- or is not
    none-with : ((p : Passage) → test (change p) ≡ false) → (ps : List Passage) →
        many test (with_oldest change ps) ≡ many test ps
    none-with misses [] = refl
    none-with misses (p ∷ ps) = elim (cases_Bool (is_in_flight p)) [
      | inl flies ↦ rw (flies, misses p, fails p flies) refl
      | inr ended ↦ elim (cases_Bool (test p)) [
        | inl holds ↦ rw (ended, holds) (ap suc (none-with misses ps))
        | inr fails_here ↦ rw (ended, fails_here) (none-with misses ps)
      ]
    ]

missed-with : (row : Row) (order next : ℕ) (ps : List Passage) →
    many is_mispredicted (with_oldest (retired_by row order next) ps)
    ≡ many is_mispredicted ps + (if differ (oldest (predicted ps)) (Some next) then 1 else 0)
missed-with row order next [] = refl
missed-with row order next (p ∷ ps) = elim (cases_Bool (is_in_flight p)) [
  | inl flies ↦ elim (cases_Bool (differ (prediction_of p) (Some next))) [
    | inl holds ↦ rw (flies, unmissed p flies, holds) (omega arith)
    | inr fails_here ↦ rw (flies, unmissed p flies, fails_here) (omega arith)
  ]
  | inr ended ↦
      let rest = missed-with row order next ps in
      elim (cases_Bool (is_mispredicted p)) [
        | inl holds ↦ rw (ended, holds) (omega (arith, rest))
        | inr fails_here ↦ rw (ended, fails_here) rest
      ]
]

-- how many instructions they end
abbrev ends : List Step → ℕ
ends [] = 0
ends (step.Retired row ∷ steps) = suc (ends steps)
ends (step.Trap pc cause value cycle ∷ steps) = suc (ends steps)
ends (step.Interrupt pc cause cycle ∷ steps) = ends steps

ends-with : (s : Step) (count : ℕ) (steps : List Step) → count ≡ cond (is_retirement s) 1 0 + cond (is_trap s) 1 0 →
    ends steps ≡ count_by is_retirement steps + count_by is_trap steps →
    count + ends steps ≡ count_by is_retirement (s ∷ steps) + count_by is_trap (s ∷ steps)
ends-with s count steps is others = omega (
  arith,
  is,
  others,
  sum_by-cons (λ s. cond (is_retirement s) 1 0) s steps,
  sum_by-cons (λ s. cond (is_trap s) 1 0) s steps,
)

ends-counted : (steps : List Step) → ends steps ≡ count_by is_retirement steps + count_by is_trap steps
ends-counted [] = refl
ends-counted (step.Retired row ∷ steps) = omega (arith, ends-with (step.Retired row) 1 steps refl (ends-counted steps))
ends-counted (step.Trap pc cause value cycle ∷ steps) =
    omega (arith, ends-with (step.Trap pc cause value cycle) 1 steps refl (ends-counted steps))
ends-counted (step.Interrupt pc cause cycle ∷ steps) =
    omega (arith, ends-with (step.Interrupt pc cause cycle) 0 steps refl (ends-counted steps))

ends-append : (some others : List Step) → ends (some ++ others) ≡ ends some + ends others
ends-append [] others = omega arith
ends-append (step.Retired row ∷ steps) others = omega (arith, ends-append steps others)
ends-append (step.Trap pc cause value cycle ∷ steps) others = omega (arith, ends-append steps others)
ends-append (step.Interrupt pc cause cycle ∷ steps) others = ends-append steps others

length-steps : (steps : List Step) (next : ℕ) (t : Passages) → length (with_steps steps next t).rows ≡ length t.rows
length-steps [] next t = refl
length-steps (step.Retired row ∷ steps) next t =
    length-steps steps next (with_step (step.Retired row) (first_pc steps next) t)
    ∙ length-with (retired_by row t.retired (first_pc steps next)) t.rows
length-steps (step.Trap pc cause value cycle ∷ steps) next t =
    length-steps steps next (with_step (step.Trap pc cause value cycle) (first_pc steps next) t)
    ∙ length-with (trapped_by cause cycle) t.rows
length-steps (step.Interrupt pc cause cycle ∷ steps) next t =
    length-steps steps next (with_step (step.Interrupt pc cause cycle) (first_pc steps next) t)

predicted-steps : (steps : List Step) (next : ℕ) (t : Passages) →
    predicted (with_steps steps next t).rows ≡ without_all steps (predicted t.rows)
predicted-steps [] next t = refl
predicted-steps (step.Retired row ∷ steps) next t =
    predicted-steps steps next (with_step (step.Retired row) (first_pc steps next) t)
    ∙ ap (without_all steps) (predicted-with (retired_by row t.retired (first_pc steps next)) (λ p. refl) t.rows)
predicted-steps (step.Trap pc cause value cycle ∷ steps) next t =
    predicted-steps steps next (with_step (step.Trap pc cause value cycle) (first_pc steps next) t)
    ∙ ap (without_all steps) (predicted-with (trapped_by cause cycle) (λ p. refl) t.rows)
predicted-steps (step.Interrupt pc cause cycle ∷ steps) next t =
    predicted-steps steps next (with_step (step.Interrupt pc cause cycle) (first_pc steps next) t)

missed-steps : (steps : List Step) (next : ℕ) (t : Passages) → many is_mispredicted (with_steps steps next t).rows
    ≡ many is_mispredicted t.rows + wrong_in steps next (predicted t.rows)
missed-steps [] next t = omega arith
missed-steps (step.Retired row ∷ steps) next t =
    let change = retired_by row t.retired (first_pc steps next) in
    omega (
      arith,
      missed-steps steps next (with_step (step.Retired row) (first_pc steps next) t),
      ap (wrong_in steps next) (predicted-with change (λ p. refl) t.rows),
      missed-with row t.retired (first_pc steps next) t.rows,
    )
missed-steps (step.Trap pc cause value cycle ∷ steps) next t = omega (
  arith,
  missed-steps steps next (with_step (step.Trap pc cause value cycle) (first_pc steps next) t),
  ap (wrong_in steps next) (predicted-with (trapped_by cause cycle) (λ p. refl) t.rows),
  none-with (trapped_by cause cycle) (λ p. refl) is_mispredicted unmissed (λ p. differ-none (prediction_of p)) t.rows,
)
missed-steps (step.Interrupt pc cause cycle ∷ steps) next t =
    omega (arith, missed-steps steps next (with_step (step.Interrupt pc cause cycle) (first_pc steps next) t))

ended-steps : (steps : List Step) (next : ℕ) (t : Passages) → ends steps ≤ length (predicted t.rows) →
    many was_ended (with_steps steps next t).rows ≡ many was_ended t.rows + ends steps
ended-steps [] next t few = omega arith
ended-steps (step.Retired row ∷ steps) next t few =
    let change = retired_by row t.retired (first_pc steps next) in
    let left = ap length (predicted-with change (λ p. refl) t.rows) in
    omega (
      arith,
      ended-steps steps next (with_step (step.Retired row) (first_pc steps next) t)
          (omega (arith, few, left, length-drop 1 (predicted t.rows))),
      one-with change (λ p. refl) was_ended unended (λ p. refl) t.rows (omega (arith, few)),
    )
ended-steps (step.Trap pc cause value cycle ∷ steps) next t few =
    let left = ap length (predicted-with (trapped_by cause cycle) (λ p. refl) t.rows) in
    omega (
      arith,
      ended-steps steps next (with_step (step.Trap pc cause value cycle) (first_pc steps next) t)
          (omega (arith, few, left, length-drop 1 (predicted t.rows))),
      one-with (trapped_by cause cycle) (λ p. refl) was_ended unended (λ p. refl) t.rows (omega (arith, few)),
    )
ended-steps (step.Interrupt pc cause cycle ∷ steps) next t few =
    ended-steps steps next (with_step (step.Interrupt pc cause cycle) (first_pc steps next) t) few

-- ---- its end

length-numbered : (number : ℕ) (ps : List Passage) → length (numbered_from number ps) ≡ length ps
length-numbered number [] = refl
length-numbered number (p ∷ ps) = ap suc (length-numbered (number + 1) ps)

module _ (cycle : ℕ) where
  -- those that were fetched in it
  abbrev fresh : List Passage → List Passage
  fresh now = filter (λ (p : Passage). p.fetched == cycle) now

  fresh-all : {fs : List Flight} {now : List Passage} → Each (IsFetchedIn cycle) fs → Show fs now → fresh now ≡ now
  fresh-all new nothing = refl
  fresh-all new (more {p = n} {ps = now} shows rest) =
      rw (eq-eqb n.fetched cycle (shows.fetched ∙ new.0)) (ap (λ l. n ∷ l) (fresh-all new.1 rest))

  few-fresh : (now : List Passage) → length (fresh now) ≤ length now
  few-fresh now = grind (arith, length-filter, fetched, count_by-le-length)

  numbered-predicted : (number : ℕ) {fs : List Flight} {ps : List Passage} → Show fs ps →
      predicted (numbered_from number ps) ≡ map prediction_of ps
  numbered-predicted number nothing = refl
  numbered-predicted number (more {p = p} shows rest) =
      rw (shown-flies shows) (ap (λ l. prediction_of p ∷ l) (numbered-predicted (number + 1) rest))

  -- where all that is in flight then was fetched in it, nothing stands
  moved-new : {number : ℕ} {ps now rows : List Passage} {fs : List Flight} → MovesOn cycle number ps now rows →
      Each (IsFetchedIn cycle) fs → Show fs now →
      (predicted rows ≡ map prediction_of now) × (length rows ≡ length ps + length now)
  moved-new {number} (fetched {now}) new here =
      (numbered-predicted number here, omega (arith, length-numbered number now))
  moved-new (stays ended moves) new here =
      let rest = moved-new moves new here in (rw ended rest.0, omega (arith, rest.1))
  moved-new (squashed flies none moves) new here =
      let rest = moved-new moves new here in (rest.0, omega (arith, rest.1))
  moved-new (stands {n = n} older flies before moves) new (more is here) =
      absurd (omega (arith, ltb-true n.fetched cycle before, is.fetched, new.0))

  -- of what was predicted of those in flight before, so much is kept as was not fetched in it, and that follows
  record Moved (ps now rows : List Passage) : Type 0 where
    predictions : predicted rows
        ≡ take (length now - length (fresh now)) (predicted ps) ++ map prediction_of (fresh now)
    count : length rows ≡ length ps + length (fresh now)

  one-stands : {ps now rows : List Passage} (p n : Passage) (older : List Passage) → Moved ps now rows →
      is_in_flight p ≡ true → is_in_flight n ≡ true → n.fetched < cycle → n.instruction ≡ p.instruction →
      Moved (p ∷ ps) (n ∷ now) (standing_at older n p ∷ rows)
  one-stands {ps} {now} {rows} p n older rest flies still before same = grind (arith, fetched, few-fresh, stands)

  -- one that goes on is not squashed
  goes-first : {f : Flight} {news : List Flight} {now : List Passage} → Show (f ∷ news) now →
      next_before cycle now ≡ None →
      f.fetched < cycle → ⊥
  goes-first given none before = grind (arith, more, fetched)

  abbrev Moves : List Passage → List Passage → List Passage → Type 0
  Moves ps now rows = (olds news : List Flight) → GoOn cycle olds news → Each (IsFetchedBefore cycle) olds →
      Show olds (filter is_in_flight ps) → Show news now → Moved ps now rows

  next-stands : {ps now rows : List Passage} (p n : Passage) (older : List Passage) → Moves ps now rows →
      is_in_flight p ≡ true → {o f : Flight} {olds news : List Flight} → IsLater o f → GoOn cycle olds news →
      Each (IsFetchedBefore cycle) (o ∷ olds) → Show (o ∷ olds) (p ∷ filter is_in_flight ps) →
      Show (f ∷ news) (n ∷ now) → Moved (p ∷ ps) (n ∷ now) (standing_at older n p ∷ rows)
  next-stands p n older others flies later goes before (more was rest) (more is here) =
      one-stands p n older (others _ _ goes before.1 rest here) flies (shown-flies is)
      (omega (arith, is.fetched, later.fetched, before.0)) (is.instruction ∙ later.instruction ∙ sym was.instruction)

  moved : {number : ℕ} {ps now rows : List Passage} → MovesOn cycle number ps now rows → Moves ps now rows
  moved {ps = ps} {now} moves olds news (fetched_now new) before show here =
      let all = fresh-all new here in
      let rest = moved-new moves new here in
      let none : length now - length (fresh now) ≡ 0 = omega (arith, ap length all) in
      record {
        predictions = rest.0 ∙ (λ i. take (sym none i) (predicted ps) ++ map prediction_of (sym all i));
        count = omega (arith, rest.1, ap length all);
      }
  moved fetched olds news (goes_on later goes) before show here = elim show [ ]
  moved (stays ended moves) olds news (goes_on later goes) before show here =
      let rest = moved moves _ _ (goes_on later goes) before (rw ended at show) here in
      record { predictions = rw ended rest.predictions; count = omega (arith, rest.count) }
  moved (squashed flies none moves) olds news (goes_on later goes) before show here =
      absurd (goes-first here none (omega (arith, later.fetched, before.0)))
  moved (stands {p} {n} older flies first moves) olds news (goes_on later goes) before show here =
      next-stands p n older (moved moves) flies later goes before (rw flies at show) here

  -- what none in flight is, and nothing squashed, is none but those that were so before
  many-numbered : (test : Passage → Bool) → Fails test → (number : ℕ) {fs : List Flight} {ps : List Passage} →
      Show fs ps →
      many test (numbered_from number ps) ≡ 0
  many-numbered test fails number nothing = refl
  many-numbered test fails number (more {p = p} shows rest) =
      rw (fails (numbered number p) (shown-flies shows)) (many-numbered test fails (number + 1) rest)

  many-moved : (test : Passage → Bool) → Fails test → ((p : Passage) → test (squashed_in cycle p) ≡ false) →
      {number : ℕ} {ps now rows : List Passage} {fs : List Flight} → MovesOn cycle number ps now rows → Show fs now →
      many test rows ≡ many test ps
  many-moved test fails never {number} fetched here = many-numbered test fails number here
  many-moved test fails never (stays {p} ended moves) here = grind (arith, many-moved test fails never moves here)
  many-moved test fails never (squashed {p} flies none moves) here =
      rw (never p, fails p flies) (many-moved test fails never moves here)
  many-moved test fails never (stands {p} {n} older flies first moves) (more is here) =
      rw (fails (standing_at older n p) (shown-flies is), fails p flies) (many-moved test fails never moves here)

  -- what was fetched in it stands in the fetch buffer
  fresh-words : (words : List Fetched) →
      fresh (map of_fetched words) ≡ map of_fetched (filter (λ (f : Fetched). f.cycle == cycle) words)
  fresh-words [] = refl
  fresh-words (f ∷ words) = grind (arith, fresh-words words)

  fresh-buffers : (entries : List Entry) (words : List Fetched) → Each (λ (e : Entry). e.fetched < cycle) entries →
      fresh (map of_entry entries ++ map of_fetched words)
      ≡ map of_fetched (filter (λ (f : Fetched). f.cycle == cycle) words)
  fresh-buffers [] words before = fresh-words words
  fresh-buffers (e ∷ entries) words before =
      rw (ne_eqb e.fetched cycle (omega (arith, before.0))) (fresh-buffers entries words before.1)

-- ---- those that left the hardware

left-parts : (ps : List Passage) → length (filter has_left ps) ≡ many was_ended ps + many was_squashed ps
left-parts [] = refl
left-parts (p ∷ ps) = part p.ending refl (left-parts ps) where
  part : (e : Ending) → p.ending ≡ e → length (filter has_left ps) ≡ many was_ended ps + many was_squashed ps →
      length (filter has_left (p ∷ ps)) ≡ many was_ended (p ∷ ps) + many was_squashed (p ∷ ps)
  part ending.InFlight is rest = rw is rest
  part (ending.Retired order cycle written next) is rest = rw is (omega (arith, rest))
  part (ending.Trapped cycle cause) is rest = rw is (omega (arith, rest))
  part (ending.Squashed cycle) is rest = rw is (omega (arith, rest))

module _ (test : Passage → Bool) where
  many-append : (some others : List Passage) → many test (some ++ others) ≡ many test some + many test others
  many-append some others =
      ap length (filter-append test some others) ∙ length-append (filter test some) (filter test others)

  module _ (fails : Fails test) where
    -- none is so that did not leave
    many-left : (ps : List Passage) → many test (filter has_left ps) ≡ many test ps
    many-left ps = grind (arith, filter-among)

    many-open : (ps : List Passage) → many test (filter is_in_flight ps) ≡ 0
    many-open [] = refl
    many-open (p ∷ ps) = elim (cases_Bool (is_in_flight p)) [
      | inl flies ↦ rw flies (rw (fails p flies) (many-open ps))
      | inr ended ↦ rw ended (many-open ps)
    ]

-- ---- what is counted

-- of what is in flight
record Keeps (h : Hardware) (t : Passages) (s : Speculated) : Type 0 where
  all_open : filter is_in_flight t.rows ≡ t.rows
  shows : Show (flights h) (filter is_in_flight t.rows)
  count : length t.rows ≡ in_flight h.rob h.front
  predictions : s.predictions ≡ predicted t.rows

none-open : {h : Hardware} {t : Passages} {s : Speculated} → Keeps h t s → (test : Passage → Bool) → Fails test →
    many test t.rows ≡ 0
none-open {t = t} keeps test fails = ap (many test) (sym keeps.all_open) ∙ many-open test fails t.rows

-- of what left the hardware in some cycles, where so many were in flight before them and after them
record IsCounted (before after : Speculated) (old new : ℕ) (steps : List Step) (left : List Passage) : Type 0 where
  fetched : after.fetched + old ≡ before.fetched + length left + new
  mispredicted : after.mispredicted ≡ before.mispredicted + many is_mispredicted left
  ended : length left ≡ ends steps + many was_squashed left

map-words : (words : List Fetched) → map prediction_of (map of_fetched words) ≡ map prediction_of_word words
map-words [] = refl
map-words (f ∷ words) = ap (λ l. prediction_of_word f ∷ l) (map-words words)

-- one cycle
module _ {answers : Answers} {lines : Lines} {old new : Hardware} {report : Report} (reached : Reachable old)
    (passes : IsCycle answers lines old report new) (number : ℕ) (number_is : number ≡ old.cycle) (t : Passages)
    (s : Speculated) (keeps : Keeps old t s) where
  abbrev full : Passages
  full = after_cycle number report.steps new t

  abbrev stepped : Passages
  stepped = with_steps report.steps new.pc t

  abbrev now : List Passage
  now = in_buffers new.rob new.front

  abbrev words : List Fetched
  words = fetched_by number new.front

  moves : MovesOn number stepped.fetched stepped.rows now full.rows
  moves = moves_on number stepped.fetched [] stepped.rows now

  moved_now : Moved number stepped.rows now full.rows
  moved_now = moved number moves _ _
      (subst (λ n. GoOn n (left_by report.steps (flights old)) (flights new)) (sym number_is) (cycle-goes_on passes))
      (left_by-each (IsFetchedBefore number) report.steps (flights old)
      (subst (λ n. Each (IsFetchedBefore n) (flights old)) (sym number_is) (fetched-before reached)))
      (subst (Show (left_by report.steps (flights old))) (sym (open-steps report.steps new.pc t))
      (left-show report.steps keeps.shows)) (hardware-shows new)

  fresh_is : fresh number now ≡ map of_fetched words
  fresh_is =
      let next = ap (λ (h : Hardware). h.cycle) passes.others_stay in
      let before = reachable_has_history reached in
      let passed : Passed before.0 Anything before.1 lines old report new =
      history_passes before.0 before.2 (any_cycle passes) in
      fresh-buffers number new.rob.entries new.front.entries
      (Each-weaker _ (λ (e : Entry). e.fetched < number)
      (λ e w. omega (arith, w.after_fetch, w.by_now, number_is, next)) new.rob.entries passed.ends.entries)

  -- no more end by its steps than were in flight
  few_end : ends report.steps ≤ length t.rows
  few_end =
      let is = placed reached (any_cycle passes) in
      omega (
        arith,
        ends-counted report.steps,
        is.add_up,
        is.within,
        is.dispatched,
        count_by-le-length (λ (e : Entry). e.dispatched == old.cycle) new.rob.entries,
        keeps.count,
      )

  abbrev after : Speculated
  after = speculated_after number report.steps new.rob new.front new.pc s

  cycle-counted : IsCounted s after (length t.rows) (length (still_open full).rows) report.steps
      (filter has_left full.rows)
  cycle-counted =
      let squash = many-left was_squashed unsquashed full.rows in
      let missed = many-moved number is_mispredicted unmissed (λ p. differ-none (prediction_of p)) moves
      (hardware-shows new) in
      let over = many-moved number was_ended unended (λ p. refl) moves (hardware-shows new) in
      let some = ap length (ap (map prediction_of) keeps.all_open) ∙ length-map t.rows prediction_of in
      record {
        fetched = omega (
          arith,
          moved_now.count,
          length-steps report.steps new.pc t,
          ap length fresh_is,
          length-map words of_fetched,
          length-filter_both is_in_flight has_left (λ p. refl) full.rows,
        );
        mispredicted = omega (
          arith,
          many-left is_mispredicted unmissed full.rows,
          missed,
          missed-steps report.steps new.pc t,
          none-open keeps is_mispredicted unmissed,
          ap (wrong_in report.steps new.pc) keeps.predictions,
        );
        ended = omega (
          arith,
          left-parts full.rows,
          squash,
          over,
          ended-steps report.steps new.pc t (omega (arith, few_end, some)),
          none-open keeps was_ended unended,
        );
      }

  cycle-keeps : Keeps new (still_open full) after
  cycle-keeps =
      let again = open-again full.rows in
      let sizes : in_flight new.rob new.front - length words ≡ length now - length (fresh number now) =
      omega (arith, length-in_buffers new.rob new.front, ap length fresh_is, length-map words of_fetched) in
      let kept : without_all report.steps s.predictions ≡ predicted stepped.rows =
      ap (without_all report.steps) keeps.predictions ∙ sym (predicted-steps report.steps new.pc t) in
      let news : map prediction_of_word words ≡ map prediction_of (fresh number now) =
      sym (map-words words) ∙ ap (map prediction_of) (sym fresh_is) in
      record {
        all_open = again;
        shows = subst (Show (flights new)) (sym again) (cycle-shows passes number_is t keeps.shows);
        count = as_many-moves moves (buffers-open new.rob new.front) ∙ length-in_buffers new.rob new.front;
        predictions = (λ i. take (sizes i) (kept i) ++ news i) ∙ sym moved_now.predictions
            ∙ ap (map prediction_of) (sym again);
      }

cycles_on : {arrivals : List Arrival} {old new : GuidedHardware} {moments : List Moment} →
    History arrivals old moments new → old.hardware.cycle ≤ new.hardware.cycle
cycles_on no_cycle = omega arith
cycles_on (cycled first rest) = omega (arith, ap (λ (h : Hardware). h.cycle) first.cycle.others_stay, cycles_on rest)

-- the cycles of a history
run-counted : {arrivals : List Arrival} {old new : GuidedHardware} {moments : List Moment} → Reachable old.hardware →
    History arrivals old moments new → new.hardware.cycle ≤ 2 ^ 40 → (standing : Standing) →
    standing.number ≡ old.hardware.cycle → (s : Speculated) → Keeps old.hardware standing.kept s →
    let last = (standing_after_all still_open standing moments).kept in
    IsCounted s (speculated_in s moments) (length standing.kept.rows) (length last.rows) (steps_of (reports_of moments))
    (left_in (walk_from still_open standing moments))
    × Keeps new.hardware last (speculated_in s moments)
run-counted reached no_cycle within standing number s keeps =
    (record { fetched = omega arith; mispredicted = omega arith; ended = omega arith }, keeps)
run-counted {arrivals} reached (cycled {moment = moment} {moments = moments} first rest)
    within standing number s keeps =
    let one = cycle-counted reached first.cycle standing.number number standing.kept s keeps in
    let next = next_cycle standing moment in
    let left = filter has_left next.passages.rows in
    let later = left_in (walk_from still_open (standing_after still_open next) moments) in
    let next_number = ap (λ (h : Hardware). h.cycle) first.cycle.others_stay in
    let same : speculated_after standing.number moment.report.steps moment.after.rob
    moment.after.front moment.after.pc s
    ≡ speculated_by moment s =
    ap (λ n. speculated_after n moment.report.steps moment.after.rob moment.after.front moment.after.pc s)
    (omega (arith, number, next_number)) in
    let keeps_on = subst (Keeps moment.after (still_open next.passages)) same
    (cycle-keeps reached first.cycle standing.number number standing.kept s keeps) in
    let others = run-counted
    (by_cycle reached (omega (arith, within, next_number, cycles_on rest)) (any_cycle first.cycle)) rest within
    (standing_after still_open next) refl (speculated_by moment s) keeps_on in (
      record {
        fetched = omega (
          arith,
          one.fetched,
          ap (λ (s : Speculated). s.fetched) same,
          others.0.fetched,
          length-append later left,
        );
        mispredicted = omega (
          arith,
          one.mispredicted,
          ap (λ (s : Speculated). s.mispredicted) same,
          others.0.mispredicted,
          many-append is_mispredicted later left,
        );
        ended = omega (
          arith,
          one.ended,
          others.0.ended,
          length-append later left,
          many-append was_squashed later left,
          ends-append moment.report.steps (steps_of (reports_of moments)),
        );
      },
      others.1,
    )

-- ---- a run

numbered-open : (number : ℕ) {fs : List Flight} {ps : List Passage} → Show fs ps →
    filter is_in_flight (numbered_from number ps) ≡ numbered_from number ps
numbered-open number nothing = refl
numbered-open number (more {p = p} shows rest) =
    rw (shown-flies shows) (ap (λ l. numbered number p ∷ l) (numbered-open (number + 1) rest))

begins : (h : Hardware) → Keeps h (table_at h) (speculated_at h)
begins h =
    let all = numbered-open 0 (hardware-shows h) in
    record {
      all_open = all;
      shows = numbered-show 0 (hardware-shows h);
      count = length-numbered 0 (in_buffers h.rob h.front) ∙ length-in_buffers h.rob h.front;
      predictions = ap (map prediction_of) (sym all);
    }

-- what a run lost by what was counted of it is what its passages say
pub losses-passed : {arrivals : List Arrival} {old new : GuidedHardware} {moments : List Moment} →
    Reachable old.hardware →
    History arrivals old moments new → new.hardware.cycle ≤ 2 ^ 40 →
    losses_with (speculated_in (speculated_at old.hardware) moments) (counts_of (steps_of (reports_of moments)))
    (in_flight new.hardware.rob new.hardware.front)
    ≡ losses_of old.hardware moments
losses-passed {old = old} {new} {moments} reached passes within =
    let counted = run-counted reached passes within (standing_before old.hardware) refl (speculated_at old.hardware)
    (begins old.hardware) in
    let kept = (passages_after still_open old.hardware moments).rows in
    let left = left_after old.hardware moments in
    let losses = losses_of old.hardware moments in
    let mispredicted : (speculated_in (speculated_at old.hardware) moments).mispredicted ≡ losses.mispredicted = omega (
      arith,
      counted.0.mispredicted,
      many-append is_mispredicted kept left,
      none-open counted.1 is_mispredicted unmissed,
      length-filter is_mispredicted (kept ++ left),
      mispredicted-all (kept ++ left),
    ) in
    let squashed : (losses_with (speculated_in (speculated_at old.hardware) moments)
    (counts_of (steps_of (reports_of moments)))
    (in_flight new.hardware.rob new.hardware.front)).squashed ≡ losses.squashed = omega (
      arith,
      counted.0.fetched,
      counted.0.ended,
      counted.1.count,
      ends-counted (steps_of (reports_of moments)),
      many-append was_squashed kept left,
      none-open counted.1 was_squashed unsquashed,
      length-filter was_squashed (kept ++ left),
    ) in
    λ i. record { mispredicted = mispredicted i; squashed = squashed i }
