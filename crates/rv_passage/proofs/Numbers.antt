-- What a table knows after a further cycle that knew by their numbers alone which instructions were in flight before it.
use Rattle.std.proofs.Common.{◌≡◌, ◌∙◌, ℕ, zero, suc, ◌+◌, ◌-◌, ◌≤◌, nat_lt, if◌then◌else◌, true, false, List, [], ◌∷◌}
use Rattle.std.proofs.Common.{◌++◌, length, filter, map, take, drop, is_some, None, refl, sym, ap, arith, inl, inr}
use Rattle.std.proofs.lemmas.Bool.{cases_Bool}
use Rattle.std.proofs.lemmas.List.{drop-drop, length-map}
use Rattle.std.proofs.lemmas.List.Elements.{All-append, All-drop, All-map, All-tail, All-take, filter-append}
use Rattle.std.proofs.lemmas.List.Elements.{filter_passes}
use Rattle.std.specs.List.{All}
use Rattle.rv_front.specs.FetchBuffer.{FetchBuffer}
use Rattle.rv_hardware.specs.declared.step.Step.{Step}
use Rattle.rv_hardware.specs.declared.step.Step.TheVariants as step
use Rattle.rv_rob.specs.ReorderBuffer.{ReorderBuffer}
use Rattle.rv_passage.specs.Numbers.{Numbers, kept_through, numbers_in_flight, numbers_of, plain, plainly}
use Rattle.rv_passage.specs.Passage.{in_buffers, is_in_flight, numbered, of_entry, of_fetched}
use Rattle.rv_passage.specs.Table.{Passages, after_steps, at_the_end, next_before, numbered_from, still_open}
use Rattle.rv_passage.specs.Table.{with_fetched, with_oldest, with_rows, with_step}
use Rattle.rv_passage.specs.declared.passage.Passage.{Passage}
use Rattle.rv_passage.proofs.Moving.{length-numbered_from}
use Rattle.rv_passage.proofs.MovesOn.{MovesOn, fetched, moves_on, squashed, stands, stays}
use Rattle.rv_passage.proofs.View.{same_cycle}

-- ---- instructions that are all in flight

abbrev Flies : Passage → Type 0
Flies p = is_in_flight p ≡ true

filter-flies : (ps : List Passage) → All Flies ps → filter is_in_flight ps ≡ ps
filter-flies [] all = refl
filter-flies (p ∷ ps) all =
    let flies : is_in_flight p ≡ true = all 0 p (omega arith) in
    rw flies (ap (λ l. p ∷ l) (filter-flies ps (All-tail Flies p ps all)))

-- of those in flight all are in flight
pub open-again : (ps : List Passage) → filter is_in_flight (filter is_in_flight ps) ≡ filter is_in_flight ps
open-again ps = filter-flies (filter is_in_flight ps) (filter_passes is_in_flight ps)

-- all that is in the buffers is in flight
buffers-fly : (rob : ReorderBuffer) (front : FetchBuffer) → All Flies (in_buffers rob front)
buffers-fly rob front =
    All-append Flies (map of_entry rob.entries) (map of_fetched front.entries)
    (All-map Flies of_entry rob.entries (λ k d within. refl))
    (All-map Flies of_fetched front.entries (λ k d within. refl))

numbered-fly : (number : ℕ) (ps : List Passage) → All Flies ps →
    filter is_in_flight (numbered_from number ps) ≡ numbered_from number ps
numbered-fly number [] all = refl
numbered-fly number (p ∷ ps) all =
    let flies : is_in_flight p ≡ true = all 0 p (omega arith) in
    rw flies (ap (λ l. numbered number p ∷ l) (numbered-fly (number + 1) ps (All-tail Flies p ps all)))

-- ---- a cycle by the numbers of what was in flight before it

module _ (change : Passage → Passage) (ends : (p : Passage) → is_in_flight (change p) ≡ false) where
  numbers-with_oldest : (ps : List Passage) → numbers_in_flight (with_oldest change ps) ≡ drop 1 (numbers_in_flight ps)
  numbers-with_oldest [] = refl
  numbers-with_oldest (p ∷ ps) = grind (arith, numbers-with_oldest ps)

-- the numbers after a step
abbrev after_step : Step → Numbers → Numbers
after_step (step.Retired row) ns = record ns { in_flight = drop 1 ns.in_flight; retired = ns.retired + 1 }
after_step (step.Trap pc cause value cycle) ns = record ns { in_flight = drop 1 ns.in_flight }
after_step (step.Interrupt pc cause cycle) ns = ns

step-numbers : (s : Step) (next : ℕ) (t : Passages) → numbers_of (with_step s next t) ≡ after_step s (numbers_of t)
step-numbers s next t = grind (arith, numbers-with_oldest, fetched)

-- those that are in flight at its end: what goes on under the numbers before it, and what was fetched in it
abbrev carried : ℕ → ℕ → List Passage → List ℕ → List Passage
carried cycle number now [] = numbered_from number now
carried cycle number now (m ∷ ns) =
    if is_some (next_before cycle now) then map (numbered m) (take 1 now) ++ carried cycle number (drop 1 now) ns
    else numbered_from number now

carried-none : (cycle number : ℕ) (now : List Passage) (ns : List ℕ) → next_before cycle now ≡ None →
    carried cycle number now ns ≡ numbered_from number now
carried-none cycle number now [] none = refl
carried-none cycle number now (m ∷ ns) none = rw none refl

kept-none : (cycle : ℕ) (now : List Passage) (count : ℕ) → next_before cycle now ≡ None →
    kept_through cycle now count ≡ 0
kept-none cycle now zero none = refl
kept-none cycle now (suc count) none = rw none refl

-- they are these, whatever else the passages before it said
seen-moves : {cycle number : ℕ} {ps now rows : List Passage} → MovesOn cycle number ps now rows → All Flies now →
    map plain (filter is_in_flight rows) ≡ map plain (carried cycle number now (numbers_in_flight ps))
seen-moves {number = number} (fetched {now}) all = ap (map plain) (numbered-fly number now all)
seen-moves (stays ended more) all = rw ended (seen-moves more all)
seen-moves {cycle} {number} (squashed {p} {ps} {now} flies none more) all =
    rw (flies, none) (seen-moves more all ∙ ap (map plain) (carried-none cycle number now (numbers_in_flight ps) none))
seen-moves (stands {p} {n} older {now = now} flies before more) all =
    let still : is_in_flight n ≡ true = all 0 n (omega arith) in
    rw (flies, before, still) (ap (λ l. plain (numbered p.number n) ∷ l) (seen-moves more (All-tail Flies n now all)))

-- and so many more rows there are
length-moves : {cycle number : ℕ} {ps now rows : List Passage} → MovesOn cycle number ps now rows →
    length rows ≡ length ps + length (drop (kept_through cycle now (length (numbers_in_flight ps))) now)
length-moves {number = number} (fetched {now}) = omega (arith, length-numbered_from number now)
length-moves (stays ended more) = rw ended (omega (arith, length-moves more))
length-moves {cycle} (squashed {ps = ps} {now = now} flies none more) =
    let none_kept = ap (λ k. length (drop k now)) (kept-none cycle now (length (numbers_in_flight ps)) none) in
    rw (flies, none) (omega (arith, length-moves more, none_kept))
length-moves (stands older flies before more) = rw (flies, before) (omega (arith, length-moves more))

abbrev number : Passage → ℕ
number p = p.number

-- all that is known of a table by numbers where its rows are in flight
abbrev all_numbers : Passages → Numbers
all_numbers t = record { in_flight = map number t.rows; fetched = t.fetched; retired = t.retired }

open-numbers : (t : Passages) → numbers_of (still_open t) ≡ numbers_of t
open-numbers t = λ i. record { in_flight = map number (open-again t.rows i); fetched = t.fetched; retired = t.retired }

plain-numbers : (t : Passages) → all_numbers (plainly t) ≡ all_numbers t
plain-numbers t = λ i. record { in_flight = same t.rows i; fetched = t.fetched; retired = t.retired } where
  same : (ps : List Passage) → map number (map plain ps) ≡ map number ps
  same [] = refl
  same (p ∷ ps) = ap (λ l. p.number ∷ l) (same ps)

-- of rows in flight the first so many and what was fetched are the same by numbers
kept-carried : (cycle first : ℕ) (now rows : List Passage) → let kept = kept_through cycle now (length rows) in
    let renewed = take kept rows ++ numbered_from first (drop kept now) in
    map number renewed ≡ map number (carried cycle first now (map number rows))
kept-carried cycle first now [] = refl
kept-carried cycle first [] (r ∷ rows) = refl
kept-carried cycle first (n ∷ now) (r ∷ rows) = grind (arith, kept-carried cycle first now rows)

module _ (cycle : ℕ) (rob : ReorderBuffer) (front : FetchBuffer) where
  abbrev now : List Passage
  now = in_buffers rob front

  -- what is in flight at its end
  abbrev ended_by : Numbers → Passages
  ended_by ns = record {
    rows = carried cycle ns.fetched now ns.in_flight;
    interrupts = [];
    fetched = ns.fetched + length (drop (kept_through cycle now (length ns.in_flight)) now);
    retired = ns.retired;
  }

  end-seen : (t : Passages) → plainly (still_open (at_the_end cycle now t)) ≡ plainly (ended_by (numbers_of t))
  end-seen t = grind (arith, moves_on, fetched, seen-moves, buffers-fly, length-moves)

  -- so the oldest of a table that go on, and those that were fetched, are known by numbers
  pub numbers_kept : (t : Passages) → let rows = filter is_in_flight t.rows in
      let kept = kept_through cycle now (length rows) in
      let renewed = with_fetched (drop kept now) (with_rows (take kept rows) (still_open t)) in
      numbers_of renewed ≡ numbers_of (still_open (at_the_end cycle now t))
  numbers_kept t =
      let rows = filter is_in_flight t.rows in
      let kept = kept_through cycle now (length rows) in
      let first = filter-flies (take kept rows) (All-take Flies kept rows (filter_passes is_in_flight t.rows)) in
      let others = numbered-fly t.fetched (drop kept now) (All-drop Flies kept now (buffers-fly rob front)) in
      let opened =
      filter-append is_in_flight (take kept rows) (numbered_from t.fetched (drop kept now))
      ∙ (λ i. first i ++ others i) in
      let known = ap (map number) opened ∙ kept-carried cycle t.fetched now rows in
      let count = ap (λ k. t.fetched + length (drop (kept_through cycle now k) now)) (sym (length-map rows number)) in
      (λ i. record { in_flight = known i; fetched = count i; retired = t.retired })
      ∙ sym (plain-numbers (ended_by (numbers_of t))) ∙ ap all_numbers (sym (end-seen t))
      ∙ plain-numbers (still_open (at_the_end cycle now t)) ∙ sym (open-numbers (at_the_end cycle now t))

  module _ (steps : List Step) (pc : ℕ) where
    abbrev after : Passages → Passages
    after t = after_steps cycle steps rob front pc t

    -- after a further cycle, where the same numbers were known, all is known but what is noted once
    pub plain_by_numbers : (t t' : Passages) → numbers_of t ≡ numbers_of t' →
        plainly (still_open (after t)) ≡ plainly (still_open (after t'))
    plain_by_numbers =
        same_cycle numbers_of (λ t. plainly (still_open t)) (λ s next. after_step s) (λ ns. plainly (ended_by ns))
        step-numbers cycle rob front end-seen steps pc

    -- so are the numbers, of all that was in flight before it, too
    pub numbers_now : (t t' : Passages) → numbers_of t ≡ numbers_of t' → numbers_of (after t) ≡ numbers_of (after t')
    numbers_now t t' same =
        sym (plain-numbers (still_open (after t))) ∙ ap all_numbers (plain_by_numbers t t' same)
        ∙ plain-numbers (still_open (after t'))

    -- and so are the numbers of the tables without those that ended
    pub numbers_on : (t t' : Passages) → numbers_of t ≡ numbers_of t' →
        numbers_of (still_open (after t)) ≡ numbers_of (still_open (after t'))
    numbers_on t t' same = open-numbers (after t) ∙ numbers_now t t' same ∙ sym (open-numbers (after t'))

-- ---- how many go on through a cycle

-- no more than there were, and than there are
pub kept-few : (cycle : ℕ) (now : List Passage) (count : ℕ) →
    (kept_through cycle now count ≤ count) × (kept_through cycle now count ≤ length now)
kept-few cycle now zero = (omega arith, omega arith)
kept-few cycle [] (suc count) = (omega arith, omega arith)
kept-few cycle (n ∷ now) (suc count) = elim (cases_Bool (nat_lt n.fetched cycle)) [
  | inl before ↦ let few = kept-few cycle now count in rw before (omega (arith, few.0), omega (arith, few.1))
  | inr later ↦ rw later (omega arith, omega arith)
]

-- one more place of those that go on
pub kept-next : (cycle : ℕ) (now : List Passage) (place count : ℕ) → place + 1 ≤ count →
    is_some (next_before cycle (drop place now)) ≡ true →
    let from = λ (at : ℕ). kept_through cycle (drop at now) (count - at) in from place ≡ 1 + from (place + 1)
kept-next cycle now place count within some =
    let left : count - place ≡ suc (count - (place + 1)) = omega (arith, within) in
    let next = ap (λ l. kept_through cycle l (count - (place + 1))) (drop-drop 1 place now) in
    ap (kept_through cycle (drop place now)) left ∙ rw some (omega (arith, next))
