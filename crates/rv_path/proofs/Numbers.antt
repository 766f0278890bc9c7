-- The numbering of a window: one more cycle before it, or in it.
use Rattle.std.proofs.Common.{◌≡◌, ◌∙◌, ℕ, suc, ◌+◌, ◌-◌, ◌<◌, ◌≤◌, Bool, true, false}
use Rattle.std.proofs.Common.{List, [], ◌∷◌, ◌++◌, refl, sym, ap, subst, arith}
use Rattle.std.proofs.Common.{length, length-append, take}
use Rattle.std.specs.Prelude.{if◌then◌else◌}
use Rattle.std.proofs.lemmas.List.{length-map, take-append-le, take_all}
use Rattle.rv_watch.specs.Watching.{Watched}
use Rattle.rv_hardware.specs.History.{Moment}
use Rattle.rv_hardware.specs.Lessons.{first_pc}
use Rattle.rv_hardware.specs.declared.step.Step.{Step}
use Rattle.rv_hardware.specs.declared.step.Step.TheVariants as step
use Rattle.rv_passage.specs.Passage.{is_in_flight, retired_by, trapped_by}
use Rattle.rv_passage.specs.Table.{Passages, numbered_from, still_open, with_oldest, with_step, with_steps}
use Rattle.rv_passage.specs.Walk.{passages_after}
use Rattle.rv_passage.specs.declared.passage.Passage.{Passage}
use Rattle.rv_passage.proofs.Walk.{passages_after-push}
use Rattle.rv_view.specs.Viewing.{IsNextCycle, cycle_shown}
use Rattle.rv_view.specs.declared.shown_cycle.ShownCycle.{ShownCycle}
use Rattle.rv_causes.specs.Numbering.{IsOneLater, numbers_in_flight}
use Rattle.rv_causes.specs.WindowFrom.{IsNumbering}
use Rattle.rv_causes.specs.declared.numbering.Numbering.{Numbering}

-- numbering changes no count
pub length-numbered_from : (number : ℕ) (ps : List Passage) → length (numbered_from number ps) ≡ length ps
length-numbered_from number [] = refl
length-numbered_from number (p ∷ ps) = ap suc (length-numbered_from (number + 1) ps)

-- steps change no count of what was fetched, nor how many rows there are
record IsAsLong (old new : Passages) : Type 0 where
  rows : length new.rows ≡ length old.rows
  fetched : new.fetched ≡ old.fetched

length-by : (here : Bool) (change : Passage → Passage) (p : Passage) (ps : List Passage) →
    length (with_oldest change ps) ≡ length ps
    → length (if here then change p ∷ ps else p ∷ with_oldest change ps) ≡ suc (length ps)
length-by true change p ps others = refl
length-by false change p ps others = ap suc others

length-with_oldest : (change : Passage → Passage) (ps : List Passage) → length (with_oldest change ps) ≡ length ps
length-with_oldest change [] = refl
length-with_oldest change (p ∷ ps) = length-by (is_in_flight p) change p ps (length-with_oldest change ps)

step-as_long : (s : Step) (next : ℕ) (t : Passages) → IsAsLong t (with_step s next t)
step-as_long (step.Retired row) next t = record {
  rows = length-with_oldest (retired_by row t.retired next) t.rows;
  fetched = refl;
}
step-as_long (step.Trap pc cause value cycle) next t =
    record { rows = length-with_oldest (trapped_by cause cycle) t.rows; fetched = refl }
step-as_long (step.Interrupt pc cause cycle) next t = record { rows = refl; fetched = refl }

steps-as_long : (steps : List Step) (next : ℕ) (t : Passages) → IsAsLong t (with_steps steps next t)
steps-as_long [] next t = record { rows = refl; fetched = refl }
steps-as_long (s ∷ ss) next t =
    let first = step-as_long s (first_pc ss next) t in
    let rest = steps-as_long ss next (with_step s (first_pc ss next) t) in
    record { rows = rest.rows ∙ first.rows; fetched = rest.fetched ∙ first.fetched }

module _ {seen : Watched} {cycle : ShownCycle} (next : IsNextCycle seen cycle) (from : ℕ) (old new : Numbering) where
  -- what is in flight when the window begins
  abbrev begun : List Moment → Passages
  begun moments = passages_after still_open seen.first.hardware (take from moments)

  abbrev moment : Moment
  moment = record { report = next.shown.report; after = cycle.hardware.now }

  abbrev kept : Passages
  kept = passages_after still_open seen.first.hardware seen.moments

  -- in the window it stays
  pub numbering_kept : from < length seen.moments + 1 → new ≡ old → IsNumbering old (begun seen.moments)
      → IsNumbering new (begun (seen.moments ++ moment ∷ []))
  numbering_kept begins same is =
      let front : take from (seen.moments ++ moment ∷ []) ≡ take from seen.moments =
      take-append-le from seen.moments (moment ∷ []) (omega (arith, begins)) in
      subst (λ (n : Numbering). IsNumbering n (begun (seen.moments ++ moment ∷ []))) (sym same)
      (subst (λ (ms : List Moment). IsNumbering old (passages_after still_open seen.first.hardware ms)) (sym front) is)

  -- before it it goes on
  pub numbering_on : length seen.moments + 1 ≤ from →
      IsOneLater cycle.rows.now old.numbers.items old.fetched new.numbers.items new.fetched
      → IsNumbering old (begun seen.moments) → IsNumbering new (begun (seen.moments ++ moment ∷ []))
  numbering_on before later is =
      let after = (cycle_shown seen next.shown).passages in
      let so_far : begun seen.moments ≡ kept =
      ap (passages_after still_open seen.first.hardware) (take_all from seen.moments (omega (arith, before))) in
      let all : take from (seen.moments ++ moment ∷ []) ≡ seen.moments ++ moment ∷ [] =
      take_all from (seen.moments ++ moment ∷ []) (omega (arith, before, length-append seen.moments (moment ∷ []))) in
      let later_is : begun (seen.moments ++ moment ∷ []) ≡ still_open after =
      ap (passages_after still_open seen.first.hardware) all
      ∙ passages_after-push still_open next.shown.passes moment in
      let stepped = steps-as_long next.shown.report.steps cycle.hardware.now.pc kept in
      let numbers : length old.numbers.items ≡ length kept.rows =
      ap length is.numbers ∙ length-map (begun seen.moments).rows (λ (p : Passage). p.number)
      ∙ ap (λ (t : Passages). length t.rows) so_far in
      let fetched : old.fetched ≡ kept.fetched = is.fetched ∙ ap (λ (t : Passages). t.fetched) so_far in
      let rows : length cycle.rows.now ≡ length after.rows = ap length next.rows_are in
      let counted : after.fetched ≡ kept.fetched + (length after.rows - length kept.rows) =
      (λ i. stepped.fetched i + (length after.rows - stepped.rows i)) in
      subst (IsNumbering new) (sym later_is) (record {
        numbers = later.numbers_are ∙ ap numbers_in_flight next.rows_are;
        fetched = later.fetched_are ∙ (λ i. fetched i + (rows i - numbers i)) ∙ sym counted;
      })
