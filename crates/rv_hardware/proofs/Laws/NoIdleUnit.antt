-- No pipelined unit is idle while an instruction that is no load has its operands.
pub mod Marks
pub mod Phases
use Rattle.rv_hardware.proofs.Words.{◌≡◌, ℕ, ◌+◌, ◌<◌, ◌≤◌, Bool, true, false, cond, ◌&&◌, List, [], ◌∷◌, ◌++◌, map}
use Rattle.rv_hardware.proofs.Words.{is_some, IfSome, nat_le, ◌==◌, Some, None, count_by, Option, option_map, sym, refl}
use Rattle.rv_hardware.proofs.Words.{ap, ◌∙◌, subst, arith, le-leb, and_from, kind_of_word, at_kind, Kind, Values, Each}
use Rattle.rv_hardware.proofs.Words.{Hardware, HasOperandsIn, LeaveNoUnitIdle, is_pipelined, instruction_of_row}
use Rattle.rv_hardware.proofs.Words.{is_issued_in, is_row_of_kind, last_from, last_that, passes, producer_among}
use Rattle.rv_hardware.proofs.Words.{rows_of, sources_of_row, writes_register, Execution, Row, Step, and_first}
use Rattle.rv_hardware.proofs.Words.{and_second, Each-All, Each-all, Each-place, EveryAfter, EachAfter-EveryAfter}
use Rattle.rv_hardware.proofs.Words.{EveryAfter-EveryPair, IsBetween, each_then}
use Rattle.rv_hardware.proofs.Laws.PipelinedUnits.{begun_shows}
use Rattle.rv_hardware.proofs.Laws.RunsOn.{RunsOn, row_of_all, row_of_run, none_earlier, operands_of_all}
use Rattle.rv_hardware.proofs.Marks.Cited.{IsBefore, writes_mark, IsKnownMark, OperandsKnown, after_law, after_count}
use Rattle.rv_hardware.proofs.Marks.Cited.{History, history_is_sound, Mark, mark_of_row, as_of, as_of-cons, at_end}
use Rattle.rv_hardware.proofs.Marks.Cited.{was_fetched, until, start_until, start_until_now, start_of_execution}
use Rattle.rv_hardware.proofs.Marks.Cited.{broadcast_of_execution, until_by, history_is_orderly, Older, rows_are_older}
use Rattle.rv_hardware.proofs.Marks.Cited.{row_pairs, SoundRow, rows_obey_after}
use Rattle.rv_hardware.proofs.Laws.NoIdleUnit.Marks.{MayStart, BusyUnits}
use Rattle.rv_hardware.proofs.Laws.NoIdleUnit.Phases.{units_are_busy}
use Rattle.rv_hardware.proofs.Laws.OtherUnits.Rows.{starts_at, begins_mark}

busy_rows : {v : Values} (k : Kind) → (at_kind k v.kinds).pipelined ≡ true → {steps : List Step} {h : Hardware} →
    History v steps h → (c : ℕ) → c < h.cycle →
    EveryAfter (BusyUnits k (at_kind k v.kinds).units c) [] (as_of c (map mark_of_row (rows_of steps)))
busy_rows {v} k line history =
    rows_obey_after v (BusyUnits k (at_kind k v.kinds).units)
    (λ earlier old new lines report before after passed. units_are_busy k line before passed) history

-- rows that were all fetched
all_fetched : (c : ℕ) (rows : List Row) → Each (λ a. a.fetched ≤ c) rows →
    as_of c (map mark_of_row rows) ≡ map (λ a. at_end c (mark_of_row a)) rows
all_fetched c [] h = refl
all_fetched c (row ∷ rows) h = grind (arith, as_of-cons, le-leb, all_fetched c rows h.1)

module _ (c : ℕ) where
  abbrev ended_row : Row → Mark
  ended_row a = at_end c (mark_of_row a)

  either : (b : Bool) (row : Row) (o : Option Row) →
      option_map ended_row (cond b (Some row) o) ≡ cond b (Some (ended_row row)) (option_map ended_row o)
  either b row o = grind arith

  last_of : (register : ℕ) (o : Option Row) (rows : List Row) →
      last_from (option_map ended_row o) (writes_mark register) (map ended_row rows) ≡
      option_map ended_row (last_from o (writes_register register) rows)
  last_of register o [] = refl
  last_of register o (row ∷ rows) =
      grind (arith, either, last_of register (cond (writes_register register row) (Some row) o) rows)

  known_by : (x : Option Execution) (some : Bool) → is_some x ≡ some → IfSome x (λ y. y.broadcast < c) → some ≡ true →
      IsBefore c (until c (broadcast_of_execution x))
  known_by x some same h is = grind (arith, until_by)

  module _ (v : Values) (bound : ℕ) (before : List Row) (row : Row) (older : Each (Older v bound row) before) where
    found_known : (o : Option Row) → IfSome o (SoundRow v bound) →
        IfSome o (λ p. IfSome p.execution (λ y. y.broadcast < c)) → IfSome (option_map ended_row o) (IsKnownMark c)
    found_known o s h = grind (arith, known_by)

    found_sound : (o : Option Row) (test : Row → Bool) (rows : List Row) → IfSome o (SoundRow v bound) →
        Each (SoundRow v bound) rows → IfSome (last_from o test rows) (SoundRow v bound)
    found_sound o test [] h sound = h
    found_sound o test (r ∷ rows) h sound = found_sound (cond (test r) (Some r) o) test rows (pick (test r) h) sound.1
      where
        pick : (b : Bool) → IfSome o (SoundRow v bound) → IfSome (cond b (Some r) o) (SoundRow v bound)
        pick true k = sound.0
        pick false k = k

    sources_known : (sources : List (Option ℕ)) →
        Each (λ source. IfSome (producer_among before source) (λ p. IfSome p.execution (λ y. y.broadcast < c)))
        sources →
        OperandsKnown c (map ended_row before) sources
    sources_known [] h = tt
    sources_known (None ∷ sources) h = (tt, sources_known sources h.1)
    sources_known (Some register ∷ sources) h = (
      rw (last_of register None before)
          (found_known (last_that (writes_register register) before)
          (found_sound None (writes_register register) before tt (each_then (λ a o. o.sound) _ older)) h.0),
      sources_known sources h.1,
    )

begun_at : (c : ℕ) (x : Option Execution) → starts_at c (start_until c (start_of_execution x)) ≡ true →
    passes (λ y. y.issued == c) x ≡ true
begun_at c x h = grind arith

-- where the mark of a row begins in a cycle, the row was issued in it
begun_in : (k : Kind) (c : ℕ) (a : Row) →
    (was_fetched c (mark_of_row a) && begins_mark k c (at_end c (mark_of_row a))) ≡ true → is_issued_in k c a ≡ true
begun_in k c a is = grind arith

-- the field `no_idle_unit` of `Laws`, of every run
pub law_of_no_idle_unit : {v : Values} {earlier steps : List Step} {old new : Hardware} →
    RunsOn v earlier steps old new → (k : Kind) → is_pipelined v k ≡ true →
    LeaveNoUnitIdle v k old.cycle (rows_of steps)
law_of_no_idle_unit {v} {earlier} {steps} {old} {new} run k line before after row at kind plain =
    by_execution row.execution refl
  where
    place : rows_of (earlier ++ steps) ≡ (rows_of earlier ++ before) ++ row ∷ after
    place = row_of_all run before after row at

    sound : SoundRow v new.cycle row
    sound = row_of_run run before after row at

    older : Each (Older v new.cycle row) (rows_of earlier ++ before)
    older = EachAfter-EveryAfter _ _ (rows_are_older run.all) (rows_of earlier ++ before) after row place

    in_order : Each (λ a. a.fetched ≤ row.fetched) (rows_of earlier ++ before)
    in_order = EachAfter-EveryAfter _ _
        (EveryAfter-EveryPair _ [] _ tt
        (row_pairs (λ m n. m.fetched ≤ n.fetched) (λ a b le. le) (earlier ++ steps) new
        (history_is_orderly run.all).fetched))
        (rows_of earlier ++ before) after row place

    by_execution : (o : Option Execution) → row.execution ≡ o →
        IfSome o (λ x. (c : ℕ) → old.cycle ≤ c → row.dispatched < c → c < x.issued → HasOperandsIn c before row →
        (at_kind k v.kinds).units ≤ count_by (is_issued_in k c) before)
    by_execution None e = tt
    by_execution (Some x) e = λ c from dispatched later operands.
        let between = subst (λ o. IfSome o (IsBetween row.dispatched row.retired)) e sound.stamps.executed_between in
        let fetched : row.fetched ≤ c = omega (arith, dispatched, sound.stamps.dispatched_after_fetch) in
        let all : Each (λ a. a.fetched ≤ c) (rows_of earlier ++ before) =
        each_then (λ a le. omega (arith, le, fetched)) _ in_order in
        let may : MayStart k c (as_of c (map mark_of_row (rows_of earlier ++ before))) (at_end c (mark_of_row row)) =
        record {
          kind = kind;
          plain = plain;
          dispatched = rw (until_by c row.dispatched (omega (arith, dispatched))) dispatched;
          not_yet = ap (λ o. start_until c (start_of_execution o)) e ∙ not_until c x later;
          operands = rw (all_fetched c (rows_of earlier ++ before) all)
              (sources_known c v new.cycle (rows_of earlier ++ before) row older _
              (Each-All _ _ (operands_of_all run c from before row operands)));
        } in
        let busy = after_law _ c (rows_of earlier ++ before) after row
        (busy_rows k line run.all c (omega (arith, later, between.1, between.2, sound.below))) place fetched may in
        let fewer = after_count (begins_mark k c) (is_issued_in k c) c (rows_of earlier ++ before)
        (Each-all _ (begun_in k c) _) in
        let same = none_earlier run (begun_shows v k) c from before in
        omega (arith, busy, fewer, same)
      where
        not_until : (c : ℕ) (x : Execution) → c < x.issued →
            start_until c (Some (record { cycle = x.issued; cost = x.cost; faults = false })) ≡ None
        not_until c x lt = start_until_now c (record { cycle = x.issued; cost = x.cost; faults = false }) lt
