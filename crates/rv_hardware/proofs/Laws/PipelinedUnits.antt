-- A pipelined unit begins at most one instruction a cycle.
use Rattle.rv_hardware.proofs.Words.{◌≡◌, ℕ, ◌<◌, ◌≤◌, true, false, List, ◌==◌, Option, sym, refl, subst, arith, lt-ltb}
use Rattle.rv_hardware.proofs.Words.{ne_eqb, eqb-true, le-leb, and_from, and_right, is_of_kind, kind_of_word, at_kind}
use Rattle.rv_hardware.proofs.Words.{Kind, Values, Hardware, FitUnits, is_pipelined, is_issued_in, is_row_of_kind}
use Rattle.rv_hardware.proofs.Words.{passes, rows_of, Execution, Step, and_first, and_second, IsBetween, IfSome}
use Rattle.rv_hardware.proofs.Marks.Cited.{Shows, History, Start, start_until, start_of_execution}
use Rattle.rv_hardware.proofs.Laws.OtherUnits.Phases.{start_holds}
use Rattle.rv_hardware.proofs.Laws.OtherUnits.Rows.{units_law, starts_at, begins_mark}

begins_holds : (c : ℕ) (o : Option Start) → starts_at c o ≡ true → start_holds true c o ≡ true
begins_holds c o h = grind (arith, eqb-true, and_from, le-leb, lt-ltb)

not_begun : (now D C : ℕ) (x : Option Execution) → C ≤ now → IfSome x (IsBetween D C) →
    starts_at now (start_of_execution x) ≡ false
not_begun now D C x le h = grind (arith, ne_eqb)

begun_row : (c D C : ℕ) (x : Option Execution) → IfSome x (IsBetween D C) → passes (λ y. y.issued == c) x ≡ true →
    (starts_at c (start_until c (start_of_execution x)) ≡ true) × (D < c) × (c < C)
begun_row c D C x h is = grind (arith, eqb-true, le-leb)

-- that a row's execution begins in a cycle shows in its mark
pub begun_shows : (v : Values) (k : Kind) → Shows v (is_issued_in k) (begins_mark k)
begun_shows v k = grind (arith, begun_row, and_second, and_from, le-leb, and_first)

-- the field `pipelined_units` of `Laws`, over every history
pub law_of_pipelined_units : {v : Values} {steps : List Step} {h : Hardware} → History v steps h → (k : Kind) →
    is_pipelined v k ≡ true → FitUnits v k is_issued_in (rows_of steps)
law_of_pipelined_units {v} history k pipelined =
    units_law k
    (λ c m h. and_from (is_of_kind k (kind_of_word m.instruction)) (start_holds (at_kind k v.kinds).pipelined c m.start)
    (and_first (is_of_kind k (kind_of_word m.instruction)) (starts_at c m.start) h)
    (subst (λ b. start_holds b c m.start ≡ true) (sym pipelined)
    (begins_holds c m.start (and_second (is_of_kind k (kind_of_word m.instruction)) (starts_at c m.start) h))))
    (λ now row sound.
    and_right (is_row_of_kind k row) (starts_at now (start_of_execution row.execution))
    (not_begun now row.dispatched row.retired row.execution (omega (arith, sound.below)) sound.stamps.executed_between))
    (λ now f. and_right (is_of_kind k (kind_of_word f.instruction)) false refl) (begun_shows v k) history
