-- A unit that is not pipelined executes one instruction at a time.
pub mod Phases
pub mod Rows
use Rattle.rv_hardware.proofs.Words.{◌≡◌, ℕ, ◌+◌, ◌<◌, ◌≤◌, Bool, true, false, ◌&&◌, List, nat_lt, nat_le, Some, None}
use Rattle.rv_hardware.proofs.Words.{Option, sym, refl, subst, arith, ltb-true, le-ltb, le-leb, leb-true, and_from}
use Rattle.rv_hardware.proofs.Words.{and_right, is_of_kind, kind_of_word, Kind, Values, Hardware, FitUnits}
use Rattle.rv_hardware.proofs.Words.{is_pipelined, is_executing_in, is_row_of_kind, passes, rows_of, Execution, Step}
use Rattle.rv_hardware.proofs.Words.{and_first, and_second, IsBetween, IfSome}
use Rattle.rv_hardware.proofs.Marks.Cited.{History, Mark, start_until, start_of_execution}
use Rattle.rv_hardware.proofs.Laws.OtherUnits.Phases.{start_holds}
use Rattle.rv_hardware.proofs.Laws.OtherUnits.Rows.{units_law}

-- it was issued by a cycle, and its cost is not over there
abbrev executes_in : ℕ → Execution → Bool
executes_in c y = nat_le y.issued c && nat_lt c (y.issued + y.cost)

abbrev executes_mark : Kind → ℕ → Mark → Bool
executes_mark k c m = is_of_kind k (kind_of_word m.instruction) && start_holds false c m.start

not_executing : (now D C : ℕ) (x : Option Execution) → C ≤ now → IfSome x (IsBetween D C) →
    start_holds false now (start_of_execution x) ≡ false
not_executing now D C x le h = grind (arith, and_right, le-ltb)

executing_row : (c D C : ℕ) (x : Option Execution) → IfSome x (IsBetween D C) → passes (executes_in c) x ≡ true →
    (start_holds false c (start_until c (start_of_execution x)) ≡ true) × (D < c) × (c < C)
executing_row c D C x h is = grind (arith, and_first, leb-true, ltb-true, and_second)

-- the field `other_units` of `Laws`, over every history
pub law_of_other_units : {v : Values} {steps : List Step} {h : Hardware} → History v steps h → (k : Kind) →
    is_pipelined v k ≡ false → FitUnits v k is_executing_in (rows_of steps)
law_of_other_units {v} history k pipelined =
    units_law k
    (λ c m h. subst (λ b. (is_of_kind k (kind_of_word m.instruction) && start_holds b c m.start) ≡ true)
    (sym pipelined) h)
    (λ now row sound.
    and_right (is_row_of_kind k row) (start_holds false now (start_of_execution row.execution))
    (not_executing now row.dispatched row.retired row.execution
    (omega (arith, sound.below)) sound.stamps.executed_between))
    (λ now f. and_right (is_of_kind k (kind_of_word f.instruction)) false refl) (record {
      mark = λ c bound row sound h.
          let of_kind : Bool = is_row_of_kind k row in
          let holds : Bool = start_holds false c (start_until c (start_of_execution row.execution)) in
          let runs = and_second of_kind (passes (executes_in c) row.execution) h in
          let x = executing_row c row.dispatched row.retired row.execution sound.stamps.executed_between runs in
          let fetched = le-leb row.fetched c (omega (arith, x.1, sound.stamps.dispatched_after_fetch)) in
          and_from (nat_le row.fetched c) (of_kind && holds) fetched
          (and_from of_kind holds (and_first of_kind (passes (executes_in c) row.execution) h) x.0);
      ends = λ c bound row sound h.
          let runs = and_second (is_row_of_kind k row) (passes (executes_in c) row.execution) h in
          (executing_row c row.dispatched row.retired row.execution sound.stamps.executed_between runs).2;
    }) history
