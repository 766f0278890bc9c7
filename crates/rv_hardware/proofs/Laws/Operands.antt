-- An instruction issues after the broadcasts of its operands.
pub mod Known
use Rattle.rv_hardware.proofs.Words.{◌≡◌, ℕ, ◌<◌, ◌≤◌, Bool, true, false, cond, List, [], ◌∷◌, map, is_some, IfSome}
use Rattle.rv_hardware.proofs.Words.{Some, None, All, Option, MatchOption, option_map, sym, refl, ap, ◌∙◌, subst, arith}
use Rattle.rv_hardware.proofs.Words.{is_serialising, kind_of_word, Instr, Values, Each, Hardware, IsKnownBefore}
use Rattle.rv_hardware.proofs.Words.{IssuesWithOperands, EachAfter, instruction_of_row, last_from, last_that}
use Rattle.rv_hardware.proofs.Words.{producer_among, rows_of, sources_of_row, writes_register, Execution, Row, Step}
use Rattle.rv_hardware.proofs.Words.{All-Each, EachAfter-EveryAfter, EveryAfter-both, each_then}
use Rattle.rv_hardware.proofs.Marks.Cited.{IsBefore, writes_mark, IsKnownMark, OperandsKnown, History, history_is_sound}
use Rattle.rv_hardware.proofs.Marks.Cited.{mark_of_row, start_of_execution, broadcast_of_execution, Older}
use Rattle.rv_hardware.proofs.Marks.Cited.{rows_start_after, rows_are_older, two_after, writer_serialises, SoundRow}
use Rattle.rv_hardware.proofs.Laws.Operands.Known.{Found, StartsAfter}

map_either : (b : Bool) (row : Row) (o : Option Row) →
    option_map mark_of_row (cond b (Some row) o) ≡ cond b (Some (mark_of_row row)) (option_map mark_of_row o)
map_either b row o = grind arith

last_of_rows : (register : ℕ) (o : Option Row) (rows : List Row) →
    last_from (option_map mark_of_row o) (writes_mark register) (map mark_of_row rows) ≡
    option_map mark_of_row (last_from o (writes_register register) rows)
last_of_rows register o [] = refl
last_of_rows register o (row ∷ rows) =
    grind (arith, map_either, last_of_rows register (cond (writes_register register row) (Some row) o) rows)

-- the last one passes the test and is one of them
either_passes : (G : Row → Type 0) (test : Row → Bool) {b : Bool} (row : Row) (o : Option Row) → test row ≡ b →
    (test row ≡ true → G row) → IfSome o G → IfSome (cond b (Some row) o) G
either_passes G test row o is f h = grind arith

last_passes : (G : Row → Type 0) (test : Row → Bool) (o : Option Row) (rows : List Row) → IfSome o G →
    Each (λ row. test row ≡ true → G row) rows → IfSome (last_from o test rows) G
last_passes G test o [] h are = h
last_passes G test o (row ∷ rows) h are =
    last_passes G test (cond (test row) (Some row) o) rows (either_passes G test row o refl are.0 h) are.1

no_kind : (o : Option Execution) (i : Option Instr) → o ≡ None → is_some o ≡ is_some (kind_of_word i) →
    kind_of_word i ≡ None
no_kind o i given same = grind arith

producer_known : (register : ℕ) (row : Row) (x : Execution) (p : Row) (y : Option Execution) →
    row.fetched < row.dispatched → is_some y ≡ is_some (kind_of_word (instruction_of_row p)) →
    (is_serialising (instruction_of_row p) ≡ true → p.retired ≤ row.fetched) → writes_register register p ≡ true →
    (is_some (kind_of_word (instruction_of_row p)) ≡ true → IsBefore x.issued (broadcast_of_execution y)) →
    MatchOption y (p.retired < row.dispatched) (λ t. t.broadcast < x.issued)
producer_known register row x p y given unit serial writes known = grind (arith, writer_serialises, no_kind)

source_known : {v : Values} {bound : ℕ} (before : List Row) {row : Row} (x : Execution) (sound : SoundRow v bound row) →
    Each (Older v bound row) before → (register : ℕ) →
    IfSome (last_that (writes_mark register) (map mark_of_row before)) (IsKnownMark x.issued) →
    IfSome (last_that (writes_register register) before) (IsKnownBefore row x)
source_known {v} {bound} before {row} x sound older register known =
    by_found (last_that (writes_register register) before)
    (subst (λ o. IfSome o (IsKnownMark x.issued)) (last_of_rows register None before) known)
    (last_passes (λ p. Older v bound row p × (writes_register register p ≡ true))
    (writes_register register) None before tt (each_then (λ p o w. (o, w)) _ older))
  where
    by_found : (o : Option Row) → IfSome (option_map mark_of_row o) (IsKnownMark x.issued) →
        IfSome o (λ p. Older v bound row p × (writes_register register p ≡ true)) → IfSome o (IsKnownBefore row x)
    by_found None k f = tt
    by_found (Some p) k f =
        producer_known register row x p p.execution sound.stamps.dispatched_after_fetch
        f.0.sound.stamps.executed_by_a_unit f.0.serial f.1 k

sources_known : {v : Values} {bound : ℕ} (before : List Row) {row : Row} (x : Execution)
    (sound : SoundRow v bound row) →
    Each (Older v bound row) before → (sources : List (Option ℕ)) →
    OperandsKnown x.issued (map mark_of_row before) sources →
    Each (λ source. IfSome (producer_among before source) (IsKnownBefore row x)) sources
sources_known before x sound older [] h = tt
sources_known {v} {bound} before {row} x sound older (None ∷ sources) h =
    (tt, sources_known before x sound older sources h.1)
sources_known {v} {bound} before {row} x sound older (Some register ∷ sources) h =
    (source_known before x sound older register h.0, sources_known before x sound older sources h.1)

operands_by : {v : Values} {bound : ℕ} (before : List Row) {row : Row} (y : Option Execution) → SoundRow v bound row →
    Each (Older v bound row) before →
    IfSome (start_of_execution y) (λ s. Found (map mark_of_row before) (instruction_of_row row) s.cycle) →
    IfSome y (λ x. All (λ source. IfSome (producer_among before source) (IsKnownBefore row x)) (sources_of_row row))
operands_by before None sound older h = tt
operands_by {v} {bound} before {row} (Some x) sound older h =
    All-Each _ _ (sources_known before x sound older (sources_of_row row) h.operands)

-- the field `operands` of `Laws`, over every history
pub law_of_operands : {v : Values} {steps : List Step} {h : Hardware} → History v steps h →
    EachAfter IssuesWithOperands (rows_of steps)
law_of_operands {v} {steps} {h} history =
    EachAfter-EveryAfter _ _
    (EveryAfter-both
    {Q = λ before row. StartsAfter (map mark_of_row before) (mark_of_row row) × Each (Older v h.cycle row) before}
    (λ before row sound both. operands_by before row.execution sound both.1 both.0) [] (rows_of steps)
    (history_is_sound history).rows
    (two_after (λ b x p q. (p, q)) [] _ (rows_start_after history) (rows_are_older history)))
