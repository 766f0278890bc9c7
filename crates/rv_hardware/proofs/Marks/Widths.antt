-- A count of marks is the sum of those of rows, of instructions in flight and of fetched words.
use Rattle.rv_hardware.proofs.Words.{◌≡◌, ℕ, ◌+◌, Bool, false, List, ◌++◌, map, ◌==◌, Some, None, Option, ap, ◌∙◌}
use Rattle.rv_hardware.proofs.Words.{arith, Entry, Fetched, Lines, Values, Hardware, Report, rows_of, Row, Step}
use Rattle.rv_hardware.proofs.Words.{Each-all, count, count-append, count-map, count-none, each_then}
use Rattle.rv_hardware.proofs.Marks.History.{Passed, dispatching}
use Rattle.rv_hardware.proofs.Marks.List.{Mark, mark_of_row, mark_of_entry, mark_of_fetched, marks, marks_in}
use Rattle.rv_hardware.proofs.Marks.Row.{SoundRow}

-- the stamp is of a cycle
abbrev pub is_at : ℕ → Option ℕ → Bool
is_at c None = false
is_at c (Some d) = d == c

-- counts of the marks of rows, entries and words
pub count_marks : (p : Mark → Bool) (steps : List Step) (es : List Entry) (fs : List Fetched) →
    count p (marks steps es fs) ≡
    count (λ row. p (mark_of_row row))
    (rows_of steps) + (count (λ e. p (mark_of_entry e)) es + count (λ f. p (mark_of_fetched f)) fs)
count_marks p steps es fs = grind (arith, count-append, count-map)

-- where a test passes no row and no fetched word, the marks that pass it after a cycle are of instructions in flight
pub count_in_flight : (p : Mark → Bool) {v : Values} {R : List Mark → Type 0} {earlier : List Step} {lines : Lines} →
    {old new : Hardware} {report : Report} → Passed v R earlier lines old report new →
    ((row : Row) → SoundRow v (old.cycle + 1) row → p (mark_of_row row) ≡ false) →
    ((f : Fetched) → p (mark_of_fetched f) ≡ false) → count p (marks_in (earlier ++ report.steps) new) ≡
    count (λ e. p (mark_of_entry e)) (dispatching lines old).hardware.rob.entries
count_in_flight p {v} {R} {earlier} {lines} {old} {new} {report} passed no_row no_word =
    let d : Hardware = (dispatching lines old).hardware in
    let all : List Row = rows_of (earlier ++ report.steps) in
    let marked =
    ap (count p) passed.new_marks
    ∙ count-append p (marks_in (earlier ++ report.steps) d) (map mark_of_fetched passed.fetches.added) in
    let parts = count_marks p (earlier ++ report.steps) d.rob.entries d.front.entries in
    let rows = count-none (λ row. p (mark_of_row row)) all (each_then no_row _ passed.dispatches.basics.rows) in
    let words : (fs : List Fetched) → count (λ f. p (mark_of_fetched f)) fs ≡ 0 =
    λ fs. count-none (λ f. p (mark_of_fetched f)) fs (Each-all _ no_word fs) in
    let added = count-map p mark_of_fetched passed.fetches.added ∙ words passed.fetches.added in
    omega (arith, marked, parts, rows, words d.front.entries, added)
