-- At most `fetch_width` words are fetched in a cycle.
use Rattle.rv_hardware.proofs.Words.{◌≡◌, ◌<◌, Bool, false, List, ◌++◌, map, ◌==◌, ap, ◌∙◌, arith, ne_eqb, eqb-true}
use Rattle.rv_hardware.proofs.Words.{le-leb, and_from, Values, Hardware, NeverMoreThan, is_fetched_in, rows_of, Step}
use Rattle.rv_hardware.proofs.Words.{Each-weaker, count, count-append, count-none, count-map, count-length}
use Rattle.rv_hardware.proofs.Marks.Cited.{Shows, counted_law, History, new_words, dispatching, Mark, mark_of_fetched}
use Rattle.rv_hardware.proofs.Marks.Cited.{marks_in}

fetched_shows : (v : Values) → Shows v is_fetched_in (λ c m. m.fetched == c)
fetched_shows v = grind (arith, and_from, le-leb, eqb-true)

-- the field `fetch_width` of `Laws`, over every history
pub law_of_fetch_width : {v : Values} {steps : List Step} {h : Hardware} → History v steps h →
    NeverMoreThan v.fetch_width is_fetched_in (rows_of steps)
law_of_fetch_width {v} history =
    counted_law (fetched_shows v) v.fetch_width (λ earlier old new lines report before after passed.
    let p : Mark → Bool = λ m. m.fetched == old.cycle in
    let d : Hardware = (dispatching lines old).hardware in
    let ms : List Mark = marks_in (earlier ++ report.steps) d in
    let words = new_words passed in
    let all = ap (count p) passed.new_marks ∙ count-append p ms (map mark_of_fetched passed.fetches.added) in
    let none = count-none p ms
    (Each-weaker (λ m. m.fetched < old.cycle) (λ m. p m ≡ false)
    (λ m lt. ne_eqb m.fetched old.cycle (omega (arith, lt))) ms words.by_now) in
    let some = count-map p mark_of_fetched passed.fetches.added in
    let most = count-length (λ f. p (mark_of_fetched f)) passed.fetches.added in
    omega (arith, all, none, some, most, words.within_width)) history
