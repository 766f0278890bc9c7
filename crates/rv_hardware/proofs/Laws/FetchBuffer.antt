-- The fetch buffer holds no more words than it has room for.
use Rattle.rv_hardware.proofs.Words.{List, arith, ltb-true, and_from, Values, Hardware, NeverMoreThan, is_buffered_in}
use Rattle.rv_hardware.proofs.Words.{rows_of, Step, and_first, and_second}
use Rattle.rv_hardware.proofs.Marks.Cited.{Shows, counted_law, History, is_buffered_mark, until_now, history_is_orderly}

-- that a row's word is in the fetch buffer in a cycle shows in its mark
pub buffered_shows : (v : Values) → Shows v is_buffered_in (λ c. is_buffered_mark)
buffered_shows v = grind (arith, ltb-true, and_second, and_from, and_first, until_now)

-- the field `fetch_buffer` of `Laws`, over every history
pub law_of_fetch_buffer : {v : Values} {steps : List Step} {h : Hardware} → History v steps h →
    NeverMoreThan v.fetch_buffer is_buffered_in (rows_of steps)
law_of_fetch_buffer {v} history =
    counted_law (buffered_shows v) v.fetch_buffer
    (λ earlier old new lines report before after passed. (history_is_orderly after).words) history
