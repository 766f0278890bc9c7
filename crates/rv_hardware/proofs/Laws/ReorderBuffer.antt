-- The reorder buffer holds no more instructions than it has room for.
use Rattle.rv_hardware.proofs.Words.{List, arith, ltb-true, le-leb, leb-true, and_from, Values, Hardware, NeverMoreThan}
use Rattle.rv_hardware.proofs.Words.{is_in_flight_in, rows_of, Step, and_first, and_second}
use Rattle.rv_hardware.proofs.Marks.Cited.{is_in_flight_mark, Shows, counted_law, History, until_by, until_now}
use Rattle.rv_hardware.proofs.Marks.Cited.{history_is_orderly}

-- that a row is in flight in a cycle shows in its mark
pub in_flight_shows : (v : Values) → Shows v is_in_flight_in (λ c. is_in_flight_mark)
in_flight_shows v = grind (arith, leb-true, and_first, ltb-true, and_second, and_from, le-leb, until_by, until_now)

-- the field `reorder_buffer` of `Laws`, over every history
pub law_of_reorder_buffer : {v : Values} {steps : List Step} {h : Hardware} → History v steps h →
    NeverMoreThan v.rob is_in_flight_in (rows_of steps)
law_of_reorder_buffer {v} history =
    counted_law (in_flight_shows v) v.rob
    (λ earlier old new lines report before after passed. (history_is_orderly after).buffer) history
