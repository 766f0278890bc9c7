-- The stations of a kind hold no more instructions than they have room for.
use Rattle.rv_hardware.proofs.Words.{◌≡◌, ℕ, ◌<◌, true, List, is_none, IfSome, nat_lt, Option, arith, ltb-true, le-leb}
use Rattle.rv_hardware.proofs.Words.{leb-true, and_from, lt-leb, at_kind, Kind, Values, Hardware, NeverMoreThan}
use Rattle.rv_hardware.proofs.Words.{stations_of, is_stationed_in, passes, rows_of, Execution, Step, and_first}
use Rattle.rv_hardware.proofs.Words.{and_second, IsBetween}
use Rattle.rv_hardware.proofs.Marks.Cited.{is_stationed_mark, Shows, counted_law, History, start_until}
use Rattle.rv_hardware.proofs.Marks.Cited.{start_of_execution, until_by, history_is_orderly}

issued_after : (c : ℕ) (x : Option Execution) → passes (λ y. nat_lt c y.issued) x ≡ true →
    is_none (start_until c (start_of_execution x)) ≡ true
issued_after c x h = grind (arith, lt-leb, ltb-true)

retired_after : (c D C : ℕ) (x : Option Execution) → IfSome x (IsBetween D C) →
    passes (λ y. nat_lt c y.issued) x ≡ true → c < C
retired_after c D C x h is = grind (arith, ltb-true)

-- that a row waits in a station in a cycle shows in its mark
pub stationed_shows : (v : Values) (k : Kind) → Shows v (is_stationed_in k) (λ c. is_stationed_mark k)
stationed_shows v k =
    grind (arith, and_first, leb-true, and_second, issued_after, and_from, le-leb, until_by, retired_after)

-- the field `stations` of `Laws`, over every history
pub law_of_stations : {v : Values} {steps : List Step} {h : Hardware} → History v steps h → (k : Kind) →
    NeverMoreThan (stations_of v k) (is_stationed_in k) (rows_of steps)
law_of_stations {v} history k =
    counted_law (stationed_shows v k) (at_kind k v.kinds).stations
    (λ earlier old new lines report before after passed. (history_is_orderly after).stations k) history
