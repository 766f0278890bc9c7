-- Instructions are fetched in order.
use Rattle.rv_hardware.proofs.Words.{◌≤◌, List, AllPairs, Values, Hardware, rows_of, Step, AllPairs-EveryPair}
use Rattle.rv_hardware.proofs.Marks.Cited.{History, history_is_orderly, row_pairs}

-- the field `fetched_in_order` of `Laws`, over every history
pub law_of_fetched_in_order : {v : Values} {steps : List Step} {h : Hardware} → History v steps h →
    AllPairs (λ a b. a.fetched ≤ b.fetched) (rows_of steps)
law_of_fetched_in_order {v} {steps} {h} history =
    AllPairs-EveryPair _ _ (row_pairs _ (λ a b le. le) steps h (history_is_orderly history).fetched)
