-- Instructions are dispatched in order.
use Rattle.rv_hardware.proofs.Words.{◌≤◌, List, AllPairs, arith, Values, Hardware, rows_of, Step, AllPairs-EveryPair}
use Rattle.rv_hardware.proofs.Marks.Cited.{History, history_is_orderly, row_pairs}

-- the field `dispatched_in_order` of `Laws`, over every history
pub law_of_dispatched_in_order : {v : Values} {steps : List Step} {h : Hardware} → History v steps h →
    AllPairs (λ a b. a.dispatched ≤ b.dispatched) (rows_of steps)
law_of_dispatched_in_order {v} {steps} {h} history =
    AllPairs-EveryPair (λ a b. a.dispatched ≤ b.dispatched) (rows_of steps)
    (row_pairs _ (λ a b lt. omega (arith, lt)) steps h (history_is_orderly history).dispatched)
