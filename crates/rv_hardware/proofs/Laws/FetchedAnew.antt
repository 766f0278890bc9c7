-- After a trap, an interrupt or a serialising instruction everything is fetched anew.
use Rattle.rv_hardware.proofs.Words.{◌≡◌, true, List, AllPairs, Values, Hardware, IsFetchedSince, flushes, Step}
use Rattle.rv_hardware.proofs.Words.{AllPairs-EveryPair, EveryPair-weaker}
use Rattle.rv_hardware.proofs.Marks.History.{History}
use Rattle.rv_hardware.proofs.Laws.StepsInOrder.Steps.{history_has_steps}

-- the field `fetched_anew` of `Laws`, over every history
pub law_of_fetched_anew : {v : Values} {steps : List Step} {h : Hardware} → History v steps h →
    AllPairs (λ a b. flushes a ≡ true → IsFetchedSince a b) steps
law_of_fetched_anew {v} {steps} history =
    AllPairs-EveryPair _ steps (EveryPair-weaker _ (λ a b o. o.anew) steps (history_has_steps history).pairs)
