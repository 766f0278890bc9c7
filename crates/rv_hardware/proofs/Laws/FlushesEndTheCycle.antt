-- A trap or a serialising instruction is the last step of its cycle.
use Rattle.rv_hardware.proofs.Words.{◌≡◌, ◌<◌, true, List, AllPairs, Values, Hardware, flushes, stamp_of, Step}
use Rattle.rv_hardware.proofs.Words.{AllPairs-EveryPair, EveryPair-weaker}
use Rattle.rv_hardware.proofs.Marks.History.{History}
use Rattle.rv_hardware.proofs.Laws.StepsInOrder.Steps.{history_has_steps}

-- the field `flushes_end_the_cycle` of `Laws`, over every history
pub law_of_flushes_end_the_cycle : {v : Values} {steps : List Step} {h : Hardware} → History v steps h →
    AllPairs (λ a b. flushes a ≡ true → stamp_of a < stamp_of b) steps
law_of_flushes_end_the_cycle {v} {steps} history =
    AllPairs-EveryPair _ steps (EveryPair-weaker _ (λ a b o. o.last) steps (history_has_steps history).pairs)
