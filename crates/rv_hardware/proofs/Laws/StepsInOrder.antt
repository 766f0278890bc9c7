-- Steps come in program order.
pub mod Steps
use Rattle.rv_hardware.proofs.Words.{◌≤◌, List, AllPairs, Values, Hardware, stamp_of, Step, AllPairs-EveryPair}
use Rattle.rv_hardware.proofs.Words.{EveryPair-weaker}
use Rattle.rv_hardware.proofs.Marks.History.{History}
use Rattle.rv_hardware.proofs.Laws.StepsInOrder.Steps.{InOrder, history_has_steps}

-- the field `steps_in_order` of `Laws`, over every history
pub law_of_steps_in_order : {v : Values} {steps : List Step} {h : Hardware} → History v steps h →
    AllPairs (λ a b. stamp_of a ≤ stamp_of b) steps
law_of_steps_in_order {v} {steps} history =
    AllPairs-EveryPair _ steps (EveryPair-weaker _ (λ a b o. o.order) steps (history_has_steps history).pairs)
