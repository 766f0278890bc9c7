-- An interrupt is the one step of its cycle.
use Rattle.rv_hardware.proofs.Words.{◌≡◌, ◌<◌, true, List, AllPairs, Values, Hardware, is_interrupt, stamp_of, Step}
use Rattle.rv_hardware.proofs.Words.{AllPairs-EveryPair, EveryPair-weaker}
use Rattle.rv_hardware.proofs.Marks.History.{History}
use Rattle.rv_hardware.proofs.Laws.StepsInOrder.Steps.{history_has_steps}

-- the field `interrupts_alone` of `Laws`, over every history
pub law_of_interrupts_alone : {v : Values} {steps : List Step} {h : Hardware} → History v steps h →
    AllPairs (λ a b. is_interrupt b ≡ true → stamp_of a < stamp_of b) steps
law_of_interrupts_alone {v} {steps} history =
    AllPairs-EveryPair _ steps (EveryPair-weaker _ (λ a b o. o.alone) steps (history_has_steps history).pairs)
