-- Each step is of a cycle of the run.
use Rattle.rv_hardware.proofs.Words.{◌<◌, List, Values, Each, Hardware, stamp_of, Step}
use Rattle.rv_hardware.proofs.Marks.History.{History}
use Rattle.rv_hardware.proofs.Laws.StepsInOrder.Steps.{history_has_steps}

-- the field `within` of `Laws`, over every history
pub law_of_within : {v : Values} {steps : List Step} {h : Hardware} → History v steps h →
    Each (λ step. stamp_of step < h.cycle) steps
law_of_within {v} history = (history_has_steps history).before
