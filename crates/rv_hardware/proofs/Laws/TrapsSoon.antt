-- A fault that needs no unit does not wait at the head.
use Rattle.rv_hardware.proofs.Words.{List, Values, Hardware, IsTrappedSoon, EachNext, stamp_of, Step}
use Rattle.rv_hardware.proofs.Marks.History.{History}
use Rattle.rv_hardware.proofs.Laws.HeadsDoNotWait.Ahead.{follows}

-- the field `traps_soon` of `Laws`, over every history
pub law_of_traps_soon : {v : Values} {steps : List Step} {h : Hardware} → History v steps h →
    EachNext (λ a b. IsTrappedSoon (stamp_of a) b) steps
law_of_traps_soon {v} history first rest a b at = (follows history first rest a b at).soon
