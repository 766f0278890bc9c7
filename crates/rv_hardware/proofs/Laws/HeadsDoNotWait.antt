-- A finished head does not wait.
pub mod Next
pub mod Follow
pub mod Ahead
use Rattle.rv_hardware.proofs.Words.{List, Values, Hardware, DoesNotWait, EachNext, stamp_of, Step}
use Rattle.rv_hardware.proofs.Marks.History.{History}
use Rattle.rv_hardware.proofs.Laws.HeadsDoNotWait.Ahead.{follows}

-- the field `heads_do_not_wait` of `Laws`, over every history
pub law_of_heads_do_not_wait : {v : Values} {steps : List Step} {h : Hardware} → History v steps h →
    EachNext (λ a b. DoesNotWait (stamp_of a) b) steps
law_of_heads_do_not_wait {v} history first rest a b at = (follows history first rest a b at).waits
