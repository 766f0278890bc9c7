-- The front keeps ahead of the head.
use Rattle.rv_hardware.proofs.Words.{ℕ, true, List, Values, Hardware, IsFetchedAhead, EachNext, stamp_of, Step, arith}
use Rattle.rv_hardware.proofs.Marks.History.{History}
use Rattle.rv_hardware.proofs.Laws.HeadsDoNotWait.Follow.{IsAhead}
use Rattle.rv_hardware.proofs.Laws.HeadsDoNotWait.Ahead.{follows}

by_step : (c : ℕ) (x : Step) → IsAhead c true x → IsFetchedAhead c x
by_step c x h = grind arith

-- the field `fetched_ahead` of `Laws`, over every history
pub law_of_fetched_ahead : {v : Values} {steps : List Step} {h : Hardware} → History v steps h →
    EachNext (λ a b. IsFetchedAhead (stamp_of a) b) steps
law_of_fetched_ahead {v} history first rest a b at = by_step (stamp_of a) b (follows history first rest a b at).ahead
