use Rattle.rv_core.proofs.Words.{◌≡◌, ℕ, Bool, true, false, is_some, IfSome, ◌==◌, Some, None, Option, refl, Stall, ◌^◌}
use Rattle.rv_core.proofs.Words.{◌<◌, nat_le, arith, report_of_cycle}
use Rattle.rv_hardware.proofs.AnyPrediction.{any_cycle}
use Rattle.rv_hardware.proofs.Headline.Cycle.{headline_of_cycle}
use Rattle.rv_hardware.proofs.Laws.Counts.{IsCounted}
use Rattle.rv_hardware.proofs.Marks.History.{reachable_has_history}
use Rattle.rv_hardware.proofs.Laws.OfCycles.{cycle_is_counted}
use Rattle.rv_core.proofs.Exhausted.{all_done}
use Rattle.rv_core.proofs.pipeline.Pipeline.cycle.Goals as goal

-- a pipeline that is exhausted has no cycle left
none_left : {A : Type 0} {cycle : ℕ} {all : Bool} → all ≡ nat_le (2 ^ 40) cycle → all ≡ true → cycle < 2 ^ 40 → A
none_left is done counted = absurd (omega (arith, all_done is done, counted))

pub returns-clause-true_cycle : goal.returns-clause-true_cycle
returns-clause-true_cycle g c counted =
    headline_of_cycle c.args.lines c.args.self.now
    (report_of_cycle c.next_cycle.result) c.next_cycle.new.self c.next_cycle.ensures.reached
    (any_cycle c.next_cycle.ensures.cycled.cycle)

if_due : {P : ℕ → Type 0} (o : Option ℕ) → ((code : ℕ) → o ≡ Some code → P code) → IfSome o P
if_due None taken = tt
if_due (Some code) taken = taken code refl

stalls_where : (none_dispatched : Bool) (stall : Option Stall) → IsCounted none_dispatched stall →
    is_some stall ≡ none_dispatched
stalls_where true (Some reason) counted = refl
stalls_where false None counted = refl
stalls_where _ _ counted = absurd counted

pub returns-clause-stall : goal.returns-clause-stall
returns-clause-stall g c counted =
    let before = reachable_has_history c.next_cycle.ensures.reached in
    stalls_where (c.next_cycle.result.dispatched == 0) c.next_cycle.result.stall
    (cycle_is_counted before.0 before.2 (any_cycle c.next_cycle.ensures.cycled.cycle))
