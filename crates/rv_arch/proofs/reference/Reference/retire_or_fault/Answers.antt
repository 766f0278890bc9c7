use Rattle.std.proofs.Common.{ap}
use Rattle.rv_arch.specs.Machine.{Machine}
use Rattle.rv_arch.proofs.Steps.{same_step, faulted_at, retired_at}
use Rattle.rv_arch.proofs.reference.Reference.retire_or_fault.Goals as goal

pub returns-in-Ok-clause-step : goal.returns-in-Ok-clause-step
returns-in-Ok-clause-step c =
    retired_at _ _ _ c.requires.fetched _ (ap (λ (m : Machine). m.state.pc) c.self.view_is) _ c.requires.word
    c.args.instruction c.requires.decoded _ _ c.in-Ok.ensures.0

pub returns-in-Err-clause-step : goal.returns-in-Err-clause-step
returns-in-Err-clause-step c =
    let same = c.in-Err.ensures.1 in
    let state = ap (λ (m : Machine). m.state) same in
    let next = ap (λ (m : Machine). m.state) c.trap.ensures.state in
    same_step _ _ _ (rw state at c.trap.ensures.outcome) (rw state at next)
    (faulted_at _ _ _ c.requires.fetched _ c.requires.word c.args.instruction c.requires.decoded _ _
    c.in-Err.ensures.0)
