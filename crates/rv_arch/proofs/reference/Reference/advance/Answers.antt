use Rattle.std.proofs.Common.{◌≡◌, Some, sym, ap, ◌∙◌, arith}
use Rattle.rv_arch.specs.Due.{due}
use Rattle.std.proofs.lemmas.Option.{none-some}
use Rattle.rv_arch.specs.Machine.{Machine}
use Rattle.rv_arch.specs.Step.{IsFetched, interrupted}
use Rattle.rv_arch.proofs.StepLaws.{not_fetched, same_steps}
use Rattle.rv_arch.proofs.Steps.{same_step}
use Rattle.rv_arch.proofs.reference.Reference.advance.Goals as goal

pub returns-in-Some-clause-step : goal.returns-in-Some-clause-step
returns-in-Some-clause-step c =
    let next = ap (λ (m : Machine). m.state) c.interrupt.ensures.state in
    let found : due c.args.self.now.state.csrs c.args.lines ≡ Some c.in-Some.code = grind arith in
    same_step _ _ _ c.interrupt.ensures.outcome next (interrupted c.in-Some.code found)

pub returns-in-Some-clause-only : goal.returns-in-Some-clause-only
returns-in-Some-clause-only c =
    let found : due c.args.self.now.state.csrs c.args.lines ≡ Some c.in-Some.code = grind arith in
    let once = not_fetched _ _ _ (λ (fetched : IsFetched c.args.self.now.layout c.args.self.now.state c.args.lines).
    none-some c.in-Some.code (sym fetched.undisturbed ∙ found)) in
    λ other t step. same_steps once (returns-in-Some-clause-step c) step
