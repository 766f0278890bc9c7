use Rattle.std.proofs.Common.{◌≡◌, true, false, sym, ap, refl, ◌∙◌, arith}
use Rattle.rv_arch.specs.declared.outcome.RefStep.TheVariants.{Stale}
use Rattle.rv_arch.specs.Machine.{Machine}
use Rattle.rv_memory.specs.Memory.{is_in_ram}
use mathlib.Core.Bool.{true≢false}
use Rattle.rv_arch.specs.Step.{IsFetched, unfetched, stale, word_at_pc}
use Rattle.rv_arch.proofs.StepLaws.{not_fetched, decoded_none, decoded_some, same_steps, retired_stays}
use Rattle.rv_arch.proofs.Steps.{same_step, illegal_at}
use Rattle.rv_arch.proofs.reference.Reference.fetch_and_execute.Goals as goal

pub returns-then-not-in_range-clause-step : goal.returns-then-not-in_range-clause-step
returns-then-not-in_range-clause-step c =
    let next = ap (λ (m : Machine). m.state) c.trap.ensures.state in
    let outside : is_in_ram c.args.self.now.layout c.args.self.now.state.pc 4 ≡ false = grind arith in
    same_step _ _ _ (rw (ap (λ (m : Machine). m.state.pc) c.self.view_is) at c.trap.ensures.outcome)
    (rw (ap (λ (m : Machine). m.state.pc) c.self.view_is) at next) (unfetched c.requires outside)

pub returns-then-not-in_range-clause-only : goal.returns-then-not-in_range-clause-only
returns-then-not-in_range-clause-only c =
    let outside : is_in_ram c.args.self.now.layout c.args.self.now.state.pc 4 ≡ false = grind arith in
    let once = not_fetched _ _ _ (λ (fetched : IsFetched c.args.self.now.layout c.args.self.now.state c.args.lines).
    true≢false (sym fetched.in_ram ∙ outside)) in
    λ other t step. same_steps once (returns-then-not-in_range-clause-step c) step

pub returns-then-is_stale-clause-step : goal.returns-then-is_stale-clause-step
returns-then-is_stale-clause-step c =
    let inside : is_in_ram c.args.self.now.layout c.args.self.now.state.pc 4 ≡ true = grind arith in
    let marked = rw (ap (λ (m : Machine). m.state.pc) c.self.view_is) at c.if-is_stale.ensures.stale in
    same_step _ _ _ (ap (λ (m : Machine). Stale m.state.pc) c.self.view_is) refl (stale c.requires inside (sym marked))

pub returns-then-is_stale-clause-only : goal.returns-then-is_stale-clause-only
returns-then-is_stale-clause-only c =
    let marked = rw (ap (λ (m : Machine). m.state.pc) c.self.view_is) at c.if-is_stale.ensures.stale in
    let once = not_fetched _ _ _ (λ (fetched : IsFetched c.args.self.now.layout c.args.self.now.state c.args.lines).
    true≢false (marked ∙ fetched.fresh)) in
    λ other t step. same_steps once (returns-then-is_stale-clause-step c) step

pub returns-in-None-clause-step : goal.returns-in-None-clause-step
returns-in-None-clause-step c =
    let next = ap (λ (m : Machine). m.state) c.trap-in-None.ensures.state in
    let inside : is_in_ram c.args.self.now.layout c.args.self.now.state.pc 4 ≡ true = grind arith in
    let fresh = rw (ap (λ (m : Machine). m.state.pc) c.self.view_is) at c.if-is_stale.ensures.stale in
    let word : c.number-word.result ≡ word_at_pc c.args.self.now.layout c.args.self.now.state = grind arith in
    same_step _ _ _ c.trap-in-None.ensures.outcome next
    (illegal_at _ _ _ (record { undisturbed = c.requires; in_ram = inside; fresh = sym fresh }) _ word
    (c.in-None.ensures.illegal.0 refl))

pub returns-in-None-clause-only : goal.returns-in-None-clause-only
returns-in-None-clause-only c =
    let word : c.number-word.result ≡ word_at_pc c.args.self.now.layout c.args.self.now.state = grind arith in
    let once = decoded_none _ _ c.args.lines _ word c.in-None.ensures.complete in
    λ other t step. same_steps once (returns-in-None-clause-step c) step

pub returns-in-Some-clause-only : goal.returns-in-Some-clause-only
returns-in-Some-clause-only c =
    let word : c.number-word.result ≡ word_at_pc c.args.self.now.layout c.args.self.now.state = grind arith in
    let once = decoded_some c.args.self.now.layout c.args.self.now.state c.args.lines _ word c.in-Some.instruction
    c.in-Some.ensures.complete c.in-Some.ensures.illegal.1 in
    λ other t step. same_steps once c.retire_or_fault.ensures.step step

pub returns-in-Some-clause-in_ram : goal.returns-in-Some-clause-in_ram
returns-in-Some-clause-in_ram c =
    let word : c.number-word.result ≡ word_at_pc c.args.self.now.layout c.args.self.now.state = grind arith in
    let once = decoded_some c.args.self.now.layout c.args.self.now.state c.args.lines _ word c.in-Some.instruction
    c.in-Some.ensures.complete c.in-Some.ensures.illegal.1 in
    λ retired. retired_stays once c.retire_or_fault.ensures.step retired
