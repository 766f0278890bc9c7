use Rattle.std.proofs.Common.{◌≡◌, ◌∙◌, ℕ, suc, ◌+◌, ◌-◌, ◌≤◌, Bool, true, false, List}
use Rattle.std.proofs.Common.{[], ◌∷◌, length, take, drop, get_or, Option, ap, sym, arith}
use Rattle.std.specs.Prelude.{if◌then◌else◌}
use Rattle.std.proofs.Math.Seq.{take-length}
use Rattle.circular_buffer.specs.Buffer.{Buffer, buffer}
use Rattle.rv_hardware.specs.Lessons.{first_pc}
use Rattle.rv_hardware.specs.declared.step.Step.{Step}
use Rattle.rv_report.specs.Speculation.{is_wrong, without_all, without_ended, wrong_in}
use Rattle.rv_report.proofs.speculation.+take_steps.Goals as goal

-- the steps after the first one
abbrev others_of : List Step → List Step
others_of steps = take (length steps - 1) (drop 1 steps)

apart : (steps : List Step) (step : Step) → 1 ≤ length steps → step ≡ get_or steps 0 step →
    steps ≡ step ∷ others_of steps
apart [] step some is = absurd (omega (arith, some))
apart (first ∷ rest) step some is =
    let count : suc (length rest) - 1 ≡ length rest = omega arith in
    λ i. sym is i ∷ sym (ap (λ n. take n rest) count ∙ take-length rest) i

-- the wrong predictions of the first step and of the others
wrong_with : (steps : List Step) (step : Step) (next first others : ℕ) (wrong : Bool) (before after : List (Option ℕ)) →
    1 ≤ length steps → step ≡ get_or steps 0 step → first ≡ first_pc (others_of steps) next →
    wrong ≡ is_wrong step first before → after ≡ without_ended step before →
    others ≡ wrong_in (others_of steps) next after → others + (if wrong then 1 else 0) ≡ wrong_in steps next before
wrong_with steps step next first others wrong before after some is first_is wrong_is after_is others_are =
    grind (arith, apart)

none_more : (count : ℕ) → count ≡ count + 0
none_more count = omega arith

-- what the first step and the others leave
left_with : (steps : List Step) (step : Step) (before middle after : Buffer (Option ℕ)) →
    1 ≤ length steps → step ≡ get_or steps 0 step → middle ≡ buffer (without_ended step before.items) before.capacity →
    after ≡ buffer (without_all (others_of steps) middle.items) middle.capacity →
    after ≡ buffer (without_all steps before.items) before.capacity
left_with steps step before middle after some is middle_is after_is = grind (arith, buffer, apart)

pub returns-then-is_wrong-clause-wrong : goal.returns-then-is_wrong-clause-wrong
returns-then-is_wrong-clause-wrong t c =
    wrong_with c.args.steps.now c.step-item.result c.args.next c.first_pc.result c.take_steps-others.result true
    c.args.predictions.now.items c.take_step-is_wrong.new.predictions.items
    c.in-len1-up.len_at_least c.step-item.is c.first_pc.ensures
    (sym c.if-is_wrong.true ∙ c.take_step-is_wrong.ensures.wrong)
    (ap (λ (ring : Buffer (Option ℕ)). ring.items) c.take_step-is_wrong.ensures.left) c.take_steps-others.ensures.wrong

pub returns-then-is_wrong-clause-left : goal.returns-then-is_wrong-clause-left
returns-then-is_wrong-clause-left t c =
    left_with c.args.steps.now c.step-item.result c.args.predictions.now c.take_step-is_wrong.new.predictions
    c.take_steps-others.new.predictions
    c.in-len1-up.len_at_least c.step-item.is
    c.take_step-is_wrong.ensures.left c.take_steps-others.ensures.left

pub returns-else-is_wrong-clause-wrong : goal.returns-else-is_wrong-clause-wrong
returns-else-is_wrong-clause-wrong t c =
    none_more c.take_steps-others.result
    ∙ wrong_with c.args.steps.now c.step-item.result c.args.next c.first_pc.result c.take_steps-others.result false
    c.args.predictions.now.items c.take_step-is_wrong.new.predictions.items
    c.in-len1-up.len_at_least c.step-item.is c.first_pc.ensures
    (sym c.if-is_wrong.false ∙ c.take_step-is_wrong.ensures.wrong)
    (ap (λ (ring : Buffer (Option ℕ)). ring.items) c.take_step-is_wrong.ensures.left) c.take_steps-others.ensures.wrong

pub returns-else-is_wrong-clause-left : goal.returns-else-is_wrong-clause-left
returns-else-is_wrong-clause-left t c =
    left_with c.args.steps.now c.step-item.result c.args.predictions.now c.take_step-is_wrong.new.predictions
    c.take_steps-others.new.predictions
    c.in-len1-up.len_at_least c.step-item.is
    c.take_step-is_wrong.ensures.left c.take_steps-others.ensures.left
