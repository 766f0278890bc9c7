use Rattle.std.proofs.Common.{◌≡◌, ◌∙◌, ℕ, suc, ◌-◌, ◌≤◌, List, [], ◌∷◌, ◌++◌, length, take, drop, get_or, refl, ap}
use Rattle.std.proofs.Common.{sym, arith}
use Rattle.std.proofs.Math.Seq.{take-length}
use Rattle.rv_front.specs.Lesson.{Lesson}
use Rattle.rv_front.specs.declared.predictors.DescribedPredictor.{DescribedPredictor}
use Rattle.rv_hardware.specs.Lessons.{first_pc, lesson_of, lessons_of}
use Rattle.rv_hardware.specs.declared.step.Step.{Step}
use Rattle.rv_states.specs.Predictor.{after_lessons}

after-both : (predictor : DescribedPredictor) (xs ys : List Lesson) →
    after_lessons predictor (xs ++ ys) ≡ after_lessons (after_lessons predictor xs) ys
after-both predictor [] ys = refl
after-both predictor (x ∷ xs) ys = after-both (after_lessons predictor (x ∷ [])) xs ys

apart : (steps : List Step) (step : Step) → 1 ≤ length steps → step ≡ get_or steps 0 step →
    steps ≡ step ∷ take (length steps - 1) (drop 1 steps)
apart [] step some is = absurd (omega (arith, some))
apart (first ∷ rest) step some is =
    let count : suc (length rest) - 1 ≡ length rest = omega arith in
    λ i. sym is i ∷ sym (ap (λ n. take n rest) count ∙ take-length rest) i

taught_on : (steps rest : List Step) (step : Step) (next first : ℕ) (before middle after : DescribedPredictor) →
    steps ≡ step ∷ rest →
    first ≡ first_pc rest next → middle ≡ after_lessons before (lesson_of step first) →
    after ≡ after_lessons middle (lessons_of rest next) →
    after ≡ after_lessons before (lessons_of steps next)
taught_on steps rest step next first before middle after steps_are first_is middle_is after_is =
    grind (arith, after-both)
