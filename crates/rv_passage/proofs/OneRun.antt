-- From the same hardware with the same described predictor there is one run.
use Rattle.std.proofs.Common.{◌≡◌, ◌∙◌, ℕ, ◌+◌, ◌^◌, ◌≤◌, List, ◌∷◌, refl, sym, ap, subst, arith}
use Rattle.std.specs.List.{fold}
use Rattle.std.specs.Prelude.{length}
use Rattle.rv_isa.specs.declared.lines.Arrival.{Arrival}
use Rattle.rv_arch.specs.declared.outcome.Stop.{Stop}
use Rattle.rv_front.specs.Guide.{after_lesson}
use Rattle.rv_front.specs.Predictors.{guide_of, taught}
use Rattle.rv_front.specs.declared.predictors.DescribedPredictor.{DescribedPredictor}
use Rattle.rv_hardware.specs.Guided.{GuidedCycles, GuidedHardware, guided}
use Rattle.rv_hardware.specs.Guided.{cycled as guided_cycled, ended as guided_ended}
use Rattle.rv_hardware.specs.Hardware.{Hardware}
use Rattle.rv_hardware.specs.History.{History, Moment, reports_of, cycled, ended}
use Rattle.rv_hardware.specs.Lessons.{lessons_of}
use Rattle.rv_hardware.proofs.Determined.{cycle_once, reported_once, run_once, still_described}
use Rattle.rv_passage.specs.EndedRun.{IsEndedRun}

guided_cycles : {arrivals : List Arrival} {old new : GuidedHardware} {moments : List Moment} →
    History arrivals old moments new → GuidedCycles arrivals old (reports_of moments) new
guided_cycles ended = guided_ended
guided_cycles (cycled cycle rest) = guided_cycled cycle (guided_cycles rest)

-- what as many cycles left is the same
moments_once : {arrivals : List Arrival} {old new new' : GuidedHardware} {moments moments' : List Moment}
    (predictor : DescribedPredictor) → old.predictor ≡ guide_of predictor
    → History arrivals old moments new → History arrivals old moments' new' →
    length (reports_of moments) ≡ length (reports_of moments') → moments ≡ moments'
moments_once predictor is ended ended same = refl
moments_once predictor is ended (cycled next more) same = absurd (omega (arith, same))
moments_once predictor is (cycled next more) ended same = absurd (omega (arith, same))
moments_once {arrivals} {old} {new' = new'} predictor is (cycled {moment = m} {predictor = p} {moments = ms} next more)
    (cycled {moment = m'} {predictor = p'} {moments = ms'} next' more') same =
    let one : guided m.after p ≡ guided m'.after p' = cycle_once predictor is next next' in
    let report : m.report ≡ m'.report = reported_once next next' in
    let lessons = lessons_of m.report.steps m.after.pc in
    let described = next.learns ∙ ap (λ known. fold after_lesson known lessons) is
    ∙ still_described predictor lessons in
    let rest : ms ≡ ms' = moments_once (fold taught predictor lessons) described more
    (subst (λ h. History arrivals h ms' new') (sym one) more') (omega (arith, same)) in
    λ i. record { report = report i; after = (one i).hardware } ∷ rest i

-- two runs with the same cycles, the same end and the same reason
pub record IsSameRun (moments moments' : List Moment) (new new' : GuidedHardware) (stop stop' : Stop) : Type 0 where
  pub moments_are : moments ≡ moments'
  pub ends : new ≡ new'
  pub reasons : stop ≡ stop'

-- up to cycle 2 ^ 40, two runs of one limit from the same hardware with the same described predictor are the same
pub one_run : {arrivals : List Arrival} {limit : ℕ} {old : Hardware} {predictor : DescribedPredictor} {moments
    moments' : List Moment} {new new' : GuidedHardware} {stop stop' : Stop}
    → old.cycle + limit ≤ 2 ^ 40 → IsEndedRun arrivals limit (guided old (guide_of predictor)) moments new stop →
    IsEndedRun arrivals limit (guided old (guide_of predictor)) moments' new' stop'
    → IsSameRun moments moments' new new' stop stop'
one_run {arrivals} {limit} {old} {predictor} {moments} {moments'} {new} {new'} {stop} {stop'} within run run' =
    let same = run_once arrivals limit old predictor (reports_of moments) (reports_of moments') new new' stop stop'
    within (guided_cycles run.passes) run.stops (guided_cycles run'.passes) run'.stops in
    record {
      moments_are = moments_once predictor refl run.passes run'.passes (ap length same.reports_are);
      ends = same.ends;
      reasons = same.reasons;
    }
