-- What a described predictor guides is determined: from the same hardware and predictor, two runs are the same run.
use Rattle.rv_hardware.proofs.Words.{◌≡◌, ◌∙◌, ℕ, suc, ◌+◌, ◌-◌, ◌^◌, ◌≤◌, Bool, true, false, List, [], ◌∷◌, ◌++◌}
use Rattle.rv_hardware.proofs.Words.{length, Option, Some, None, MatchOption, is_some, refl, sym, ap, subst, arith}
use Rattle.rv_hardware.proofs.Words.{length-append, unwrap_or, Memory, Stop, Committing, Dispatching, Hardware, Report}
use Rattle.rv_hardware.proofs.Words.{IsStop, NoneStops, true≢false, Arrival, Lines, Fetched, FetchStop}
use Rattle.std.specs.List.{fold}
use Rattle.rv_arch.specs.declared.outcome.Stop.TheVariants as stop
use Rattle.rv_front.specs.FetchBuffer.{EndsFor, FetchBuffer, Fetches, FetchesInto, IsFetchedAt, IsGuess, stop_after}
use Rattle.rv_front.specs.FetchBuffer.{Answers}
use Rattle.rv_front.specs.Lesson.{Lesson}
use Rattle.rv_front.specs.Guide.{after_lesson, answers_of}
use Rattle.rv_front.specs.Predictors.{guide_of, taught}
use Rattle.rv_front.specs.declared.predictors.DescribedPredictor.{DescribedPredictor}
use Rattle.rv_hardware.specs.Cycle.{execute, report_of}
use Rattle.rv_hardware.specs.Guided.{GuidedCycles, GuidedHardware, IsGuidedCycle, cycled, ended}
use Rattle.rv_hardware.specs.Lessons.{lessons_of}
use Rattle.rv_hardware.proofs.AnyPrediction.{IntoBy}

-- ---- the fetch phase

ends_for_one : (width room : ℕ) (why why' : FetchStop) → EndsFor width room why → EndsFor width room why' → why ≡ why'
ends_for_one width room why why' is is' = grind arith

module _ (predictor : DescribedPredictor) (ram : Memory) (cycle : ℕ) where
  -- what it answers
  abbrev guided : Answers
  guided = answers_of (guide_of predictor)

  guessed_once : (pc : ℕ) (word : Option ℕ) (next next' : ℕ) → IsGuess guided pc word next →
      IsGuess guided pc word next' → next ≡ next'
  guessed_once pc word next next' is is' = grind arith

  fetched_once : (pc : ℕ) (e e' : Fetched) → IsFetchedAt guided ram cycle pc e →
      IsFetchedAt guided ram cycle pc e' → e ≡ e'
  fetched_once pc e e' given at' = grind (arith, guessed_once)

  -- the same words, the same pc after them, and the same reason
  record AreSame (es es' : List Fetched) (next next' : ℕ) (why why' : FetchStop) : Type 0 where
    words : es ≡ es'
    after : next ≡ next'
    reasons : why ≡ why'

  abbrev Rest : ℕ → ℕ → Fetched → List Fetched → ℕ → FetchStop → Option FetchStop → Type 0
  Rest width room e es next why o =
      MatchOption o (Fetches guided ram cycle width room e.predicted es next why)
      (λ reason. (es ≡ []) × (next ≡ e.predicted) × (why ≡ reason))

  rest_once : (width room : ℕ) (e : Fetched) {es es' : List Fetched} {next next' : ℕ} {why why' : FetchStop}
      (o : Option FetchStop) →
      (Fetches guided ram cycle width room e.predicted es next why →
      Fetches guided ram cycle width room e.predicted es' next' why' → AreSame es es' next next' why why') →
      Rest width room e es next why o → Rest width room e es' next' why' o → AreSame es es' next next' why why'
  rest_once width room e o further is is' = grind arith

  same_more : {e e' : Fetched} {es es' : List Fetched} {next next' : ℕ} {why why' : FetchStop} → e ≡ e' →
      AreSame es es' next next' why why' → AreSame (e ∷ es) (e' ∷ es') next next' why why'
  same_more first same = record { words = λ i. first i ∷ same.words i; after = same.after; reasons = same.reasons }

  fetches_once : (width room pc : ℕ) (es es' : List Fetched) (next next' : ℕ) (why why' : FetchStop) →
      Fetches guided ram cycle width room pc es next why → Fetches guided ram cycle width room pc es' next' why' →
      AreSame es es' next next' why why'
  fetches_once (suc width) (suc room) pc (e ∷ es) (e' ∷ es') next next' why why' is is' =
      let first : e ≡ e' = fetched_once pc e e' is.0 is'.0 in
      same_more first
      (rest_once width room e (stop_after e) (fetches_once width room e.predicted es es' next next' why why') is.1
      (subst (λ f. Rest width room f es' next' why' (stop_after f)) (sym first) is'.1))
  fetches_once (suc width) (suc room) pc (e ∷ es) [] next next' why why' is is' = absurd is'.0
  fetches_once (suc width) (suc room) pc [] es' next next' why why' is is' = absurd is.0
  fetches_once width room pc (e ∷ es) es' next next' why why' is is' = absurd is
  fetches_once width room pc [] (e' ∷ es') next next' why why' is is' = absurd is'
  fetches_once width room pc [] [] next next' why why' is is' =
      record { words = refl; after = is.1 ∙ sym is'.1; reasons = ends_for_one width room why why' is.0 is'.0 }

  into_once : (halted : Bool) (old new new' : FetchBuffer) (why why' : FetchStop) →
      IntoBy guided ram cycle halted old new why → IntoBy guided ram cycle halted old new' why' → new ≡ new'
  into_once true old new new' why why' is is' = is.0 ∙ sym is'.0
  into_once false old new new' why why' (added, fetches, news) (added', fetches', news') = grind (arith, fetches_once)

  fetch_once : (old new new' : FetchBuffer) (why why' : FetchStop) → FetchesInto guided ram cycle old new why →
      FetchesInto guided ram cycle old new' why' → new ≡ new'
  fetch_once old new new' why why' is is' = into_once old.halted old new new' why why' is is'

-- ---- a cycle

-- a described predictor that was taught is a described predictor
pub still_described : (predictor : DescribedPredictor) (lessons : List Lesson) →
    fold after_lesson (guide_of predictor) lessons ≡ guide_of (fold taught predictor lessons)
still_described predictor [] = refl
still_described predictor (lesson ∷ lessons) = still_described (taught predictor lesson) lessons

module _ {lines : Lines} {old new new' : GuidedHardware} {report report' : Report}
    (cycle : IsGuidedCycle lines old report new) (cycle' : IsGuidedCycle lines old report' new') where
  committed : cycle.cycle.committing ≡ cycle'.cycle.committing
  committed = cycle.cycle.commits ∙ sym cycle'.cycle.commits

  executed : cycle.cycle.dispatching ≡ cycle'.cycle.dispatching
  executed = cycle.cycle.executes ∙ ap (λ (c : Committing). execute c.hardware) committed ∙ sym cycle'.cycle.executes

  -- two cycles of the same hardware with the same lines report the same
  pub reported_once : report ≡ report'
  reported_once = cycle.cycle.reports ∙ (λ i. report_of (committed i) (executed i)) ∙ sym cycle'.cycle.reports

  here : new.hardware.pc ≡ new'.hardware.pc
  here = grind arith

  taught_once : new.predictor ≡ new'.predictor
  taught_once = cycle.learns ∙ (λ i. fold after_lesson old.predictor (lessons_of (reported_once i).steps (here i))) ∙
      sym cycle'.learns

  module _ (predictor : DescribedPredictor) (is : new.predictor ≡ guide_of predictor) where
    -- what this cycle's fetch leaves of the front that a dispatch left
    abbrev LeavesNew : Answers → Dispatching → Type 0
    LeavesNew answers d =
        FetchesInto answers d.hardware.cache.backing old.hardware.cycle d.hardware.front new.hardware.front
        cycle.cycle.fetch_stop

    abbrev LeavesOther : Answers → Dispatching → Type 0
    LeavesOther answers d =
        FetchesInto answers d.hardware.cache.backing old.hardware.cycle d.hardware.front new'.hardware.front
        cycle'.cycle.fetch_stop

    fetched_alike : new.hardware.front ≡ new'.hardware.front
    fetched_alike =
        let d : Dispatching = cycle'.cycle.dispatching in
        fetch_once predictor d.hardware.cache.backing old.hardware.cycle d.hardware.front new.hardware.front
        new'.hardware.front cycle.cycle.fetch_stop cycle'.cycle.fetch_stop
        (subst (LeavesNew (answers_of (guide_of predictor))) executed
        (subst (λ p. LeavesNew (answers_of p) cycle.cycle.dispatching) is cycle.cycle.fetches))
        (subst (λ p. LeavesOther (answers_of p) d) (sym taught_once ∙ is) cycle'.cycle.fetches)

    hardware_once : new.hardware ≡ new'.hardware
    hardware_once = grind (arith, fetched_alike)

    left_once : new ≡ new'
    left_once = λ i. record { hardware = hardware_once i; predictor = taught_once i }

-- a cycle leaves the one hardware and the one predictor, which is described
pub cycle_once : {lines : Lines} {old new new' : GuidedHardware} {report report' : Report}
    (predictor : DescribedPredictor) →
    old.predictor ≡ guide_of predictor → IsGuidedCycle lines old report new →
    IsGuidedCycle lines old report' new' → new ≡ new'
cycle_once {lines} {old} {new} {new'} {report} predictor is cycle cycle' =
    left_once cycle cycle' (fold taught predictor (lessons_of report.steps new.hardware.pc))
    (cycle.learns ∙ ap (λ p. fold after_lesson p (lessons_of report.steps new.hardware.pc)) is ∙
    still_described predictor (lessons_of report.steps new.hardware.pc))

-- ---- a run

-- how a run ends that may have so many cycles more
data Ending (new : Hardware) (reason : Stop) : ℕ → List Report → Type 0 where
  at_limit : reason ≡ stop.Limit → Ending new reason 0 []
  at_exhaustion : {left : ℕ} → reason ≡ stop.Exhausted → new.cycle ≡ 2 ^ 40 → Ending new reason (suc left) []
  at_stop : {left : ℕ} {report : Report} → report.stop ≡ Some reason → Ending new reason (suc left) (report ∷ [])
  after : {left : ℕ} {report : Report} {reports : List Report} → report.stop ≡ None → Ending new reason left reports →
      Ending new reason (suc left) (report ∷ reports)

ends_after : {new : Hardware} {reason : Stop} {left : ℕ} {reports : List Report} (before : List Report) →
    NoneStops before → Ending new reason left reports → Ending new reason (length before + left) (before ++ reports)
ends_after {new} {reason} {left} {reports} [] none ending =
    subst (λ n. Ending new reason n reports) (omega arith) ending
ends_after {new} {reason} {left} {reports} (report ∷ before) none ending =
    subst (λ n. Ending new reason n (report ∷ (before ++ reports))) (omega arith)
    (after none.0 (ends_after before none.1 ending))

append_nothing : (reports : List Report) → reports ++ [] ≡ reports
append_nothing [] = refl
append_nothing (report ∷ reports) = ap (λ l. report ∷ l) (append_nothing reports)

at_last : (limit : ℕ) {reports : List Report} (new : Hardware) {reason : Stop} (earlier : List Report) (last : Report) →
    reports ≡ earlier ++ last ∷ [] → NoneStops earlier → last.stop ≡ Some reason → length reports ≤ limit →
    Ending new reason limit reports
at_last limit new {reason} earlier last all none stops within =
    let left = limit - length earlier - 1 in
    subst (λ l. Ending new reason limit l) (sym all)
    (subst (λ n. Ending new reason n (earlier ++ last ∷ []))
    (omega (arith, within, ap length all, length-append earlier (last ∷ [])))
    (ends_after earlier none (at_stop {left = left} stops)))

ending_of : (limit : ℕ) (reports : List Report) (new : Hardware) (reason : Stop) → IsStop limit reports new reason →
    Ending new reason limit reports
ending_of limit reports new stop.Limit is =
    subst (λ l. Ending new stop.Limit limit l) (append_nothing reports)
    (subst (λ n. Ending new stop.Limit n (reports ++ [])) (omega (arith, is.1))
    (ends_after reports is.0 (at_limit refl)))
ending_of limit reports new stop.Exhausted is =
    let left = limit - length reports - 1 in
    subst (λ l. Ending new stop.Exhausted limit l) (append_nothing reports)
    (subst (λ n. Ending new stop.Exhausted n (reports ++ [])) (omega (arith, is.1))
    (ends_after reports is.0 (at_exhaustion {left = left} refl is.2)))
ending_of limit reports new stop.Breakpoint is =
    at_last limit new is.0.earlier is.0.last is.0.all is.0.none_before is.0.stops is.1
ending_of limit reports new (stop.Stale pc) is =
    at_last limit new is.0.earlier is.0.last is.0.all is.0.none_before is.0.stops is.1

-- two runs with the same reports, the same end and the same reason
pub record IsOneRun (reports reports' : List Report) (new new' : GuidedHardware) (reason reason' : Stop) : Type 0 where
  pub reports_are : reports ≡ reports'
  pub ends : new ≡ new'
  pub reasons : reason ≡ reason'

stops_or_not : {reason : Stop} {report report' : Report} → report ≡ report' → report.stop ≡ Some reason →
    report'.stop ≡ None → ⊥
stops_or_not same stops none = true≢false (ap is_some (sym stops ∙ ap (λ (r : Report). r.stop) same ∙ none))

one_run : {arrivals : List Arrival} {old new new' : GuidedHardware} {reports reports' : List Report}
    {reason reason' : Stop} {left : ℕ} (predictor : DescribedPredictor) →
    old.predictor ≡ guide_of predictor → old.hardware.cycle + left ≤ 2 ^ 40 → GuidedCycles arrivals old reports new →
    GuidedCycles arrivals old reports' new' → Ending new.hardware reason left reports →
    Ending new'.hardware reason' left reports' → IsOneRun reports reports' new new' reason reason'
one_run predictor is within ended ended (at_limit why) (at_limit why') =
    record { reports_are = refl; ends = refl; reasons = why ∙ sym why' }
one_run predictor is within ended ended (at_exhaustion why full) (at_exhaustion why' full') =
    record { reports_are = refl; ends = refl; reasons = why ∙ sym why' }
one_run predictor is within ended (cycled next more) (at_limit why) ending = elim ending [ ]
one_run predictor is within (cycled next more) ended ending (at_limit why) = elim ending [ ]
one_run predictor is within ended (cycled next more) (at_exhaustion why full) ending =
    absurd (omega (arith, within, full))
one_run predictor is within (cycled next more) ended ending (at_exhaustion why full) =
    absurd (omega (arith, within, full))
one_run {reason = reason} predictor is within (cycled {report = r} next ended) (cycled {report = r'} next' ended)
    (at_stop stops) (at_stop stops') =
    let reports = reported_once next next' in
    record {
      reports_are = ap (λ x. x ∷ []) reports;
      ends = cycle_once predictor is next next';
      reasons = ap (λ o. unwrap_or o reason) (sym stops ∙ ap (λ (x : Report). x.stop) reports ∙ stops');
    }
one_run predictor is within (cycled {report = r} next ended) (cycled {report = r'} next' more) (at_stop stops)
    (after none ending) =
    absurd (stops_or_not (reported_once next next') stops none)
one_run predictor is within (cycled {report = r} next more) (cycled {report = r'} next' ended) (after none ending)
    (at_stop stops) =
    absurd (stops_or_not (sym (reported_once next next')) stops none)
one_run {arrivals} {new' = new'} {reports' = reports'} predictor is within
    (cycled {middle = middle} {report = r} {reports = rs} next more)
    (cycled {middle = middle'} {report = r'} {reports = rs'} next' more') (after none ending) (after none' ending') =
    let lessons = lessons_of r.steps middle.hardware.pc in
    let described = next.learns ∙ ap (λ p. fold after_lesson p lessons) is ∙ still_described predictor lessons in
    let counted = ap (λ (h : Hardware). h.cycle) next.cycle.others_stay in
    let same = one_run (fold taught predictor lessons) described (omega (arith, within, counted)) more
    (subst (λ h. GuidedCycles arrivals h rs' new') (sym (cycle_once predictor is next next')) more') ending ending' in
    record {
      reports_are = λ i. reported_once next next' i ∷ same.reports_are i;
      ends = same.ends;
      reasons = same.reasons;
    }

-- two runs of at most `limit` cycles from the same hardware with the same described predictor are one
pub run_once : (arrivals : List Arrival) (limit : ℕ) (old : Hardware) (predictor : DescribedPredictor)
    (reports reports' : List Report) (new new' : GuidedHardware) (reason reason' : Stop) →
    old.cycle + limit ≤ 2 ^ 40
    → GuidedCycles arrivals (record { hardware = old; predictor = guide_of predictor }) reports new →
    IsStop limit reports new.hardware reason
    → GuidedCycles arrivals (record { hardware = old; predictor = guide_of predictor }) reports' new' →
    IsStop limit reports' new'.hardware reason' → IsOneRun reports reports' new new' reason reason'
run_once arrivals limit old predictor reports reports' new new' reason reason' within cycles stops cycles' stops' =
    one_run predictor refl within cycles cycles' (ending_of limit reports new.hardware reason stops)
    (ending_of limit reports' new'.hardware reason' stops')
