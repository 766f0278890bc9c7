-- What was shown of a run that is watched is what it reported, at each cycle and at its end.
use Rattle.rv_hardware.proofs.Words.{◌≡◌, ℕ, ◌+◌, ◌^◌, ◌<◌, ◌≤◌, List, [], ◌∷◌, ◌++◌, length, Some, None, Option}
use Rattle.rv_hardware.proofs.Words.{sym, refl, ap, ◌∙◌, subst, arith, length-append, lines_at, Arrival, Lines, Stop}
use Rattle.rv_hardware.proofs.Words.{Hardware, Report, IsStop, NoneStops, Reachable, steps_of}
use Rattle.std.proofs.Common.{Err, Ok, Result}
use Rattle.rv_front.specs.Guide.{Guide}
use Rattle.rv_hardware.specs.Guided.{GuidedCycles, GuidedHardware, IsGuidedCycle, cycled as guided_cycled}
use Rattle.rv_hardware.specs.Guided.{ended as guided_ended, guided}
use Rattle.rv_hardware.specs.History.{History, Moment, cycled, ended, reports_of}
use Rattle.rv_hardware.specs.declared.step.Step.{Step}
use Rattle.rv_hardware.proofs.AnyPrediction.{cycles_of}
use Rattle.rv_hardware.proofs.Headline.Reached.{cycles_counted}
use Rattle.rv_watch.specs.Progress.{IsBounded, IsCommitStop, IsNextCycle, progress_after, progress_of}
use Rattle.rv_watch.specs.Watching.{HaveFewSteps, IsEnd, IsShown, IsWatchedRun, Sight, Watched, watched}
use Rattle.rv_watch.specs.declared.progress.Progress.{Progress}
use Rattle.rv_watch.proofs.RunReports.{NoneStops-push, progress-bounded, progress_of-push, steps_of-push}
use Rattle.rv_watch.proofs.RunStops.{is_stop}

-- what one more cycle reported comes last
pub reports_of-push : (moments : List Moment) (last : Moment) →
    reports_of (moments ++ last ∷ []) ≡ reports_of moments ++ last.report ∷ []
reports_of-push [] last = refl
reports_of-push (moment ∷ moments) last = ap (λ l. moment.report ∷ l) (reports_of-push moments last)

-- and its steps
pub shown_steps-push : (moments : List Moment) (last : Moment) →
    steps_of (reports_of (moments ++ last ∷ [])) ≡ steps_of (reports_of moments) ++ last.report.steps
shown_steps-push moments last = ap steps_of (reports_of-push moments last)
    ∙ steps_of-push (reports_of moments) last.report

few_steps-push : (moments : List Moment) (last : Moment) → HaveFewSteps moments → length last.report.steps ≤ 8 →
    HaveFewSteps (moments ++ last ∷ [])
few_steps-push moments last few more =
    omega (
      arith,
      few,
      more,
      ap length (shown_steps-push moments last),
      length-append (steps_of (reports_of moments)) last.report.steps,
      ap length (reports_of-push moments last),
      length-append (reports_of moments) (last.report ∷ []),
    )

-- a history goes on by one more cycle
pub History-push : {arrivals : List Arrival} {old now : GuidedHardware} {moments : List Moment} (last : Moment)
    {predictor : Guide} → History arrivals old moments now
    → IsGuidedCycle (lines_at arrivals now.hardware.cycle) now last.report (guided last.after predictor) →
    History arrivals old (moments ++ last ∷ []) (guided last.after predictor)
History-push last ended cycle = cycled cycle ended
History-push last (cycled first rest) cycle = cycled first (History-push last rest cycle)

-- the cycles of a history
pub cycles_shown : {arrivals : List Arrival} {old new : GuidedHardware} {moments : List Moment} →
    History arrivals old moments new → GuidedCycles arrivals old (reports_of moments) new
cycles_shown ended = guided_ended
cycles_shown (cycled cycle rest) = guided_cycled cycle (cycles_shown rest)

-- each moment is a cycle that is counted
pub moments_counted : {arrivals : List Arrival} {old new : GuidedHardware} {moments : List Moment} →
    History arrivals old moments new → new.hardware.cycle ≡ old.hardware.cycle + length (reports_of moments)
moments_counted passes = cycles_counted (cycles_of (cycles_shown passes))

-- what a run came to by the values that its end hands on
pub ended_as : {T Refusal : Type 0} {has_seen : Sight T} {arrivals : List Arrival} {limit : ℕ}
    {old new : GuidedHardware}
    {progress progress' : Progress} {end end' : Result Stop Refusal} {watcher watcher' : T}
    {output output' : Option (List ℕ)} →
    progress' ≡ progress → end' ≡ end
    → IsWatchedRun has_seen arrivals limit old new progress end watcher watcher' output output' →
    IsWatchedRun has_seen arrivals limit old new progress' end' watcher watcher' output output'
ended_as progress_is end_is run = rw (progress_is, end_is) run

-- a run that was not refused stopped for its reason
pub stops_by : {T Refusal : Type 0} {has_seen : Sight T} {arrivals : List Arrival} {limit : ℕ}
    {old new : GuidedHardware}
    {progress : Progress} {end : Result Stop Refusal} {watcher watcher' : T} {output output' : Option (List ℕ)}
    → (run : IsWatchedRun has_seen arrivals limit old new progress end watcher watcher' output output') →
    (stop : Stop) →
    end ≡ Ok stop → IsStop limit (reports_of run.moments) new.hardware stop
stops_by {limit = limit} {new = new} run stop is =
    subst (λ e. IsEnd limit (reports_of run.moments) new.hardware e) is run.ends

-- a run that was refused had not stopped
pub cut_short_by : {T Refusal : Type 0} {has_seen : Sight T} {arrivals : List Arrival} {limit : ℕ}
    {old new : GuidedHardware}
    {progress : Progress} {end : Result Stop Refusal} {watcher watcher' : T} {output output' : Option (List ℕ)}
    → (run : IsWatchedRun has_seen arrivals limit old new progress end watcher watcher' output output') →
    (refusal : Refusal) →
    end ≡ Err refusal → NoneStops (reports_of run.moments) × (length (reports_of run.moments) < limit)
cut_short_by {limit = limit} {new = new} run refusal is =
    subst (λ e. IsEnd limit (reports_of run.moments) new.hardware e) is run.ends

-- a cycle counts one
pub cycle_counts : {lines : Lines} {old new : GuidedHardware} {report : Report} → IsGuidedCycle lines old report new →
    new.hardware.cycle ≡ old.hardware.cycle + 1
cycle_counts next = ap (λ (h : Hardware). h.cycle) next.cycle.others_stay

module _ {T : Type 0} (has_seen : Sight T) (arrivals : List Arrival) (old : GuidedHardware) (watcher : T)
    (output : Option (List ℕ)) where
  -- the watcher has seen nothing yet
  abbrev pub BeginsToSee : Option (List ℕ) → Type 0
  BeginsToSee before = has_seen watcher watcher (watched arrivals old [] old) before output

  -- the cycles so far, none of which stopped the run, were counted and shown
  pub record IsWatching (now : GuidedHardware) (progress : Progress) (watcher' : T)
      (output' : Option (List ℕ)) : Type 0 where
    pub moments : List Moment
    pub passes : History arrivals old moments now
    pub few : HaveFewSteps moments
    pub none_stops : NoneStops (reports_of moments)
    pub counted : progress ≡ progress_of (reports_of moments)
    pub seen : (before : Option (List ℕ)) → BeginsToSee before →
        has_seen watcher watcher' (watched arrivals old moments now) before output'

  -- before the first cycle nothing was shown
  pub watching_nothing : (progress : Progress) → progress ≡ progress_of [] → IsWatching old progress watcher output
  watching_nothing progress none =
      record {
        moments = [];
        passes = ended;
        few = omega arith;
        none_stops = tt;
        counted = none;
        seen = λ before begins. begins;
      }

  module _ {now : GuidedHardware} {progress : Progress} {watcher' : T} {output' : Option (List ℕ)}
      (watching : IsWatching now progress watcher' output') where
    -- the counts so far lie within the bounds
    pub bounded_so_far : IsBounded progress
    bounded_so_far = subst IsBounded (sym watching.counted) (progress-bounded (reports_of watching.moments))

    -- as many reports as cycles
    pub so_many_shown : (n : ℕ) → progress.cycles ≡ n → length (reports_of watching.moments) ≡ n
    so_many_shown n is = sym (ap (λ (p : Progress). p.cycles) watching.counted) ∙ is

    -- the watcher changed between two cycles
    pub watching_still : {kept : T} →
        ((start : T) (seen : Watched) (before held : Option (List ℕ)) → has_seen start watcher' seen before held →
        has_seen start kept seen before held) → IsWatching now progress kept output'
    watching_still keeps = record {
      moments = watching.moments;
      passes = watching.passes;
      few = watching.few;
      none_stops = watching.none_stops;
      counted = watching.counted;
      seen = λ before begins. keeps watcher _ before output' (watching.seen before begins);
    }

    -- it ended between two cycles
    pub watched_to : {Refusal : Type 0} (limit : ℕ) (end : Result Stop Refusal) →
        IsEnd limit (reports_of watching.moments) now.hardware end →
        IsWatchedRun has_seen arrivals limit old now progress end watcher watcher' output output'
    watched_to limit end ends =
        record {
          moments = watching.moments;
          passes = watching.passes;
          counted = watching.counted;
          ends = ends;
          seen = watching.seen;
        }

    -- one more cycle, which is shown
    module _ {after : Hardware} {predictor : Guide} {cleared list steps : List Step} {progress' : Progress}
        {stop : Option Stop} {cycle : ℕ}
        (next : IsNextCycle arrivals now (guided after predictor) cleared list progress progress'
        stop) (none : cleared ≡ [])
        (listed : steps ≡ list)
        (reached : Reachable now.hardware) (number : cycle ≡ now.hardware.cycle) (within : cycle < 2 ^ 40) where
      pub steps_are : steps ≡ next.report.steps
      steps_are = listed ∙ next.steps_are ∙ ap (λ l. l ++ next.report.steps) none

      -- the next cycle is what is to be shown
      abbrev pub shown_now : IsShown (watched arrivals old watching.moments now) cycle steps after progress'
      shown_now = record {
        report = next.report;
        predictor = predictor;
        passes = watching.passes;
        few_before = watching.few;
        reached = reached;
        cycled = next.cycle;
        number = number;
        counted = within;
        steps_are = steps_are;
        few = omega (arith, next.few, ap length steps_are);
        progress_is = next.counted ∙ ap (progress_after next.report) watching.counted
            ∙ sym (progress_of-push (reports_of watching.moments) next.report);
      }

      abbrev moment : Moment
      moment = record { report = next.report; after = after }

      abbrev moments_now : List Moment
      moments_now = watching.moments ++ moment ∷ []

      abbrev new : GuidedHardware
      new = guided after predictor

      counted_now : progress' ≡ progress_of (reports_of moments_now)
      counted_now = shown_now.progress_is ∙ sym (ap progress_of (reports_of-push watching.moments moment))

      module _ {watcher'' : T} {output'' : Option (List ℕ)}
          (sees : (before : Option (List ℕ)) →
          has_seen watcher watcher' (watched arrivals old watching.moments now) before output' →
          has_seen watcher watcher'' (watched arrivals old moments_now new) before output'') where
        -- with one more cycle, which does not stop, the run goes on
        pub watching_on : stop ≡ None → IsWatching new progress' watcher'' output''
        watching_on goes = record {
          moments = moments_now;
          passes = History-push moment watching.passes next.cycle;
          few = few_steps-push watching.moments moment watching.few next.few;
          none_stops = subst NoneStops (sym (reports_of-push watching.moments moment))
              (NoneStops-push (reports_of watching.moments) next.report watching.none_stops (next.stop_is ∙ goes));
          counted = counted_now;
          seen = λ before begins. sees before (watching.seen before begins);
        }

        -- and with one that stops it is over
        pub watched_to_stop : {Refusal : Type 0} (limit : ℕ) (reason : Stop) → stop ≡ Some reason →
            progress.cycles < limit →
            IsWatchedRun {Refusal = Refusal} has_seen arrivals limit old new progress'
            (Ok reason) watcher watcher'' output output''
        watched_to_stop {Refusal} limit reason is short = record {
          moments = moments_now;
          passes = History-push moment watching.passes next.cycle;
          counted = counted_now;
          ends = subst (λ (reports : List Report). IsEnd {Refusal = Refusal} limit reports after (Ok reason))
              (sym (reports_of-push watching.moments moment))
              (is_stop limit (reports_of watching.moments) next.report after reason
              watching.none_stops (next.stop_is ∙ is)
              (subst IsCommitStop is next.reason) (omega (arith, so_many_shown progress.cycles refl, short)));
          seen = λ before begins. sees before (watching.seen before begins);
        }
