-- The gaps of a run are below the bound.
use Rattle.rv_hardware.proofs.Words.{◌≡◌, ℕ, ◌+◌, ◌<◌, ◌≤◌, Bool, true, cond, List, [], ◌∷◌, ◌++◌, length, None, sym}
use Rattle.rv_hardware.proofs.Words.{refl, ap, ◌∙◌, subst, arith, cond-true, gap_bound_of, Arrival, Lines, Values, Stop}
use Rattle.rv_hardware.proofs.Words.{IsCycle, any_prediction, AreSilent, NoSilence, OnlyLastStops, Hardware, Report}
use Rattle.rv_hardware.proofs.Words.{Cycles, EndsWith, IsStop, NoneStops, cycled, ended, is_silent, longest_gap_from}
use Rattle.rv_hardware.proofs.Words.{longest_gap_of, Step, by_test}
use Rattle.rv_arch.specs.declared.outcome.Stop.TheVariants as stop
use Rattle.rv_hardware.proofs.Gap.Bound.{patience-below}
use Rattle.rv_hardware.proofs.Marks.Cited.{phases-keep, same-kept, IsBounded, sound, sound-cycle}
use Rattle.rv_hardware.proofs.Gap.Fall.{fall}
use Rattle.rv_hardware.proofs.Gap.Patience.{patience}

-- ---- one cycle more
no_steps : (steps : List Step) → is_silent steps ≡ true → steps ≡ []
no_steps steps silent = grind arith

module _ (bound silent before after : ℕ) (report : Report)
    (falls : report.steps ≡ [] → report.stop ≡ None → after + 1 ≤ before) (starts : after + 1 < bound)
    (below : silent + before + 1 < bound) where
  cycle_below : (reports : List Report) →
      ((more : ℕ) → more + after + 1 < bound → OnlyLastStops reports → longest_gap_from more reports < bound) →
      OnlyLastStops (report ∷ reports) → longest_gap_from silent (report ∷ reports) < bound
  cycle_below reports next only = grind (arith, by_test, no_steps)

same_values : {lines : Lines} {old new : Hardware} {report : Report} → IsCycle any_prediction lines old report new →
    new.values ≡ old.values
same_values {lines} {old} {new} cycle =
    ap (λ (h : Hardware). h.values) cycle.others_stay ∙
    (phases-keep (same-kept old.values old.cache.values old.cycle) cycle (refl, refl, refl)).0

gaps_below : {arrivals : List Arrival} {bound : ℕ} (silent : ℕ) {old new : Hardware} {reports : List Report} →
    Cycles arrivals old reports new → IsBounded old → gap_bound_of old.values ≡ bound →
    silent + patience old + 1 < bound → OnlyLastStops reports → longest_gap_from silent reports < bound
gaps_below silent ended well is below only = omega arith
gaps_below {arrivals} {bound} silent {old}
    (cycled {middle = middle} {report = report} {reports = reports} cycle rest) well is below only =
    let next_well : IsBounded middle = sound-cycle cycle well in
    let next_is : gap_bound_of middle.values ≡ bound = ap (λ (v : Values). gap_bound_of v) (same_values cycle) ∙ is in
    cycle_below bound silent (patience old) (patience middle) report (λ silent going. fall cycle well silent going)
    (omega (arith, patience-below next_well, next_is)) below reports
    (λ more under last. gaps_below more rest next_well next_is under last) only

-- ---- consecutive silent cycles
same_test : (b : Bool) (x x' y y' : ℕ) → x ≤ x' → y ≤ y' → cond b x y ≤ cond b x' y'
same_test b x x' y y' first second = grind arith

more_before : (few more : ℕ) (reports : List Report) → few ≤ more →
    longest_gap_from few reports ≤ longest_gap_from more reports
more_before few more [] less = less
more_before few more (report ∷ reports) less =
    grind (arith, same_test, more_before (few + 1) (more + 1) reports (omega arith))

longest_before : (silent : ℕ) (reports : List Report) → silent ≤ longest_gap_from silent reports
longest_before silent [] = omega arith
longest_before silent (report ∷ reports) = grind (arith, by_test, longest_before (silent + 1) reports)

longest_after : (silent : ℕ) (report : Report) (reports : List Report) →
    longest_gap_from 0 reports ≤ longest_gap_from silent (report ∷ reports)
longest_after silent report reports = grind (arith, by_test, more_before)

silent_first : (before : ℕ) (silent after : List Report) → AreSilent silent →
    before + length silent ≤ longest_gap_from before (silent ++ after)
silent_first before [] after quiet = omega (arith, longest_before before after)
silent_first before (report ∷ silent) after quiet =
    grind (arith, cond-true, silent_first (before + 1) silent after quiet.1)

silent_among : (earlier : ℕ) (before silent after : List Report) → AreSilent silent →
    length silent ≤ longest_gap_from earlier (before ++ silent ++ after)
silent_among earlier [] silent after quiet = omega (arith, silent_first earlier silent after quiet)
silent_among earlier (report ∷ before) silent after quiet =
    grind (arith, longest_after, silent_among 0 before silent after quiet)

-- ---- the whole run
pub no_silence : NoSilence
no_silence arrivals old new reports reached run only =
    let well = sound reached in
    let longest : longest_gap_of reports < gap_bound_of old.values =
    gaps_below 0 run well refl (omega (arith, patience-below well)) only in
    record {
      longest = longest;
      consecutive = λ before silent after is quiet.
          omega (arith, longest, ap longest_gap_of is, silent_among 0 before silent after quiet);
    }

-- ---- where none stops, and where the last does
pub none_stops-only_last : (reports : List Report) → NoneStops reports → OnlyLastStops reports
none_stops-only_last [] none = tt
none_stops-only_last (report ∷ []) none = tt
none_stops-only_last (report ∷ next ∷ reports) none = (none.0, none_stops-only_last (next ∷ reports) none.1)

one_more : (earlier : List Report) (last : Report) → NoneStops earlier → OnlyLastStops (earlier ++ last ∷ [])
one_more [] last none = tt
one_more (report ∷ []) last none = (none.0, tt)
one_more (report ∷ next ∷ earlier) last none = (none.0, one_more (next ∷ earlier) last none.1)

pub ends_with-only_last : {reason : Stop} {reports : List Report} → EndsWith reason reports → OnlyLastStops reports
ends_with-only_last ends = subst OnlyLastStops (sym ends.all) (one_more ends.earlier ends.last ends.none_before)

-- in a run that stops for a reason, no cycle but the last stops
pub is_stop-only_last : (limit : ℕ) (reports : List Report) (new : Hardware) (reason : Stop) →
    IsStop limit reports new reason → OnlyLastStops reports
is_stop-only_last limit reports new stop.Limit is = none_stops-only_last reports is.0
is_stop-only_last limit reports new stop.Breakpoint is = ends_with-only_last is.0
is_stop-only_last limit reports new (stop.Stale pc) is = ends_with-only_last is.0
is_stop-only_last limit reports new stop.Exhausted is = none_stops-only_last reports is.0
