-- A path that follows a run that is shown: one cycle more, and the end.
use Rattle.std.proofs.Common.{◌≡◌, ◌∙◌, ℕ, ◌-◌, ◌≤◌, List, [], ◌∷◌, Some, length, ap, arith, subst, sym}
use Rattle.std.specs.Prelude.{sum}
use Rattle.std.proofs.lemmas.List.Sums.{fold-append}
use Rattle.rv_isa.specs.declared.lines.Arrival.{Arrival}
use Rattle.rv_arch.specs.declared.outcome.Stop.{Stop}
use Rattle.rv_watch.specs.Progress.{progress_of}
use Rattle.rv_watch.specs.Watching.{Watched, watched, with_shown}
use Rattle.rv_watch.specs.declared.progress.Progress.{Progress}
use Rattle.rv_hardware.specs.Guided.{GuidedHardware}
use Rattle.rv_hardware.specs.History.{Moment, reports_of}
use Rattle.rv_passage.specs.EndedRun.{IsEndedRun}
use Rattle.rv_passage.proofs.EndedRun.{length-reports_of}
use Rattle.rv_view.specs.Viewing.{IsNextCycle, cycle_shown, cycles_seen}
use Rattle.rv_view.specs.declared.shown_cycle.ShownCycle.{ShownCycle}
use Rattle.rv_view.proofs.EndedView.{cycles_seen-push}
use Rattle.rv_causes.specs.Account.{Accounted, AreWithin, account_of, words_cycles}
use Rattle.rv_causes.specs.Event.{with_events}
use Rattle.rv_causes.specs.Keeping.{IsFollowed, IsKnown, known_of_path, known_shown, made_shown}
use Rattle.rv_causes.specs.Path.{Known, end_of, known_after, known_at, known_in, known_of, setting_in}
use Rattle.rv_causes.specs.Reading.{CycleRead, read_of}
use Rattle.rv_causes.specs.Setting.{last_left}
use Rattle.rv_causes.specs.Walk.{path_to}
use Rattle.rv_causes.specs.Window.{IsWindow}
use Rattle.rv_causes.specs.declared.{before.Before.Before, event.Event.Event}
use Rattle.rv_causes.specs.declared.{path.Path.Path, word_cycles.WordCycles.WordCycles}
use Rattle.rv_causes.proofs.Accounts.{adds_up, cycles-all}
use Rattle.rv_causes.proofs.Followed.{PassesIn, followed_on}
use Rattle.rv_causes.proofs.Walks.{path-in_time}
use Rattle.rv_causes.proofs.Within.{comes_in_time}
use Rattle.rv_causes.proofs.WordSums.{words-within, words_add_up}
use Rattle.rv_path.specs.OnPath.{IsOnPath, read_by}
use Rattle.rv_path.specs.Run.{IsAccounted}

-- what is known with one more cycle
pub known-shown : {seen : Watched} {cycle : ShownCycle} (next : IsNextCycle seen cycle) (path : Path) →
    IsOnPath path seen
    → known_shown (read_by cycle) (known_of_path path (known_of seen.first.hardware (cycles_seen seen)).events)
    ≡ known_of seen.first.hardware (cycles_seen (with_shown seen next.shown))
known-shown {seen = seen} {cycle = cycle} next path on =
    let shown = next.shown in
    let hardware = cycle.hardware.now in
    let after = read_of hardware in
    let first = seen.first.hardware in
    let elapsed = ap (λ (p : Progress). p.cycles - 1) shown.progress_is in
    (λ i. known_in (setting_in (shown.number i) (elapsed i) (next.rows_are i) hardware (on.known i))
    (on.known i).ways (on.known i).events
    (shown.steps_are i) after)
    ∙ sym (fold-append known_after (known_at first) (cycles_seen seen) (cycle_shown seen shown ∷ []))
    ∙ ap (known_of first) (sym (cycles_seen-push seen shown))

-- one more cycle, of which this was read
pub pathing_on : {seen : Watched} {cycle : ShownCycle} (next : IsNextCycle seen cycle) (read : CycleRead)
    (path path' : Path) → read ≡ read_by cycle
    → IsOnPath path seen
    → ((events : List Event) →
    known_of_path path' (with_events (made_shown read (known_of_path path events)) events)
    ≡ known_shown read (known_of_path path events))
    → IsFollowed (made_shown read (known_of_path path [])) path.window path'.window →
    IsOnPath path' (with_shown seen next.shown)
pathing_on {seen = seen} {cycle = cycle} next read path path' is on followed made_is =
    let k = known_of seen.first.hardware (cycles_seen seen) in
    let read-is = ap (λ (one : CycleRead). known_shown one (known_of_path path k.events)) is in
    subst (IsKnown path') (read-is ∙ known-shown next path on) (followed_on path path' read k on followed made_is)

-- the account of the run
pub accounted_run : {arrivals : List Arrival} {limit : ℕ} {old new : GuidedHardware} {moments : List
    Moment} {stop : Stop} {progress : Progress} (path : Path) (account : Accounted)
    → IsOnPath path (watched arrivals old moments new) → IsEndedRun arrivals limit old moments new stop
    → progress ≡ progress_of (reports_of moments)
    → ((all : List Event) → IsWindow path.window all → PassesIn path (last_left path.before.left) →
    account ≡ account_of (end_of progress.cycles path.before ∷ path_to all (Some (last_left path.before.left).at)))
    → IsAccounted arrivals limit old new stop progress.cycles account
accounted_run {arrivals = arrivals} {old = old} {new = new} {moments = moments} {progress = progress} path account on
    run counted accounts =
    let k = known_of old.hardware (cycles_seen (watched arrivals old moments new)) in
    let n = length moments in
    let cycles : progress.cycles ≡ n = ap (λ (p : Progress). p.cycles) counted ∙ length-reports_of moments in
    let before : path.before ≡ k.before = ap (λ (k : Known). k.before) on.known in
    let passes : PassesIn path (last_left path.before.left) =
    subst (λ (b : Before). PassesIn path (last_left b.left)) (sym before) on.passes.before.left in
    let to_end = path_to k.events (Some (last_left k.before.left).at) in
    let account_is =
    accounts k.events on.window passes
    ∙ (λ i. account_of (end_of (cycles i) (before i) ∷ path_to k.events (Some (last_left (before i).left).at))) in
    let whole = end_of n k.before ∷ to_end in
    let in-time = path-in_time n k.events (Some (last_left k.before.left).at)
    (comes_in_time old.hardware moments).events in
    let all : (account_of whole).cycles ≡ progress.cycles =
    cycles-all (end_of n k.before) to_end in-time ∙ sym cycles in
    let words_are : account.words ≡ (account_of whole).words = ap (λ (a : Accounted). a.words) account_is in
    record {
      moments = moments;
      run = run;
      cycles_are = cycles;
      account_is = account_is;
      adds_up =
          ap (λ (a : Accounted). sum a.causes) account_is ∙ adds_up whole ∙ all;
      each_word =
          subst (λ (w : List WordCycles). AreWithin progress.cycles w) (sym words_are)
          (subst (λ (m : ℕ). AreWithin m (account_of whole).words) all (words_add_up whole));
      all_words = subst (λ (w : List WordCycles). words_cycles w ≤ progress.cycles) (sym words_are)
          (omega (arith, words-within whole, all));
    }
