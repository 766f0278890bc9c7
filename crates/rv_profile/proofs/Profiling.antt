-- A run under way whose instructions are counted: one more cycle of it, and its end.
use Rattle.std.proofs.Common.{◌≡◌, ◌∙◌, ℕ, ◌+◌, ◌*◌, ◌^◌, ◌≤◌, List, [], ◌∷◌, ◌++◌, length, filter}
use Rattle.std.proofs.Common.{Option, refl, ap, sym, subst, arith, append_assoc, append-nil}
use Rattle.std.specs.Option.{option_to_list}
use Rattle.rv_isa.specs.declared.lines.Arrival.{Arrival}
use Rattle.rv_isa.specs.declared.values.Values.{Values}
use Rattle.rv_arch.specs.declared.outcome.Stop.{Stop}
use Rattle.rv_cache.specs.WriteBack.{Each}
use Rattle.rv_watch.specs.Watching.{Watched, watched, with_shown}
use Rattle.rv_watch.proofs.Shown.{cycle_counts}
use Rattle.rv_hardware.specs.Guided.{GuidedHardware}
use Rattle.rv_hardware.specs.History.{Moment}
use Rattle.rv_passage.specs.EndedRun.{IsEndedRun}
use Rattle.rv_passage.specs.Followed.{HasOpen}
use Rattle.rv_passage.specs.Table.{Passages, passages_of, still_open}
use Rattle.rv_passage.specs.Walk.{passages_after}
use Rattle.rv_passage.specs.declared.passage.Passage.{Passage}
use Rattle.rv_passage.specs.declared.table.Table.{Table}
use Rattle.rv_counts.specs.Counts.{IsWithin}
use Rattle.rv_counts.specs.Following.{CanCountMore, HasRoom, Profiled, with_cycle, with_head, with_passages}
use Rattle.rv_counts.specs.Head.{head_of, heads_of}
use Rattle.rv_counts.specs.Left.{left_after, passages_of_run}
use Rattle.rv_counts.specs.Load.{costs_of}
use Rattle.rv_counts.specs.Passing.{has_left}
use Rattle.rv_counts.specs.Profile.{IsProfileOf}
use Rattle.rv_counts.specs.declared.{counts.WordCounts.WordCounts, loads.LoadCosts.LoadCosts}
use Rattle.rv_counts.proofs.Changes.{each-by}
use Rattle.rv_counts.proofs.Left.{left-push}
use Rattle.rv_counts.proofs.Profiles.{profile-head, profile-nothing, profile-passages}
use Rattle.rv_counts.proofs.Rooms.{filter-le, within-head, within-more, within-passages}
use Rattle.rv_profile.specs.Keeping.{IsProfiling}
use Rattle.rv_profile.specs.Run.{IsCounted}
use Rattle.rv_view.specs.Viewing.{IsNextCycle}
use Rattle.rv_view.specs.declared.shown_cycle.ShownCycle.{ShownCycle}

-- the heads of one cycle more
heads_of-push : (moments : List Moment) (last : Moment) →
    heads_of (moments ++ last ∷ []) ≡ option_to_list (head_of last.after) ++ heads_of moments
heads_of-push [] last = sym (append-nil (option_to_list (head_of last.after)))
heads_of-push (moment ∷ moments) last =
    ap (λ heads. heads ++ option_to_list (head_of moment.after)) (heads_of-push moments last)
    ∙ append_assoc (option_to_list (head_of last.after)) (heads_of moments) (option_to_list (head_of moment.after))

-- no cycle yet
pub profiling_nothing : (arrivals : List Arrival) (h : GuidedHardware) (profile : Profiled) → profile.words ≡ [] →
    IsProfiling profile.costs profile (watched arrivals h [] h)
profiling_nothing arrivals h profile none = record {
  costs_are = refl;
  counted = subst (λ words. IsProfileOf profile.costs [] [] words) (sym none) (profile-nothing profile.costs);
  within = subst (λ words. Each (IsWithin (577 * h.hardware.cycle)) words) (sym none) tt;
}

-- one more cycle
module _ {seen : Watched} {cycle : ShownCycle} (next : IsNextCycle seen cycle) {costs : LoadCosts} {profile : Profiled}
    (profiling : IsProfiling costs profile seen) where
  -- its passages and its head can be counted
  pub room_now : length profile.words + 577 ≤ profile.capacity → HasRoom profile (length cycle.rows.now + 1)
  room_now capacity = record {
    capacity = omega (arith, capacity, next.few);
    counts =
        record {
          most = 577 * seen.now.hardware.cycle;
          counts = profiling.within;
          countable = omega (arith, next.few, next.shown.number, next.shown.counted);
        };
  }

  -- and are
  pub profiling_on : (profile' : Profiled) (head : Option ℕ) → head ≡ head_of cycle.hardware.now →
      profile'.costs ≡ profile.costs → profile'.words ≡ with_cycle profile.costs cycle.rows.now head profile.words
      → IsProfiling costs profile' (with_shown seen next.shown)
  profiling_on profile' head head_is same words =
      let after = cycle.hardware.now in
      let rows = cycle.rows.now in
      let moment : Moment = record { report = next.shown.report; after = after } in
      let head_after = head_of after in
      let with_it = with_head head_after profile.words in
      let most = 577 * seen.now.hardware.cycle in
      let left = left_after seen.first.hardware seen.moments in
      let now_left = filter has_left rows in
      let words_now : profile'.words ≡ with_cycle costs rows head_after profile.words =
      words ∙ (λ i. with_cycle (profiling.costs_are i) rows (head_is i) profile.words) in
      let head_now = profile-head costs head_after left (heads_of seen.moments) profile.words profiling.counted in
      let all_now =
      profile-passages costs now_left left (option_to_list head_after ++ heads_of seen.moments) with_it head_now in
      let within_now =
      within-passages costs now_left (most + 1) with_it (within-head head_after most profile.words profiling.within) in
      let lefts : left_after seen.first.hardware (seen.moments ++ moment ∷ []) ≡ now_left ++ left =
      left-push next.shown.passes moment next.rows_are in
      record {
        costs_are = same ∙ profiling.costs_are;
        counted =
            subst (λ ws. IsProfileOf costs (left_after seen.first.hardware (seen.moments ++ moment ∷ []))
            (heads_of (with_shown seen next.shown).moments) ws) (sym words_now)
            (subst (λ l. IsProfileOf costs l (heads_of (with_shown seen next.shown).moments)
            (with_cycle costs rows head_after profile.words)) (sym lefts)
            (subst (λ heads. IsProfileOf costs (now_left ++ left) heads
            (with_cycle costs rows head_after profile.words))
            (sym (heads_of-push seen.moments moment)) all_now));
        within = subst (λ ws. Each (IsWithin (577 * after.cycle)) ws) (sym words_now)
            (each-by _ (λ w is. within-more _ (577 * after.cycle) w
            (omega (arith, filter-le has_left rows, next.few, cycle_counts next.shown.cycled)) is) within_now);
      }

-- the end of a run, at which a table has what is in flight
module _ {arrivals : List Arrival} {old new : GuidedHardware} {moments : List
    Moment} {costs : LoadCosts} {profile : Profiled} {table : Table}
    (profiling : IsProfiling costs profile (watched arrivals old moments new))
    (kept : HasOpen old.hardware moments new.hardware table) where
  -- those in flight can be counted
  pub can_finish : (rows : List Passage) → rows ≡ (passages_of table).rows → new.hardware.cycle ≤ 2 ^ 40 →
      CanCountMore profile.words (length rows)
  can_finish rows rows_are counted = record {
    most = 577 * new.hardware.cycle;
    counts = profiling.within;
    countable = omega (arith, counted, kept.few, ap length rows_are);
  }

  -- the counts of the run
  pub counted_to_the_end : {limit : ℕ} {stop : Stop} (values : Values) (words : List WordCounts) (rows : List Passage) →
      IsEndedRun arrivals limit old moments new stop → rows ≡ (passages_of table).rows → costs ≡ costs_of values
      → words ≡ with_passages profile.costs rows profile.words → IsCounted arrivals limit values old new stop words
  counted_to_the_end values words rows run rows_are costs_is words_are =
      let rows_kept = (passages_after still_open old.hardware moments).rows in
      let last : rows ≡ rows_kept = rows_are ∙ ap (λ (t : Passages). t.rows) kept.followed.passages in
      let words_now : words ≡ with_passages (costs_of values) rows_kept profile.words =
      words_are ∙ (λ i. with_passages ((profiling.costs_are ∙ costs_is) i) (last i) profile.words) in
      record {
        moments = moments;
        run = run;
        counted =
            subst (λ ws. IsProfileOf (costs_of values) (passages_of_run old.hardware moments) (heads_of moments) ws)
            (sym words_now)
            (profile-passages (costs_of values) rows_kept (left_after old.hardware moments)
            (heads_of moments) profile.words
            (subst (λ c. IsProfileOf c (left_after old.hardware moments) (heads_of moments) profile.words) costs_is
            profiling.counted));
      }
