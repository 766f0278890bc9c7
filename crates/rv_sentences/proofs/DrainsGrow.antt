-- The drains of a run by their stores, with one cycle more.
use Rattle.std.proofs.Common.{◌≡◌, ◌∙◌, ℕ, suc, ◌^◌, ◌≤◌, List, [], ◌∷◌, ◌++◌, length, Option, refl, ap, sym, arith}
use Rattle.rv_isa.specs.declared.{lines.Arrival.Arrival, values.Values.Values}
use Rattle.rv_hardware.specs.Guided.{GuidedHardware}
use Rattle.rv_hardware.specs.Hardware.{Hardware}
use Rattle.rv_hardware.specs.History.{History, Moment, cycled, ended}
use Rattle.rv_counts.specs.declared.loads.LoadCosts.{LoadCosts}
use Rattle.rv_sentences.specs.Drain.{drain_in}
use Rattle.rv_sentences.specs.Drained.{CanCountStore, drained_from, drained_of, hit_at, miss_at, oldest_drained}
use Rattle.rv_sentences.specs.Drained.{still_waiting, store_counts, waiting_from, waiting_in, waiting_of, with_drained}
use Rattle.rv_sentences.specs.Drained.{write_back_at}
use Rattle.rv_sentences.specs.declared.drained.Drained.{Drained}
use Rattle.rv_sentences.proofs.CountSums.{counted_within}
use Rattle.rv_sentences.proofs.CountsGrow.{with_last_at}

waiting_from-push : {arrivals : List Arrival} {old now : GuidedHardware} {moments : List Moment} (waiting : List ℕ)
    (moment : Moment) → History arrivals old moments now
    → waiting_from arrivals waiting old.hardware (moments ++ moment ∷ [])
    ≡ still_waiting (drain_in arrivals now.hardware)
    (waiting_in now.hardware moment (waiting_from arrivals waiting old.hardware moments))
waiting_from-push waiting moment ended = refl
waiting_from-push {arrivals = arrivals} {old = old} waiting moment (cycled {moment = first} cycle rest) =
    waiting_from-push (still_waiting (drain_in arrivals old.hardware) (waiting_in old.hardware first waiting)) moment
    rest

drained_from-push : {arrivals : List Arrival} {old now : GuidedHardware} {moments : List Moment} (waiting : List ℕ)
    (moment : Moment) → History arrivals old moments now
    → drained_from arrivals waiting old.hardware (moments ++ moment ∷ [])
    ≡ drained_from arrivals waiting old.hardware moments
    ++ oldest_drained (drain_in arrivals now.hardware)
    (waiting_in now.hardware moment (waiting_from arrivals waiting old.hardware moments)) ∷ []
drained_from-push waiting moment ended = refl
drained_from-push {arrivals = arrivals} {old = old} waiting moment (cycled {moment = first} cycle rest) =
    ap (λ drains. oldest_drained (drain_in arrivals old.hardware) (waiting_in old.hardware first waiting) ∷ drains)
    (drained_from-push (still_waiting (drain_in arrivals old.hardware) (waiting_in old.hardware first waiting)) moment
    rest)

module _ {arrivals : List Arrival} {old now : GuidedHardware} {moments : List Moment} (moment : Moment)
    (passes : History arrivals old moments now) where
  abbrev waiting_now : List ℕ
  waiting_now = waiting_in now.hardware moment (waiting_of arrivals old.hardware moments)

  abbrev drained_now : Option Drained
  drained_now = oldest_drained (drain_in arrivals now.hardware) waiting_now

  -- the stores that still wait for their drain, with one cycle more
  pub waiting-push : still_waiting (drain_in arrivals now.hardware) waiting_now
      ≡ waiting_of arrivals old.hardware (moments ++ moment ∷ [])
  waiting-push = sym (waiting_from-push [] moment passes)

  -- the drains of the stores in each word
  pub store_counts-push : (values : Values) (costs : LoadCosts) →
      with_drained costs drained_now (store_counts values costs (drained_of arrivals old.hardware moments))
      ≡ store_counts values costs (drained_of arrivals old.hardware (moments ++ moment ∷ []))
  store_counts-push values costs =
      let before = drained_of arrivals old.hardware moments in
      let hits = with_last_at values (hit_at costs) before drained_now in
      let misses = with_last_at values (miss_at costs) before drained_now in
      let write_backs = with_last_at values (write_back_at costs) before drained_now in
      (λ i. record { hits = hits i; misses = misses i; write_backs = write_backs i })
      ∙ ap (store_counts values costs) (sym (drained_from-push [] moment passes))

length-drained_from : (arrivals : List Arrival) (waiting : List ℕ) (h : Hardware) (moments : List Moment) →
    length (drained_from arrivals waiting h moments) ≡ length moments
length-drained_from arrivals waiting h [] = refl
length-drained_from arrivals waiting h (moment ∷ moments) =
    ap suc (length-drained_from arrivals
    (still_waiting (drain_in arrivals h) (waiting_in h moment waiting)) moment.after moments)

-- those of so many cycles can go on
pub can_count_store : (values : Values) (costs : LoadCosts) (arrivals : List Arrival) (h : Hardware)
    (moments : List Moment) → length moments ≤ 2 ^ 40 →
    CanCountStore (store_counts values costs (drained_of arrivals h moments))
can_count_store values costs arrivals h moments few = grind (arith, length-drained_from, counted_within)
