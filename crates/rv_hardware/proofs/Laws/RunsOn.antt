-- A run comes after a history: a row of it after all earlier ones, what tests none of these, and what they leave known.
use Rattle.rv_hardware.proofs.Words.{◌≡◌, ℕ, ◌<◌, ◌≤◌, Bool, true, false, cond, List, [], ◌∷◌, ◌++◌, IfSome, Some, None}
use Rattle.rv_hardware.proofs.Words.{count_by, Option, refl, subst, append_assoc, arith, All-weaker, Values, Each}
use Rattle.rv_hardware.proofs.Words.{Hardware, HasOperandsIn, last_from, producer_among, rows_of, writes_register}
use Rattle.rv_hardware.proofs.Words.{stamp_of, Execution, Row, Step, Each-place, count-count_by, count-append}
use Rattle.rv_hardware.proofs.Words.{count-none, IsBetween, each_then}
use Rattle.rv_hardware.proofs.Marks.Cited.{Shows, fails_later, History, history_is_sound, last_from-append}
use Rattle.rv_hardware.proofs.Marks.Cited.{last_from-Each, Mark, rows_append, SoundRow}

-- where none of the first part passes
count_by-rest : {X : Type 0} (p : X → Bool) (xs ys : List X) → Each (λ x. p x ≡ false) xs →
    count_by p (xs ++ ys) ≡ count_by p ys
count_by-rest p xs ys none =
    let all = count-append p xs ys in
    let zero_first = count-none p xs none in
    let whole = count-count_by p (xs ++ ys) in
    let part = count-count_by p ys in
    omega (arith, all, zero_first, whole, part)

-- the producer among the last part is the producer among all
pub last_stays : {X : Type 0} (P : X → Type 0) (o q : Option X) (test : X → Bool) (xs : List X) →
    (IfSome o P → IfSome q P) → IfSome (last_from o test xs) P → IfSome (last_from q test xs) P
last_stays P o q test [] f h = f h
last_stays P o q test (x ∷ xs) f h =
    last_stays P (cond (test x) (Some x) o) (cond (test x) (Some x) q) test xs (either (test x)) h
  where
    either : (b : Bool) → IfSome (cond b (Some x) o) P → IfSome (cond b (Some x) q) P
    either true k = k
    either false k = f k

-- steps that come after those of a history, in its cycle and in later ones
pub record RunsOn (v : Values) (earlier steps : List Step) (old new : Hardware) : Type 0 where
  pub before : History v earlier old
  pub all : History v (earlier ++ steps) new
  pub since : Each (λ s. old.cycle ≤ stamp_of s) steps

module _ {v : Values} {earlier steps : List Step} {old new : Hardware} (run : RunsOn v earlier steps old new) where
  -- its rows come after the earlier ones
  pub rows_of_all : rows_of (earlier ++ steps) ≡ rows_of earlier ++ rows_of steps
  rows_of_all = rows_append earlier steps

  module _ (before after : List Row) (row : Row) (at : rows_of steps ≡ before ++ row ∷ after) where
    -- and so does each of them
    pub row_of_all : rows_of (earlier ++ steps) ≡ (rows_of earlier ++ before) ++ row ∷ after
    row_of_all = grind (arith, rows_of_all, append_assoc)

    -- which is sound
    pub row_of_run : SoundRow v new.cycle row
    row_of_run = Each-place _ (rows_of earlier ++ before) after row
        (subst (Each (SoundRow v new.cycle)) row_of_all (history_is_sound run.all).rows)

  -- none of the earlier rows passes from the run's first cycle on
  pub none_earlier : {row_test : ℕ → Row → Bool} {test : ℕ → Mark → Bool} → Shows v row_test test → (c : ℕ) →
      old.cycle ≤ c → (before : List Row) →
      count_by (row_test c) (rows_of earlier ++ before) ≡ count_by (row_test c) before
  none_earlier {row_test} {test} shows c le before =
      count_by-rest (row_test c) _ before
      (each_then (λ row sound. fails_later shows c le sound (row_test c row) refl) _ (history_is_sound run.before).rows)

  -- operands that are known after the rows of the run are known after all
  pub operands_of_all : (c : ℕ) → old.cycle ≤ c → (before : List Row) (row : Row) → HasOperandsIn c before row →
      HasOperandsIn c (rows_of earlier ++ before) row
  operands_of_all c from before row h =
      All-weaker _ _ by_source _ h
    where
      sent_by : (D C : ℕ) (o : Option Execution) → C ≤ c → IfSome o (IsBetween D C) → IfSome o (λ y. y.broadcast < c)
      sent_by D C None le k = tt
      sent_by D C (Some x) le k = omega (arith, le, k.2)

      all_sent : Each (λ p. IfSome p.execution (λ y. y.broadcast < c)) (rows_of earlier)
      all_sent = each_then
          (λ p s. sent_by p.dispatched p.retired p.execution (omega (arith, s.below, from)) s.stamps.executed_between) _
          (history_is_sound run.before).rows

      by_source : (source : Option ℕ) →
          IfSome (producer_among before source) (λ p. IfSome p.execution (λ y. y.broadcast < c)) →
          IfSome (producer_among (rows_of earlier ++ before) source) (λ p. IfSome p.execution (λ y. y.broadcast < c))
      by_source None k = tt
      by_source (Some register) k =
          rw (last_from-append None (writes_register register) (rows_of earlier) before)
          (last_stays (λ p. IfSome p.execution (λ y. y.broadcast < c)) None
          (last_from None (writes_register register) (rows_of earlier)) (writes_register register) before
          (λ u. last_from-Each _ None (writes_register register) _ tt all_sent) k)
