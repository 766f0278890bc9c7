-- What is counted of the cycles of a run is what their reports say, with each cycle that comes.
use Rattle.rv_hardware.proofs.Words.{◌≡◌, ℕ, ◌+◌, ◌≤◌, max, Bool, cond, not, List, [], ◌∷◌, ◌++◌, length, ◌==◌, None}
use Rattle.rv_hardware.proofs.Words.{Option, sym, refl, ap, ◌∙◌, append_assoc, append-nil, arith, length-append}
use Rattle.rv_hardware.proofs.Words.{Report, NoneStops, busy_of, counted_stall, is_silent, longest_gap_from}
use Rattle.rv_hardware.proofs.Words.{stalls_from, stalls_of, steps_of}
use Rattle.std.proofs.lemmas.List.Sums.{count_by-le-length, sum_by_push}
use Rattle.rv_hardware.specs.declared.report.Stall.{Stall}
use Rattle.rv_hardware.specs.declared.report.StallCounts.{StallCounts}
use Rattle.rv_watch.specs.Progress.{IsBounded, last_stall_of, progress_after, progress_of, silence_after, silence_from}
use Rattle.rv_hardware.specs.Report.{count_of}

-- ---- each count, with one more report at the end

-- a cycle's steps come after those before it
pub steps_of-push : (rs : List Report) (r : Report) → steps_of (rs ++ r ∷ []) ≡ steps_of rs ++ r.steps
steps_of-push [] r = append-nil r.steps
steps_of-push (x ∷ rs) r = ap (λ l. x.steps ++ l) (steps_of-push rs r)
    ∙ sym (append_assoc x.steps (steps_of rs) r.steps)

stalls_from-push : (counts : StallCounts) (rs : List Report) (r : Report) →
    stalls_from counts (rs ++ r ∷ []) ≡ counted_stall r.stall (stalls_from counts rs)
stalls_from-push counts [] r = refl
stalls_from-push counts (x ∷ rs) r = stalls_from-push (counted_stall x.stall counts) rs r

silence_from-push : (n : ℕ) (rs : List Report) (r : Report) →
    silence_from n (rs ++ r ∷ []) ≡ silence_after (is_silent r.steps) (silence_from n rs)
silence_from-push n [] r = refl
silence_from-push n (x ∷ rs) r = silence_from-push (silence_after (is_silent x.steps) n) rs r

-- whether the silence before is counted on or begun anew
longest_gap_from-push : (n : ℕ) (rs : List Report) (r : Report) →
    longest_gap_from n (rs ++ r ∷ [])
    ≡ max (longest_gap_from n rs) (silence_after (is_silent r.steps) (silence_from n rs))
longest_gap_from-push n [] r = grind arith
longest_gap_from-push n (x ∷ rs) r = grind (arith, longest_gap_from-push (n + 1) rs r, longest_gap_from-push 0 rs r)

busy_one : (idle : Bool) (n : ℕ) → n + cond (not idle) 1 0 ≡ cond idle n (n + 1)
busy_one idle n = grind arith

busy_of-push : (rs : List Report) (r : Report) →
    busy_of (rs ++ r ∷ []) ≡ cond (r.dispatched == 0) (busy_of rs) (busy_of rs + 1)
busy_of-push rs r =
    sum_by_push (λ (x : Report). cond (not (x.dispatched == 0)) 1 0) rs r ∙ busy_one (r.dispatched == 0) (busy_of rs)

last_stall_of-push : (rs : List Report) (r : Report) → last_stall_of (rs ++ r ∷ []) ≡ r.stall
last_stall_of-push [] r = refl
last_stall_of-push (x ∷ []) r = refl
last_stall_of-push (x ∷ y ∷ rs) r = last_stall_of-push (y ∷ rs) r

-- what is counted of cycles with one more
pub progress_of-push : (rs : List Report) (r : Report) → progress_of (rs ++ r ∷ []) ≡ progress_after r (progress_of rs)
progress_of-push rs r =
    let count : length (rs ++ r ∷ []) ≡ length rs + 1 = omega (arith, length-append rs (r ∷ [])) in
    λ j. record {
      stalls = stalls_from-push (stalls_of []) rs r j;
      busy = busy_of-push rs r j;
      cycles = count j;
      stall = last_stall_of-push rs r j;
      silent = silence_from-push 0 rs r j;
      longest_gap = longest_gap_from-push 0 rs r j;
    }

-- ---- no count is above that of the cycles

silence-bound : (n : ℕ) (rs : List Report) → silence_from n rs ≤ n + length rs
silence-bound n [] = omega arith
silence-bound n (x ∷ rs) = grind (arith, silence-bound (n + 1) rs, silence-bound 0 rs)

-- a count of stalls to which each cycle adds one at most
stalls-bound : (count : StallCounts → ℕ) →
    ((o : Option Stall) (c : StallCounts) → count (counted_stall o c) ≤ count c + 1) →
    (c : StallCounts) (rs : List Report) → count (stalls_from c rs) ≤ count c + length rs
stalls-bound count one c [] = omega arith
stalls-bound count one c (x ∷ rs) = omega (arith, one x.stall c, stalls-bound count one (counted_stall x.stall c) rs)

count-step : (stall : Stall) (o : Option Stall) (c : StallCounts) → count_of stall (counted_stall o c)
    ≤ count_of stall c + 1
count-step stall o c = grind arith

none_counted : (stall : Stall) → count_of stall (stalls_of []) ≡ 0
none_counted stall = grind arith

-- what is counted lies within the bounds
pub progress-bounded : (rs : List Report) → IsBounded (progress_of rs)
progress-bounded rs = record {
  busy = count_by-le-length (λ r. not (r.dispatched == 0)) rs;
  silent = omega (arith, silence-bound 0 rs);
  stalls = λ stall. omega (
    arith,
    stalls-bound (count_of stall) (count-step stall) (stalls_of [])
        rs,
    none_counted stall,
  );
}

-- ---- what is reported of cycles

-- no cycle stops where those before do not and the last does not
pub NoneStops-push : (rs : List Report) (r : Report) → NoneStops rs → r.stop ≡ None → NoneStops (rs ++ r ∷ [])
NoneStops-push [] r none is = (is, tt)
NoneStops-push (x ∷ rs) r none is = (none.0, NoneStops-push rs r none.1 is)
