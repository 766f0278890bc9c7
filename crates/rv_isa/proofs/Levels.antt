-- The levels in a cycle are those after the arrivals that are not later, counted from any of them on.
use Rattle.std.proofs.Common.{◌≡◌, ℕ, zero, suc, ◌+◌, ◌<◌, ◌≤◌, Bool, true, false, List, [], ◌∷◌, length, take}
use Rattle.std.proofs.Common.{drop, slice_index_or, filter, fold, refl, arith, ◌∙◌, sym, ap, ◌-◌, nat_le, slice_set}
use Rattle.std.proofs.lemmas.Grind.{common_steps}
use Rattle.std.proofs.lemmas.List.Sums.{fold-append}
use Rattle.std.proofs.Math.Seq.{take-add}
use Rattle.rv_isa.specs.declared.lines.Line.TheVariants.{Software, Timer, External}
use Rattle.rv_isa.specs.declared.lines.Lines.{Lines}
use Rattle.rv_isa.specs.declared.lines.Arrival.{Arrival}
use Rattle.rv_isa.specs.Levels.{line_set}
use Rattle.rv_isa.specs.Arrivals.{lines_at, no_lines}
use Rattle.rv_isa.proofs.LastLevels.{level_after}

-- where exactly the first i elements pass, those are left
pub filter_prefix : {X : Type 0} (p : X → Bool) (xs : List X) (i : ℕ) →
    ((k : ℕ) (d : X) → k < i → p (slice_index_or xs k d) ≡ true) →
    ((k : ℕ) (d : X) → i ≤ k → k < length xs → p (slice_index_or xs k d) ≡ false) → i ≤ length xs →
    filter p xs ≡ take i xs
filter_prefix p [] zero on off le = refl
filter_prefix p [] (suc i) on off le = refl
filter_prefix p (x ∷ xs) zero on off le =
    let first : p x ≡ false = off 0 x (omega arith) (omega arith) in
    rw first (filter_prefix p xs 0 (λ k d lt. absurd (omega arith))
    (λ k d ge lt. off (suc k) d (omega arith) (omega arith)) (omega arith))
filter_prefix p (x ∷ xs) (suc i) on off le =
    let first : p x ≡ true = on 0 x (omega arith) in
    rw first (ap (λ r. x ∷ r)
    (filter_prefix p xs i (λ k d lt. on (suc k) d (omega arith))
    (λ k d ge lt. off (suc k) d (omega arith) (omega arith)) (omega arith)))

-- the levels after n more of what follows the first m
pub fold-more : (before lines : Lines) (xs rest : List Arrival) (m n : ℕ) → rest ≡ take n (drop m xs) →
    lines ≡ fold line_set before (take m xs) → fold line_set lines rest ≡ fold line_set before (take (m + n) xs)
fold-more before lines xs rest m n from here =
    rw (from, here, take-add m n xs) (sym (fold-append line_set before (take m xs) (take n (drop m xs))))

-- the levels in a cycle, by going over the arrivals that are not later
lines_at-fold : (arrivals : List Arrival) (cycle : ℕ) →
    lines_at arrivals cycle ≡ fold line_set no_lines (filter (λ a. nat_le a.cycle cycle) arrivals)
lines_at-fold arrivals cycle =
    let up_to = filter (λ a. nat_le a.cycle cycle) arrivals in
    λ i. record {
      software = sym (level_after Software (λ lines. lines.software) (λ lines a. refl) no_lines up_to) i;
      timer = sym (level_after Timer (λ lines. lines.timer) (λ lines a. refl) no_lines up_to) i;
      external = sym (level_after External (λ lines. lines.external) (λ lines a. refl) no_lines up_to) i;
    }

-- the levels in a cycle, from those after a first part of the arrivals that are not later
pub lines_at-from : (arrivals : List Arrival) (cycle count from : ℕ) (lines : Lines) → from ≤ count →
    filter (λ a. nat_le a.cycle cycle) arrivals ≡ take count arrivals →
    lines ≡ fold line_set no_lines (take from arrivals) →
    fold line_set lines (take (count - from) (drop from arrivals)) ≡ lines_at arrivals cycle
lines_at-from arrivals cycle count from lines le passed here =
    let sum : from + (count - from) ≡ count = omega arith in
    fold-more no_lines lines arrivals _ from (count - from) refl here
    ∙ ap (λ n. fold line_set no_lines (take n arrivals)) sum ∙ ap (fold line_set no_lines) (sym passed)
    ∙ sym (lines_at-fold arrivals cycle)

-- one more place of a table
pub table_more : {X : Type 0} (f : ℕ → X) (xs : List X) (n : ℕ) (x : X) → n < length xs → x ≡ f n →
    ((k : ℕ) (d : X) → k < n → slice_index_or xs k d ≡ f k) → (k : ℕ) (d : X) → k < n + 1 →
    slice_index_or (slice_set xs n x) k d ≡ f k
table_more f xs n x lt here before k d le = grind (arith, common_steps, before k d)
