-- Room for more counts.
use Rattle.std.proofs.Common.{◌≡◌, ℕ, zero, suc, ◌+◌, ◌-◌, ◌^◌, ◌<◌, ◌≤◌, Bool, true, false, List, [], ◌∷◌, length}
use Rattle.std.proofs.Common.{get_or, take, drop, filter, Option, Some, None, arith, sym, subst}
use Rattle.std.proofs.lemmas.List.{length-drop}
use Rattle.std.proofs.lemmas.List.Sums.{count_by-le-length, length-filter}
use Rattle.rv_cache.specs.WriteBack.{Each}
use Rattle.rv_passage.specs.declared.passage.{Ending.Ending, Passage.Passage}
use Rattle.rv_passage.specs.declared.passage.Ending.TheVariants as ending
use Rattle.rv_counts.specs.Counts.{CanCount, IsWithin, added, nothing_at, once_more_at_head, one_more, with_ended}
use Rattle.rv_counts.specs.Following.{CanCountMore, HasRoom, Profiled, with_head, with_passages}
use Rattle.rv_counts.specs.Order.{address_of, with_change}
use Rattle.rv_counts.specs.Wait.{Waited, with_wait}
use Rattle.rv_counts.specs.declared.{counts.WordCounts.WordCounts, loads.LoadCosts.LoadCosts}
use Rattle.rv_passage.proofs.ByAddress.{by_place, length-change}
use Rattle.rv_counts.proofs.Changes.{each-at, each-by, each-change}

waits-within : (wait : Option ℕ) (w : Waited) → (with_wait wait w).count ≤ w.count + 1
waits-within None w = omega arith
waits-within (Some cycles) w = omega arith

-- a test adds one at most
pub one_more-within : (is : Bool) (count : ℕ) → one_more is count ≤ count + 1
one_more-within true count = omega arith
one_more-within false count = omega arith

module _ (most : ℕ) where
  pub nothing-within : (address : ℕ) → IsWithin most (nothing_at address)
  nothing-within address = grind arith

  -- what is within a bound is within a greater one
  pub within-more : (more : ℕ) (w : WordCounts) → most ≤ more → IsWithin most w → IsWithin more w
  within-more more w over is = grind arith

  fetched-within : (w : WordCounts) → IsWithin most w → IsWithin (most + 1) (record w { fetched = w.fetched + 1 })
  fetched-within w is = grind arith

  ended-within : (e : Ending) (costs : LoadCosts) (p : Passage) (w : WordCounts) → IsWithin most w →
      IsWithin (most + 1) (with_ended e costs p (record w { fetched = w.fetched + 1 }))
  ended-within (ending.Retired order cycle written next) costs p w is = grind (arith, waits-within, one_more-within)
  ended-within (ending.Squashed cycle) costs p w is = grind arith
  ended-within (ending.Trapped cycle cause) costs p w is = fetched-within w is
  ended-within ending.InFlight costs p w is = fetched-within w is

  head-within : (w : WordCounts) → IsWithin most w → IsWithin (most + 1) (once_more_at_head w)
  head-within w is = grind arith

  -- a change by which no count grows by more than one
  change-within : (address : ℕ) (change : WordCounts → WordCounts) →
      ((w : WordCounts) → IsWithin most w → IsWithin (most + 1) (change w)) → (words : List WordCounts) →
      Each (IsWithin most) words
      → Each (IsWithin (most + 1)) (with_change address change words)
  change-within address change grows [] each = (grows _ (nothing-within address), tt)
  change-within address change grows (w ∷ ws) each =
      let same : Each (IsWithin (most + 1)) (w ∷ ws) =
      each-by (w ∷ ws) (λ v is. within-more (most + 1) v (omega arith) is) each in
      by_place address_of nothing_at address change (λ words. Each (IsWithin (most + 1)) words) w ws
      (λ here. (grows w each.0, same.1)) (λ above. (grows _ (nothing-within address), same))
      (λ below. (same.0, change-within address change grows ws each.1))

pub added-grows : (costs : LoadCosts) (p : Passage) (most : ℕ) (w : WordCounts) → IsWithin most w →
    IsWithin (most + 1) (added costs p w)
added-grows costs p most w is = ended-within most p.ending costs p w is

pub head-grows : (most : ℕ) (w : WordCounts) → IsWithin most w → IsWithin (most + 1) (once_more_at_head w)
head-grows most w is = head-within most w is

-- any of them can count one more
pub can_count-each : (words : List WordCounts) → CanCountMore words 1 → Each CanCount words
can_count-each words can =
    each-by words (λ w is. within-more can.most (2 ^ 50 - 2) w (omega (arith, can.countable)) is) can.counts

-- so can those among which there are some of an address then
can_count-begun : (address : ℕ) (old new : List WordCounts) → new ≡ with_change address (λ w. w) old →
    CanCountMore old 1 → Each CanCount new
can_count-begun address old new begun can = grind (arith, each-change, can_count-each)

-- and so can those that are read at a place of them
pub can_count-at : (address : ℕ) (old new : List WordCounts) (place : ℕ) (d read : WordCounts) → CanCountMore old 1 →
    new ≡ with_change address (λ w. w) old → place < length new → read ≡ get_or new place d → CanCount read
can_count-at address old new place d read can begun within is =
    subst CanCount (sym is) (each-at CanCount new place d (can_count-begun address old new begun can) within)

-- one cycle at the head more, and some passages more
pub within-head : (head : Option ℕ) (most : ℕ) (words : List WordCounts) → Each (IsWithin most) words →
    Each (IsWithin (most + 1)) (with_head head words)
within-head None most words each = each-by words (λ w is. within-more most (most + 1) w (omega arith) is) each
within-head (Some head) most words each = change-within most head once_more_at_head (head-grows most) words each

-- each passage adds one at most
pub within-passages : (costs : LoadCosts) (ps : List Passage) (most : ℕ) (words : List WordCounts) →
    Each (IsWithin most) words → Each (IsWithin (most + length ps)) (with_passages costs ps words)
within-passages costs [] most words each = each-by words (λ w is. within-more most (most + 0) w (omega arith) is) each
within-passages costs (p ∷ ps) most words each =
    let now = change-within (most + length ps) p.pc (added costs p) (added-grows costs p (most + length ps))
    (with_passages costs ps words) (within-passages costs ps most words each) in
    each-by (with_passages costs (p ∷ ps) words) (λ w is. within-more (most + length ps + 1) (most + length (p ∷ ps))
    w (omega arith) is) now

can_count-head : (head : Option ℕ) (words : List WordCounts) (more : ℕ) → CanCountMore words (more + 1) →
    CanCountMore (with_head head words) more
can_count-head head words more can =
    record {
      most = can.most + 1;
      counts = within-head head can.most words can.counts;
      countable = omega (arith, can.countable);
    }

can_count-passages : (costs : LoadCosts) (ps : List Passage) (words : List WordCounts) (more : ℕ) →
    CanCountMore words (length ps + more) → CanCountMore (with_passages costs ps words) more
can_count-passages costs ps words more can =
    record {
      most = can.most + length ps;
      counts = within-passages costs ps can.most words can.counts;
      countable = omega (arith, can.countable);
    }

pub length-head : (head : Option ℕ) (words : List WordCounts) → length (with_head head words) ≤ length words + 1
length-head None words = omega arith
length-head (Some head) words = length-change address_of nothing_at head once_more_at_head words

pub length-passages : (costs : LoadCosts) (ps : List Passage) (words : List WordCounts) →
    length (with_passages costs ps words) ≤ length words + length ps
length-passages costs [] words = omega arith
length-passages costs (p ∷ ps) words =
    omega (
      arith,
      length-passages costs ps words,
      length-change address_of nothing_at p.pc (added costs p) (with_passages costs ps words),
    )

-- a beginning is no longer than the whole
pub take-shorter : {X : Type 0} (n : ℕ) (xs : List X) → length (take n xs) ≤ length xs
take-shorter zero xs = omega arith
take-shorter (suc n) [] = omega arith
take-shorter (suc n) (x ∷ xs) = omega (arith, take-shorter n xs)

-- no more pass a test than there are
pub filter-le : (test : Passage → Bool) (ps : List Passage) → length (filter test ps) ≤ length ps
filter-le test ps = omega (arith, length-filter test ps, count_by-le-length test ps)

-- room after a cycle's head, and after some passages
pub room-head : (head : Option ℕ) (old new : Profiled) (more : ℕ) → HasRoom old (more + 1) →
    new.words ≡ with_head head old.words → old.capacity ≤ new.capacity → HasRoom new more
room-head head old new more room words capacity = grind (arith, length-head, can_count-head)

-- after some passages there is room for what comes after them
pub room-passages : (costs : LoadCosts) (ps : List Passage) (old new : Profiled) (more : ℕ) →
    HasRoom old (length ps + more) → new.words ≡ with_passages costs ps old.words →
    old.capacity ≤ new.capacity → HasRoom new more
room-passages costs ps old new more room words capacity = grind (arith, length-passages, can_count-passages)

-- room for more is room for fewer
pub room-fewer : (profile : Profiled) (more fewer : ℕ) → fewer ≤ more → HasRoom profile more → HasRoom profile fewer
room-fewer profile more fewer under room = grind arith

-- where some passages, or some of them, are counted after the first of all, there is room for the first
pub room-first : (costs : LoadCosts) (rows rest : List Passage) (old new : Profiled) → 1 ≤ length rows →
    length rest ≤ length (take (length rows - 1) (drop 1 rows)) → HasRoom old (length rows) →
    new.words ≡ with_passages costs rest old.words → old.capacity ≤ new.capacity → HasRoom new 1
room-first costs rows rest old new some few room words capacity =
    let under : length rest + 1 ≤ length rows =
    omega (arith, some, few, length-drop 1 rows, take-shorter (length rows - 1) (drop 1 rows)) in
    room-passages costs rest old new 1 (room-fewer old (length rows) (length rest + 1) under room) words capacity
