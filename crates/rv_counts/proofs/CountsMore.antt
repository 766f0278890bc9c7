-- The counts at an address, with one passage more or one more cycle at the head.
use Rattle.std.proofs.Common.{◌≡◌, ◌∙◌, ℕ, ◌+◌, ◌==◌, Bool, true, false, List, [], ◌∷◌, length, filter, count_by}
use Rattle.std.proofs.Common.{Option, Some, None, cond, refl, ap, sym, arith, eq-eqb}
use Rattle.std.specs.List.{cons_option, filter_map}
use Rattle.std.proofs.lemmas.List.Sums.{sum_by-cons}
use Rattle.rv_passage.specs.Passage.{is_retirement, is_squash}
use Rattle.rv_passage.specs.Prediction.{is_mispredicted}
use Rattle.rv_passage.specs.declared.passage.{Ending.Ending, Passage.Passage}
use Rattle.rv_passage.specs.declared.passage.Ending.TheVariants as ending
use Rattle.rv_counts.specs.Counts.{added, counts_at, counts_of, is_at, nothing_at, once_more_at_head}
use Rattle.rv_counts.specs.Counts.{one_more, retired_of, times_of, with_ended, with_retired}
use Rattle.rv_counts.specs.Load.{is_hit, is_miss, load_cost}
use Rattle.rv_counts.specs.Passing.{broadcast_wait, dispatch_wait, issue_wait, retirement_wait}
use Rattle.rv_counts.specs.Wait.{waited, with_wait}
use Rattle.rv_counts.specs.declared.{counts.WordCounts.WordCounts, loads.LoadCosts.LoadCosts}

waited-cons : (wait : Option ℕ) (waits : List ℕ) → waited (cons_option wait waits) ≡ with_wait wait (waited waits)
waited-cons None waits = refl
waited-cons (Some cycles) waits =
    let count : length (cycles ∷ waits) ≡ length waits + 1 = omega arith in
    let total = sum_by-cons (λ (n : ℕ). n) cycles waits ∙ omega arith in
    λ i. record { count = count i; total = total i; most = (waited (cycles ∷ waits)).most }

one_more-cond : (is : Bool) (count : ℕ) → cond is 1 0 + count ≡ one_more is count
one_more-cond true count = omega arith
one_more-cond false count = omega arith

-- one passage more is counted where it passes the test
pub count_by-cons : (test : Passage → Bool) (p : Passage) (ps : List Passage) →
    count_by test (p ∷ ps) ≡ one_more (test p) (count_by test ps)
count_by-cons test p ps = sum_by-cons (λ (q : Passage). cond (test q) 1 0) p ps
    ∙ one_more-cond (test p) (count_by test ps)

-- the counts by how many were fetched, how many were squashed, and those that retired
abbrev built : LoadCosts → ℕ → ℕ → ℕ → ℕ → List Passage → WordCounts
built costs address heads fetched squashed retired = record {
  address = address;
  fetched = fetched;
  retired = length retired;
  squashed = squashed;
  dispatch = waited (filter_map dispatch_wait retired);
  issue = waited (filter_map issue_wait retired);
  broadcast = waited (filter_map broadcast_wait retired);
  retirement = waited (filter_map retirement_wait retired);
  hits = count_by (λ p. is_hit costs (load_cost p)) retired;
  misses = count_by (λ p. is_miss costs (load_cost p)) retired;
  mispredicted = count_by is_mispredicted retired;
  head_cycles = heads;
}

module _ (costs : LoadCosts) (address heads : ℕ) (p : Passage) (ps : List Passage) where
  abbrev counts : WordCounts
  counts = counts_of costs address ps heads

  fetched : length (p ∷ ps) ≡ length ps + 1
  fetched = omega arith

  squashed : (is : Bool) → is_squash p.ending ≡ is → count_by (λ q. is_squash q.ending) (p ∷ ps)
      ≡ one_more is counts.squashed
  squashed is test = count_by-cons (λ q. is_squash q.ending) p ps ∙ ap (λ t. one_more t counts.squashed) test

  kept : (e : Ending) → p.ending ≡ e → is_retirement e ≡ false → retired_of (p ∷ ps) ≡ retired_of ps
  kept e is none = rw (is, none) refl

  added-by : (e : Ending) → p.ending ≡ e → with_ended e costs p (record counts { fetched = counts.fetched + 1 })
      ≡ added costs p counts
  added-by e is = sym (ap (λ end. with_ended end costs p (record counts { fetched = counts.fetched + 1 })) is)

  more : (count : ℕ) (retired : List Passage) → count_by (λ q. is_squash q.ending) (p ∷ ps) ≡ count →
      retired_of (p ∷ ps) ≡ retired
      → counts_of costs address (p ∷ ps) heads ≡ built costs address heads (length ps + 1) count retired
  more count retired count_is retired_are = λ i. built costs address heads (fetched i) (count_is i) (retired_are i)

  with_one : (retired : List Passage) →
      built costs address heads (length ps + 1) counts.squashed (p ∷ retired)
      ≡ with_retired costs p (built costs address heads (length ps + 1) counts.squashed retired)
  with_one retired =
      let one : length (p ∷ retired) ≡ length retired + 1 = omega arith in
      let dispatch = waited-cons (dispatch_wait p) (filter_map dispatch_wait retired) in
      let issue = waited-cons (issue_wait p) (filter_map issue_wait retired) in
      let broadcast = waited-cons (broadcast_wait p) (filter_map broadcast_wait retired) in
      let retirement = waited-cons (retirement_wait p) (filter_map retirement_wait retired) in
      let hits = count_by-cons (λ q. is_hit costs (load_cost q)) p retired in
      let misses = count_by-cons (λ q. is_miss costs (load_cost q)) p retired in
      let mispredicted = count_by-cons is_mispredicted p retired in
      λ i. record {
        address = address;
        fetched = length ps + 1;
        retired = one i;
        squashed = counts.squashed;
        dispatch = dispatch i;
        issue = issue i;
        broadcast = broadcast i;
        retirement = retirement i;
        hits = hits i;
        misses = misses i;
        mispredicted = mispredicted i;
        head_cycles = heads;
      }

  by_ending : (e : Ending) → p.ending ≡ e → counts_of costs address (p ∷ ps) heads ≡ added costs p counts
  by_ending (ending.Retired order cycle written next) is = grind (arith, with_one)
  by_ending (ending.Squashed cycle) is =
      more (counts.squashed + 1) (retired_of ps) (squashed true (ap is_squash is))
      (kept (ending.Squashed cycle) is refl) ∙ added-by (ending.Squashed cycle) is
  by_ending (ending.Trapped cycle cause) is = grind arith
  by_ending ending.InFlight is = grind arith

  -- one more passage at the address
  pub counts_of-cons : counts_of costs address (p ∷ ps) heads ≡ added costs p counts
  counts_of-cons = by_ending p.ending refl

module _ (costs : LoadCosts) (passages : List Passage) (heads : List ℕ) where
  abbrev head_count : List ℕ → ℕ → ℕ
  head_count those address = count_by (λ head. head == address) those

  -- one more passage changes the counts at its address
  pub counts_at-here : (p : Passage) → added costs p (counts_at costs passages heads p.pc)
      ≡ counts_at costs (p ∷ passages) heads p.pc
  counts_at-here p =
      let here : filter (is_at p.pc) (p ∷ passages) ≡ p ∷ filter (is_at p.pc) passages =
      rw (eq-eqb p.pc p.pc refl) refl in
      sym (ap (λ those. counts_of costs p.pc those (head_count heads p.pc)) here
      ∙ counts_of-cons costs p.pc (head_count heads p.pc) p (filter (is_at p.pc) passages))

  -- and those at no other
  pub counts_at-other : (p : Passage) (address : ℕ) → (address ≡ p.pc → ⊥) →
      counts_at costs (p ∷ passages) heads address ≡ counts_at costs passages heads address
  counts_at-other p address other = grind arith

  head_count-cons : (head address : ℕ) (is : Bool) → (head == address) ≡ is →
      head_count (head ∷ heads) address ≡ one_more is (head_count heads address)
  head_count-cons head address is test =
      sum_by-cons (λ (h : ℕ). cond (h == address) 1 0) head heads
      ∙ one_more-cond (head == address) (head_count heads address)
      ∙ ap (λ t. one_more t (head_count heads address)) test

  -- one more cycle at the head changes the counts at its address
  pub counts_at-head : (head : ℕ) → once_more_at_head (counts_at costs passages heads head)
      ≡ counts_at costs passages (head ∷ heads) head
  counts_at-head head = grind (arith, head_count-cons)

  -- and those at no other
  pub counts_at-other_head : (head address : ℕ) → (address ≡ head → ⊥) →
      counts_at costs passages (head ∷ heads) address ≡ counts_at costs passages heads address
  counts_at-other_head head address other = grind arith

  nothing_of : (address : ℕ) (those : List Passage) (count : ℕ) → length those + count ≡ 0 →
      counts_of costs address those count ≡ nothing_at address
  nothing_of address [] count none = ap (λ n. counts_of costs address [] n) (omega (arith, none))
  nothing_of address (p ∷ ps) count none = absurd (omega (arith, none))

  -- where an address was never fetched and never at the head, there is nothing
  pub counts_at-none : (address : ℕ) → times_of (counts_at costs passages heads address) ≡ 0 →
      counts_at costs passages heads address ≡ nothing_at address
  counts_at-none address none = nothing_of address (filter (is_at address) passages) (head_count heads address) none
