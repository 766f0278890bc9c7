-- The counts of all addresses, as passages leave the hardware and cycles go on.
use Rattle.std.proofs.Common.{◌≡◌, ℕ, ◌+◌, ◌<◌, ◌==◌, List, [], ◌∷◌, ◌++◌, Option}
use Rattle.std.proofs.Common.{Some, None, refl, sym, subst, arith, inl, inr}
use Rattle.std.specs.Option.{option_to_list}
use Rattle.std.proofs.lemmas.Bool.{cases_Bool, eqb-true, eqb-false}
use Rattle.rv_passage.specs.declared.passage.{Ending.Ending, Passage.Passage}
use Rattle.rv_passage.specs.declared.passage.Ending.TheVariants as ending
use Rattle.rv_passage.proofs.ByAddress.{in_order-change}
use Rattle.rv_counts.specs.Counts.{added, counts_at, nothing_at, once_more_at_head, times_of, with_ended}
use Rattle.rv_counts.specs.Following.{with_head, with_passages}
use Rattle.rv_counts.specs.Order.{HasAddress, address_of, with_change}
use Rattle.rv_counts.specs.Profile.{IsProfileOf}
use Rattle.rv_counts.specs.declared.{counts.WordCounts.WordCounts, loads.LoadCosts.LoadCosts}
use Rattle.rv_counts.proofs.Changes.{counted-change, each-change, has-change, has-kept}
use Rattle.rv_counts.proofs.CountsMore.{counts_at-head, counts_at-here, counts_at-none}
use Rattle.rv_counts.proofs.CountsMore.{counts_at-other, counts_at-other_head}

ended-address : (e : Ending) (costs : LoadCosts) (p : Passage) (w : WordCounts) →
    (with_ended e costs p w).address ≡ w.address
ended-address (ending.Retired order cycle written next) costs p w = refl
ended-address (ending.Squashed cycle) costs p w = refl
ended-address (ending.Trapped cycle cause) costs p w = refl
ended-address ending.InFlight costs p w = refl

-- a passage more leaves the counts at their address
pub added-address : (costs : LoadCosts) (p : Passage) (w : WordCounts) → (added costs p w).address ≡ w.address
added-address costs p w = ended-address p.ending costs p (record w { fetched = w.fetched + 1 })

ended-times : (e : Ending) (costs : LoadCosts) (p : Passage) (w : WordCounts) →
    times_of (with_ended e costs p w) ≡ times_of w
ended-times (ending.Retired order cycle written next) costs p w = refl
ended-times (ending.Squashed cycle) costs p w = refl
ended-times (ending.Trapped cycle cause) costs p w = refl
ended-times ending.InFlight costs p w = refl

added-some : (costs : LoadCosts) (p : Passage) (w : WordCounts) → 0 < times_of (added costs p w)
added-some costs p w = omega (arith, ended-times p.ending costs p (record w { fetched = w.fetched + 1 }))

-- no counts of nothing
pub profile-nothing : (costs : LoadCosts) → IsProfileOf costs [] [] []
profile-nothing costs = grind arith

-- a change of the counts at one address, by what changes there alone
module _ (address : ℕ) (change : WordCounts → WordCounts) (keeps : (w : WordCounts) → (change w).address ≡ w.address)
    (counts : (w : WordCounts) → 0 < times_of (change w))
    {costs : LoadCosts} {passages passages' : List Passage} {heads heads' : List ℕ}
    (others : (other : ℕ) → (other ≡ address → ⊥) → counts_at costs passages' heads' other
    ≡ counts_at costs passages heads other)
    (here : change (counts_at costs passages heads address) ≡ counts_at costs passages' heads' address) where
  pub profile-change : (words : List WordCounts) → IsProfileOf costs passages heads words →
      IsProfileOf costs passages' heads' (with_change address change words)
  profile-change words is = record {
    in_order = in_order-change address_of nothing_at address change keeps (λ a. refl) words is.in_order;
    counted = counted-change address change (counts_at costs passages heads)
        (counts_at costs passages' heads') others here
        (counts_at-none costs passages heads address) (λ other. refl) words is.in_order is.counted (is.all address);
    seen = each-change address change (λ w. 0 < times_of w) (λ w some. counts w) (counts _) words is.seen;
    all = λ other some. elim (cases_Bool (other == address)) [
      | inl same ↦ subst (λ (a : ℕ). HasAddress a (with_change address change words))
          (sym (eqb-true other address same)) (has-change address change keeps words)
      | inr different ↦ has-kept address change keeps other words
          (is.all other (subst (λ (w : WordCounts). 0 < times_of w)
          (others other (eqb-false other address different)) some))
    ];
  }

-- one more passage
pub profile-passage : (costs : LoadCosts) (p : Passage) (passages : List Passage) (heads : List ℕ)
    (words : List WordCounts) → IsProfileOf costs passages heads words
    → IsProfileOf costs (p ∷ passages) heads (with_change p.pc (added costs p) words)
profile-passage costs p passages heads words is =
    profile-change p.pc (added costs p) (added-address costs p) (added-some costs p)
    (λ other is_not. counts_at-other costs passages heads p other is_not)
    (counts_at-here costs passages heads p) words is

-- some more
pub profile-passages : (costs : LoadCosts) (ps passages : List Passage) (heads : List ℕ) (words : List WordCounts) →
    IsProfileOf costs passages heads words
    → IsProfileOf costs (ps ++ passages) heads (with_passages costs ps words)
profile-passages costs [] passages heads words is = is
profile-passages costs (p ∷ ps) passages heads words is =
    profile-passage costs p (ps ++ passages) heads (with_passages costs ps words)
    (profile-passages costs ps passages heads words is)

-- one more cycle that left something at the head, or nothing
pub profile-head : (costs : LoadCosts) (head : Option ℕ) (passages : List Passage) (heads : List ℕ)
    (words : List WordCounts) → IsProfileOf costs passages heads words
    → IsProfileOf costs passages (option_to_list head ++ heads) (with_head head words)
profile-head costs None passages heads words is = is
profile-head costs (Some head) passages heads words is =
    profile-change head once_more_at_head (λ w. refl) (λ w. omega arith)
    (λ other is_not. counts_at-other_head costs passages heads head other is_not)
    (counts_at-head costs passages heads head) words is
