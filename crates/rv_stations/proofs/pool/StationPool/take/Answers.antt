-- The place moves after those whose instructions wait.
use Rattle.std.proofs.Common.{◌≡◌, ◌<◌, ◌-◌, ◌∙◌, ℕ, suc, All, Some, refl, get_or, slice_get, length, take, remove, sym}
use Rattle.std.proofs.Common.{ap, vec_len, arith, length-take-le}
use Rattle.std.specs.Int.{bit_at}
use Rattle.std.proofs.lemmas.List.{get_or-take}
use Rattle.std.proofs.lemmas.List.Elements.{All-take}
use Rattle.std.proofs.lemmas.Option.{get_or_from_slice_get, slice_get_read}
use Rattle.std.proofs.lemmas.List.Edits.{length-remove}
use Rattle.std.proofs.lemmas.List.Quantifiers.{all_pairs_remove}
use Rattle.rv_isa.proofs.Numbered.{IsInOrder-remove}
use Rattle.rv_stations.specs.Waiting.{seq_of}
use Rattle.rv_stations.specs.PoolFields.{in_all, in_places, IsMarkedOther}
use Rattle.rv_stations.proofs.MarkLemmas.{AreApart-take, marks-removed}
use Rattle.rv_stations.proofs.PlaceLemmas.{All-insert, All-remove, All-others, AllPairs-insert, take-insert}
use Rattle.rv_stations.proofs.PlaceLemmas.{take-remove}
use Rattle.rv_stations.proofs.PoolLemmas.{length-pool, in_places-remove}
use Rattle.rv_stations.proofs.pool.StationPool.take.Goals as goal

low : (c : goal.After-self-2-1) → c.args.at < c.self.inside.count
low c = omega (arith, rw (← c.self.view_is) at c.requires, length-pool c.self.inside c.self.invariant)

within : (c : goal.After-self-2-1) → c.args.at < length c.self.inside.places.items
within c = omega (arith, low c, c.self.invariant.within)

left : (c : goal.After-self-2-1) →
    take (c.self.inside.count - 1) c.move_back.new.places.items
    ≡ remove (take c.self.inside.count c.self.inside.places.items) c.args.at
left c =
    let p = c.self.inside in
    let next : suc (p.count - 1) ≡ p.count = omega (arith, low c) in
    let rest = length-remove p.places.items c.args.at (within c) in
    ap (take (p.count - 1)) c.move_back.ensures.items
    ∙ take-insert (p.count - 1) (remove p.places.items c.args.at) _ (omega (arith, rest, c.self.invariant.within))
    ∙ take-remove c.args.at (p.count - 1) p.places.items (omega (arith, low c)) (within c)
    ∙ ap (λ n. remove (take n p.places.items) c.args.at) next

in_front : (c : goal.After-self-2-1) → c.args.at < length (take c.self.inside.count c.self.inside.places.items)
in_front c = omega (
  arith,
  low c,
  length-take-le c.self.inside.count c.self.inside.places.items
      (omega (arith, c.self.invariant.within)),
)

-- what holds of the places in use holds of those that stay
module _ (c : goal.After-self-2-1) (P Q : ℕ → Type 0) (step : (k : ℕ) → k < 64 → (k ≡ c.from-place.result → ⊥) → P k →
    Q k) where
  stay : All P (take c.self.inside.count c.self.inside.places.items) →
      All Q (take (c.self.inside.count - 1) c.move_back.new.places.items)
  stay marks =
      let p = c.self.inside in
      let few : All (λ k. k < 64) p.places.items =
      λ i d lt. omega (arith, c.self.invariant.there i d lt, c.self.invariant.few) in
      let is : slice_get p.places.items c.args.at ≡ Some c.from-place.result =
      slice_get_read p.places.items _ c.args.at c.index.result.now refl (within c) c.index.ensures
      ∙ ap Some (sym c.from-place.ensures) in
      rw (left c)
      (marks-removed P Q c.from-place.result step (take p.count p.places.items) c.args.at
      (AreApart-take p.count p.places.items (omega (arith, c.self.invariant.within)) c.self.invariant.apart)
      (All-take (λ k. k < 64) p.count p.places.items few)
      (in_front c)
      (get_or-take p.count p.places.items c.args.at 0 (low c) ∙ get_or_from_slice_get p.places.items c.args.at
      c.from-place.result 0 is)
      marks)

waiting_are : (c : goal.After-self-2-1) →
    in_places (in_all c.self.inside) (take (c.self.inside.count - 1) c.move_back.new.places.items)
    ≡ remove (in_places (in_all c.self.inside) (take c.self.inside.count c.self.inside.places.items)) c.args.at
waiting_are c = grind (arith, left, in_places-remove, in_front)

flip : (a b : ℕ) → (a ≡ b → ⊥) → (b ≡ a → ⊥)
flip a b apart same = apart (sym same)

pub invariant_of-self : goal.invariant_of-self
invariant_of-self c =
    let p = c.self.inside in
    let others = remove p.places.items c.args.at in
    let place = get_or p.places.items c.args.at 0 in
    record {
      within = omega (arith, c.move_back.ensures.len, c.self.invariant.within);
      few = c.self.invariant.few;
      dispatched = c.self.invariant.dispatched;
      first = c.self.invariant.first;
      second = c.self.invariant.second;
      there = rw c.move_back.ensures.items (
          All-insert (λ k. k < vec_len p.seqs) (p.count - 1) others place
          (All-remove (λ k. k < vec_len p.seqs) c.args.at p.places.items (within c) c.self.invariant.there)
          (c.self.invariant.there c.args.at 0 (within c))
          );
      apart = rw c.move_back.ensures.items (
          AllPairs-insert (λ a b. a ≡ b → ⊥) flip (p.count - 1) others place
          (All-others (λ a b. a ≡ b → ⊥) flip c.args.at p.places.items 0 (within c) c.self.invariant.apart)
          (all_pairs_remove (λ a b. a ≡ b → ⊥) p.places.items c.args.at (within c) c.self.invariant.apart)
          );
      in_order = rw (waiting_are c)
          (IsInOrder-remove seq_of c.args.at _ (omega (arith, low c, length-pool p c.self.invariant))
          c.self.invariant.in_order);
      held = stay c (λ k. bit_at p.held k ≡ 1) (λ k. bit_at c.marked-self-inside.result k ≡ 1)
          (λ k few other set. c.marked-self-inside.ensures.others k few other ∙ set) c.self.invariant.held;
      others = stay c (IsMarkedOther p.dispatched.items p.others) (IsMarkedOther p.dispatched.items p.others)
          (λ k few other set. set) c.self.invariant.others;
    }

pub returns-clause-others : goal.returns-clause-others
returns-clause-others c = grind (arith, waiting_are)
