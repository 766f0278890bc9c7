-- The parts are written to the first free place, which stands next.
use Rattle.std.proofs.Common.{◌≡◌, ℕ, All, Bool, true, false, cond, not, ◌<◌, ◌+◌, ◌∙◌, ◌++◌, ◌∷◌, [], List, Some}
use Rattle.std.proofs.Common.{length, take, slice_get, slice_set, refl, sym, ap, vec_len, arith}
use Rattle.std.proofs.lemmas.List.{length-set, get_or-set_same, get_or-set_other}
use Rattle.std.proofs.lemmas.Option.{slice_get_read}
use Rattle.std.specs.Int.{bit_at}
use Rattle.rv_isa.proofs.Numbered.{IsInOrder-push}
use Rattle.rv_isa.specs.Instruction.{is_load}
use Rattle.rv_stations.specs.declared.pool.Dispatched.{Dispatched}
use Rattle.rv_stations.specs.Waiting.{seq_of}
use Rattle.rv_stations.specs.PoolFields.{joined, in_all, in_places, nothing, IsMarkedOther}
use Rattle.rv_stations.proofs.MarkLemmas.{marks-next}
use Rattle.rv_stations.proofs.PoolLemmas.{same_lengths, length-joined, length-pool, place_there, joined-set}
use Rattle.rv_stations.proofs.PoolLemmas.{in_places-next}
use Rattle.rv_stations.proofs.pool.StationPool.insert.Goals as goal

room : (c : goal.After-self-5-1) → c.self.inside.count < vec_len c.self.inside.places
room c = omega (arith, rw (← c.self.view_is) at c.requires.room, length-pool c.self.inside c.self.invariant)

is : (c : goal.After-self-5-1) → slice_get c.self.inside.places.items c.self.inside.count ≡ Some c.from-place.result
is c = slice_get_read c.self.inside.places.items _ c.self.inside.count c.index.result.now refl (omega (arith, room c))
    c.index.ensures ∙ ap Some (sym c.from-place.ensures)

few : (c : goal.After-self-5-1) → All (λ k. k < 64) c.self.inside.places.items
few c = λ i d lt. omega (arith, c.self.invariant.there i d lt, c.self.invariant.few)

abbrev newest : (c : goal.After-self-5-1) → Dispatched
newest c = record { pc = c.args.waiting.pc; instruction = c.args.waiting.instruction }

abbrev dispatched : (c : goal.After-self-5-1) → List Dispatched
dispatched c = slice_set c.self.inside.dispatched.items c.from-place.result (newest c)

abbrev loads_of : Dispatched → Bool
loads_of d = is_load (Some d.instruction)

turned : (b : Bool) (one other : ℕ) → cond (not b) one other ≡ cond b other one
turned true one other = refl
turned false one other = refl

marked_last : (c : goal.After-self-5-1) → IsMarkedOther (dispatched c) c.marked-self-inside-2.result c.from-place.result
marked_last c =
    let there = place_there c.self.inside c.self.invariant c.self.inside.count c.from-place.result (is c) in
    let last =
    get_or-set_same c.self.inside.dispatched.items c.from-place.result (newest c) nothing
    (omega (arith, there, c.self.invariant.dispatched)) in
    c.marked-self-inside-2.ensures.bit ∙ turned c.is_load.result 1 0
    ∙ ap (λ b. cond b 0 1) (c.is_load.ensures ∙ sym (ap loads_of last))

waiting_are : (c : goal.After-self-5-1) →
    in_places
    (joined (slice_set c.self.inside.seqs.items c.from-place.result c.args.waiting.seq)
    (slice_set c.self.inside.dispatched.items c.from-place.result
    (record { pc = c.args.waiting.pc; instruction = c.args.waiting.instruction })) c.put.new.self c.put-2.new.self)
    (take (c.self.inside.count + 1) c.self.inside.places.items)
    ≡ in_places (in_all c.self.inside) (take c.self.inside.count c.self.inside.places.items) ++ c.args.waiting ∷ []
waiting_are c =
    let p = c.self.inside in
    let same = same_lengths p c.self.invariant in
    let there = place_there p c.self.invariant p.count c.from-place.result (is c) in
    rw (c.put.ensures, c.put-2.ensures)
    (ap (λ ws. in_places ws (take (p.count + 1) p.places.items))
    (joined-set _ _ _ _ same c.from-place.result c.args.waiting.seq
    (record { pc = c.args.waiting.pc; instruction = c.args.waiting.instruction }) c.args.waiting.first
    c.args.waiting.second (omega (arith, there)))
    ∙ in_places-next (in_all p) p.places.items p.count c.from-place.result c.args.waiting c.self.invariant.apart (is c)
    (omega (arith, there, length-joined _ _ _ _ same)))

pub invariant_of-self : goal.invariant_of-self
invariant_of-self c = record {
  within = omega (arith, room c);
  few = c.self.invariant.few;
  dispatched = c.self.invariant.dispatched;
  first = omega (
    arith,
    ap (λ l. length l) c.put.ensures,
    length-set c.self.inside.first c.from-place.result c.args.waiting.first,
    c.self.invariant.first,
  );
  second = omega (
    arith,
    ap (λ l. length l) c.put-2.ensures,
    length-set c.self.inside.second c.from-place.result
        c.args.waiting.second,
    c.self.invariant.second,
  );
  there = c.self.invariant.there;
  apart = c.self.invariant.apart;
  in_order =
      rw (waiting_are c)
      (IsInOrder-push seq_of _ c.args.waiting c.self.invariant.in_order (rw (← c.self.view_is) at c.requires.youngest));
  held = marks-next (λ k. bit_at c.self.inside.held k ≡ 1) (λ k. bit_at c.marked-self-inside.result k
      ≡ 1) c.from-place.result
      (λ k low other set. c.marked-self-inside.ensures.others k low other ∙ set)
      c.self.inside.places.items c.self.inside.count c.self.invariant.apart (few c) (is c)
      c.marked-self-inside.ensures.bit c.self.invariant.held;
  others = marks-next (IsMarkedOther c.self.inside.dispatched.items c.self.inside.others)
      (IsMarkedOther (dispatched c) c.marked-self-inside-2.result) c.from-place.result
      (λ k low other set. c.marked-self-inside-2.ensures.others k low other ∙ set
      ∙ ap (λ b. cond b 0 1)
      (sym (ap loads_of
      (get_or-set_other c.self.inside.dispatched.items c.from-place.result k (newest c) nothing other))))
      c.self.inside.places.items c.self.inside.count c.self.invariant.apart (few c) (is c) (marked_last c)
      c.self.invariant.others;
}

pub returns : goal.returns
returns c = grind (arith, waiting_are)
