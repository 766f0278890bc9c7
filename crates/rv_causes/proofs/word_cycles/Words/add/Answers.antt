use Rattle.std.proofs.Common.{◌∙◌, refl, sym, ap, subst, set, arith}
use Rattle.rv_passage.proofs.ByAddress.{in_order-made, length-change}
use Rattle.rv_causes.specs.Account.{IsWithin, address_of, no_cycles, with_more}
use Rattle.rv_causes.proofs.WordChanges.{within-begun}
use Rattle.rv_causes.proofs.WordPlaces.{within-at}
use Rattle.rv_causes.proofs.word_cycles.Words.add.Goals as goal

pub add-requires-clause-counted : goal.add-requires-clause-counted
add-requires-clause-counted c =
    let within = within-begun c.args.address c.requires.counted.most c.args.self.now.words.items
    c.place_of-place.new.kept.items c.place_of-place.ensures.kept c.requires.counted.within in
    let here = within-at c.requires.counted.most c.place_of-place.new.kept.items c.place_of-place.result
    c.index_mut.result.now within c.place_of-place.ensures.within in
    (subst (IsWithin c.requires.counted.most) (sym c.index_mut.ensures.value) here).adds_up

pub add-requires-clause-fits : goal.add-requires-clause-fits
add-requires-clause-fits c =
    let within = within-begun c.args.address c.requires.counted.most c.args.self.now.words.items
    c.place_of-place.new.kept.items c.place_of-place.ensures.kept c.requires.counted.within in
    let here = within-at c.requires.counted.most c.place_of-place.new.kept.items c.place_of-place.result
    c.index_mut.result.now within c.place_of-place.ensures.within in
    let few = (subst (IsWithin c.requires.counted.most) (sym c.index_mut.ensures.value) here).within in
    omega (arith, few, c.requires.counted.fits)

pub returns-clause-words : goal.returns-clause-words
returns-clause-words c =
    (λ i. set c.place_of-place.new.kept.items c.place_of-place.result
    ((c.add.ensures ∙ ap (with_more c.args.cause c.args.cycles) c.index_mut.ensures.value) i))
    ∙ sym (c.place_of-place.ensures.changes (with_more c.args.cause c.args.cycles) c.index_mut.result.now)

pub returns-clause-few : goal.returns-clause-few
returns-clause-few c = grind (arith, returns-clause-words, length-change)

pub invariant_of-self : goal.invariant_of-self
invariant_of-self c = record {
  order = in_order-made address_of no_cycles c.args.address (with_more c.args.cause c.args.cycles) (λ w. refl)
      (λ a. refl) c.args.self.now.words.items _ c.args.self.now.order
      ((λ i. set c.place_of-place.new.kept.items c.place_of-place.result
      ((c.add.ensures ∙ ap (with_more c.args.cause c.args.cycles) c.index_mut.ensures.value) i))
      ∙ sym (c.place_of-place.ensures.changes (with_more c.args.cause c.args.cycles) c.index_mut.result.now));
}
