use Rattle.std.proofs.Common.{◌∙◌, ap, set, sym, arith}
use Rattle.rv_passage.specs.Passage.{trapped_by}
use Rattle.rv_passage.specs.declared.passage.Passage.{Passage}
use Rattle.rv_passage.proofs.Moving.{with_oldest-at, with_oldest-none}
use Rattle.rv_passage.proofs.rows.trap_oldest.Goals as goal

pub returns-in-Some : goal.returns-in-Some
returns-in-Some c =
    let change : Passage → Passage = trapped_by c.args.cause c.args.cycle in
    let place = sym c.oldest_in_flight.ensures ∙ c.in-Some.is in
    ap (set c.args.rows.now c.in-Some.place) c.trap.ensures
    ∙ sym (with_oldest-at change c.args.rows.now c.in-Some.place c.index-rows-place.result place)

pub returns-in_default : goal.returns-in_default
returns-in_default c = grind (arith, with_oldest-none)
