use Rattle.std.proofs.Common.{arith}
use Rattle.rv_sentences.proofs.Addresses.{oldest_on, stays_on}
use Rattle.rv_sentences.proofs.StaysGrow.{stay_counted}
use Rattle.rv_sentences.proofs.stays.+add_stays_from.Goals as goal

pub add_stays_from-requires : goal.add_stays_from-requires
add_stays_from-requires t c = (
  omega (arith, c.if-place-rows.true),
  omega (
    arith,
    c.if-place-rows.true,
    stay_counted _ c.args.stays.now c.add_stay.new.stays
        c.add_stay.ensures.stays,
    c.requires,
  ),
)

pub returns-then-place-rows-clause-stays : goal.returns-then-place-rows-clause-stays
returns-then-place-rows-clause-stays t c =
    stays_on c.args.cycle c.args.has_unit c.args.has_addresses c.args.rows.now c.args.place c.index-rows-place.result
    c.if-place-rows.true c.index-rows-place.is
    c.args.stays.now c.add_stay.new.stays _ c.add_stay.ensures.stays c.add_stays_from.ensures.stays

pub returns-then-place-rows-clause-oldest : goal.returns-then-place-rows-clause-oldest
returns-then-place-rows-clause-oldest t c =
    oldest_on c.args.cycle c.args.has_unit c.args.has_addresses c.args.rows.now c.args.place c.index-rows-place.result
    c.if-place-rows.true c.index-rows-place.is
    c.args.oldest.now c.add_stay.new.oldest _ c.add_stay.ensures.oldest c.add_stays_from.ensures.oldest
