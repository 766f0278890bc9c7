-- What stands after the place moves up, and the place stands last.
use Rattle.std.proofs.Common.{◌≡◌, ◌+◌, ◌-◌, ◌<◌, ◌∙◌, ◌++◌, suc, drop, take, length, sym, ap, slice_set, remove, arith}
use Rattle.std.specs.List.{insert}
use Rattle.std.proofs.lemmas.List.{get_or_read}
use Rattle.rv_stations.proofs.PlaceLemmas.{moved-back}
use Rattle.rv_stations.proofs.places.move_back.Goals as goal

pub returns-clause-items : goal.returns-clause-items
returns-clause-items c =
    let xs = c.args.places.now.items in
    let at = c.args.at in
    let last = c.args.count - 1 in
    let moving = c.args.count - (at + 1) in
    let within : at < length xs = omega (arith, c.requires.within, c.requires.count) in
    let next : at + 1 ≡ suc at = omega arith in
    let end : last ≡ at + moving = omega (arith, c.requires.within) in
    ap (λ ys. slice_set ys last c.index-place.result.now)
    (c.copy_within.ensures.items ∙ (λ i. (take at xs ++ take moving (drop (next i) xs)) ++ drop (sym end i) xs))
    ∙ moved-back at moving last xs c.index-place.result.now end (omega (arith, c.requires.within, c.requires.count))
    ∙ ap (insert (remove xs at) last) (get_or_read xs _ _ within c.index-place.ensures 0)
