use Rattle.std.proofs.Common.{rules}
use Rattle.std.proofs.lemmas.List.Sorted.{answers_always}
use Rattle.rv_passage.proofs.ByAddress.{searched}
use Rattle.rv_passage.proofs.by_address.search_address.Goals as goal

pub returns : goal.returns
returns g c =
    let found = c.binary_search_by_key in
    let by_key = found.ensures.position g.T.Addressed.address_of
    (answers_always _ _ _ (λ f a r q called. search rules)) in
    let both = searched g.T.Addressed.address_of c.args.address c.args.kept.now c.requires.order found.result
    found.ensures.bound by_key in
    record { found = both.0; absent = both.1 }
