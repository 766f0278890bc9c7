use Rattle.std.proofs.Common.{◌≡◌, ◌++◌, ◌∷◌, [], List, sym, ap, subst}
use Rattle.rv_front.specs.declared.fetched.Fetched.{Fetched}
use Rattle.rv_front.specs.FetchBuffer.{IsLinked}
use Rattle.rv_front.proofs.Fetching.{IsLinked-push}
use Rattle.rv_front.proofs.front.Front.fetch_next.Goals as goal

pub invariant_of-self : goal.invariant_of-self
invariant_of-self g c =
    let items = c.self.inside.ring.items in
    let fetched = c.fetch_word-fetched.result in
    let pushed : c.append.new.ring.items ≡ items ++ fetched ∷ [] = ap (λ b. b.items) c.append.ensures in
    let Linked : List Fetched → Type 0 = λ es. IsLinked es fetched.predicted in
    subst Linked (sym pushed)
    (IsLinked-push items fetched c.self.inside.next_pc c.fetch_word-fetched.ensures.pc_is c.self.invariant)

pub returns-clause-chain : goal.returns-clause-chain
returns-clause-chain g c = invariant_of-self g c
