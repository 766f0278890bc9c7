use Rattle.std.proofs.Common.{◌≡◌, ◌∙◌, ◌++◌, List, [], ◌∷◌, ap, sym, arith, length}
use Rattle.std.proofs.lemmas.List.{length-append}
use Rattle.rv_causes.specs.Account.{with_path}
use Rattle.rv_causes.specs.Window.{accounted}
use Rattle.rv_causes.specs.declared.event.Event.{Event}
use Rattle.rv_causes.proofs.Accounts.{with_path-append}
use Rattle.rv_causes.proofs.account.Account.add_path.Goals as goal

pub loop-event-preserved : goal.loop-event-preserved
loop-event-preserved c =
    let old = c.loop-event.path.items in
    let new = c.pop.new.self.items in
    let event = c.in-Some.event in
    let split : old ≡ new ++ event ∷ [] = c.in-Some.ensures.items in
    let one = ap length split ∙ length-append new (event ∷ []) in
    record {
      account =
          ap (with_path new) c.add.ensures.account
          ∙ sym (with_path-append new (event ∷ []) (accounted c.loop-event.self))
          ∙ ap (λ (path : List Event). with_path path (accounted c.loop-event.self)) (sym split)
          ∙ c.loop-event.invariant.account;
      room = omega (arith, one, c.add.ensures.few, c.add.ensures.capacity, c.loop-event.invariant.room);
      spare = λ more room. let before = c.loop-event.invariant.spare more room in
          omega (arith, one, before, c.add.ensures.few, c.add.ensures.capacity);
      capacity = omega (arith, c.pop.ensures.capacity, c.loop-event.invariant.capacity);
    }

pub returns-clause-room : goal.returns-clause-room
returns-clause-room c = λ more room. let rest = c.loop-event.invariant.spare more room in omega (arith, rest)
