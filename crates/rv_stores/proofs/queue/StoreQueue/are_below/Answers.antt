use Rattle.std.proofs.Common.{◌≡◌, Some, sym, arith}
use Rattle.circular_buffer.specs.Buffer.{last_item}
use Rattle.rv_stores.proofs.Kept.{AreBelow-none, AreBelow-youngest, youngest-below}
use Rattle.std.proofs.lemmas.Bool.{lt-ltb, ltb-true}
use Rattle.rv_stores.proofs.queue.StoreQueue.are_below.Goals as goal

pub returns-in-Some : goal.returns-in-Some
returns-in-Some c =
    let items = c.self.inside.ring.items in
    let youngest = c.in-Some.youngest.now in
    let at : last_item items ≡ Some youngest = sym c.in-Some.ensures in
    rw (← c.self.view_is) (
      λ lt. AreBelow-youngest c.args.seq items youngest c.self.invariant.0 at (ltb-true youngest.seq c.args.seq lt),
      λ are. lt-ltb youngest.seq c.args.seq (youngest-below c.args.seq items youngest at are),
    )

pub returns-in-None : goal.returns-in-None
returns-in-None c = grind (arith, AreBelow-none)
