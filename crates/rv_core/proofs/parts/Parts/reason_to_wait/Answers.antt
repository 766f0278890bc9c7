use Rattle.std.proofs.Common.{arith}
use Rattle.rv_core.proofs.Words.{◌≡◌, ◌&&◌, length, nat_le, sym, ap, ◌∙◌, is_store, kind_of_word, has_full_stations}
use Rattle.rv_core.proofs.Words.{stores_after, are_full_for, hardware_of}
use Rattle.rv_core.proofs.Ties.Dispatch.{full-is}
use Rattle.rv_core.proofs.parts.Parts.reason_to_wait.Goals as goal
use Rattle.rv_core.proofs.parts.Parts.reason_to_wait.Goals.{After-are_full_for, After-waits_for_queue}

station : (c : After-are_full_for) →
    has_full_stations (hardware_of c.self.inside) (kind_of_word c.args.fetched.now.instruction) ≡ c.are_full_for.result
station c =
    let o = kind_of_word c.args.fetched.now.instruction in
    sym (full-is (hardware_of c.self.inside) o) ∙ ap (are_full_for o) (sym c.self.invariant.tied.stationed)
    ∙ ap (λ k. are_full_for k c.self.inside.stations) (sym c.requires.kind)
    ∙ sym c.are_full_for.ensures

queue : (c : After-waits_for_queue) →
    (is_store c.args.fetched.now.instruction && nat_le c.self.inside.values.store_queue
    (length (stores_after (hardware_of c.self.inside) c.self.inside.rob.entries))) ≡ c.waits_for_queue.result
queue c = grind arith

pub returns-then-are_full_for : goal.returns-then-are_full_for
returns-then-are_full_for c = grind (arith, station)

pub returns-then-waits_for_queue : goal.returns-then-waits_for_queue
returns-then-waits_for_queue c = grind (arith, station)

pub returns : goal.returns
returns c = grind (arith, station)
