use Rattle.std.proofs.Common.{◌∙◌, arith}
use Rattle.std.proofs.lemmas.List.{with_items_is}
use Rattle.rv_passage.proofs.Dropped.{known-with_oldest}
use Rattle.rv_passage.proofs.table.Table.trap.Goals as goal

pub invariant_of-self-clause-known : goal.invariant_of-self-clause-known
invariant_of-self-clause-known c =
    let all = c.args.self.now in
    let items = with_items_is all.rows c.trap_kept.new.rows (c.trap_kept.auto.rows ∙ c.as_mut_slice.ensures.len) in
    known-with_oldest _ all.dropped all.in_flight _ all.rows.items _ _ _ items c.as_mut_slice.ensures.value
    c.trap_kept.ensures all.known (omega (arith, c.saturating_sub-self.ensures))
