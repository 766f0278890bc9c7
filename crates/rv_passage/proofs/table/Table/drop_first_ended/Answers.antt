use Rattle.std.proofs.Common.{◌∙◌, [], drop, filter, length, ap, arith, length-drop, sym}
use Rattle.std.specs.List.{position_or_len}
use Rattle.std.proofs.Math.Seq.{drop-drop}
use Rattle.rv_passage.specs.Passage.{is_in_flight}
use Rattle.rv_passage.proofs.Dropped.{first-within, open-after_first}
use Rattle.rv_passage.proofs.table.Table.drop_first_ended.Goals as goal

pub overflow_add-self : goal.overflow_add-self
overflow_add-self c = grind (arith, first-within)

pub invariant_of-self : goal.invariant_of-self
invariant_of-self c =
    let all = c.args.self.now in
    let kept = drop all.dropped all.rows.items in
    let first = c.count_first_ended.ensures ∙ ap (position_or_len is_in_flight) c.rows.ensures in
    let rows =
    ap (filter is_in_flight) (sym (drop-drop c.count_first_ended.result all.dropped all.rows.items))
    ∙ ap (λ n. filter is_in_flight (drop n kept)) first ∙ open-after_first kept in
    record {
      within = omega (arith, first, first-within kept, length-drop all.dropped all.rows.items, all.within);
      known = omega (arith, ap length rows, all.known);
    }

pub returns-clause-opened : goal.returns-clause-opened
returns-clause-opened c =
    let all = c.args.self.now in
    let kept = drop all.dropped all.rows.items in
    let first = c.count_first_ended.ensures ∙ ap (position_or_len is_in_flight) c.rows.ensures in
    let rows =
    ap (filter is_in_flight) (sym (drop-drop c.count_first_ended.result all.dropped all.rows.items))
    ∙ ap (λ n. filter is_in_flight (drop n kept)) first ∙ open-after_first kept in
    λ i. record { rows = rows i; interrupts = []; fetched = all.fetched; retired = all.retired }
