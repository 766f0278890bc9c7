use Rattle.std.proofs.Common.{◌≡◌, ◌∙◌, drop, filter, ap, rules, sym}
use Rattle.std.proofs.lemmas.Fn.{filter_same}
use Rattle.rv_passage.specs.Passage.{is_in_flight}
use Rattle.rv_passage.specs.Table.{Passages}
use Rattle.rv_passage.proofs.table.Table.move_open_to_front.Goals as goal

pub returns-clause-rows : goal.returns-clause-rows
returns-clause-rows c =
    let front = c.move_to_front.new.self in
    let none = c.move_to_front.ensures.none in
    let kept : c.retain.new.self.items ≡ filter is_in_flight front.rows.items =
    filter_same _ is_in_flight _ (λ x b f' k. search rules) _ _ c.retain.ensures.filtered in
    ap (λ n. drop n c.retain.new.self.items) none ∙ kept
    ∙ ap (λ n. filter is_in_flight (drop n front.rows.items)) (sym none)
    ∙ ap (λ (t : Passages). filter is_in_flight t.rows) c.move_to_front.ensures.same
