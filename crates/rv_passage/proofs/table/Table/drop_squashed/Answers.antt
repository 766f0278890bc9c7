use Rattle.std.proofs.Common.{◌≡◌, ◌∙◌, drop, filter, ap, rules, sym}
use Rattle.std.proofs.lemmas.Fn.{filter_same}
use Rattle.rv_passage.specs.Passage.{is_unsquashed}
use Rattle.rv_passage.specs.Table.{Passages}
use Rattle.rv_passage.proofs.table.Table.drop_squashed.Goals as goal

pub returns : goal.returns
returns c =
    let front = c.move_to_front.new.self in
    let none = c.move_to_front.ensures.none in
    let kept : c.retain.new.self.items ≡ filter is_unsquashed front.rows.items =
    filter_same _ is_unsquashed _ (λ x b f' k. search rules) _ _ c.retain.ensures.filtered in
    let rows : drop front.dropped c.retain.new.self.items ≡ filter is_unsquashed (drop front.dropped front.rows.items) =
    ap (λ n. drop n c.retain.new.self.items) none ∙ kept
    ∙ ap (λ n. filter is_unsquashed (drop n front.rows.items)) (sym none) in
    let all = c.move_to_front.ensures.same in
    λ i. record {
      rows = (rows ∙ ap (λ (t : Passages). filter is_unsquashed t.rows) all) i;
      interrupts = (all i).interrupts;
      fetched = (all i).fetched;
      retired = (all i).retired;
    }
