-- The operand does not wait, so it is its value.
use Rattle.std.proofs.Common.{◌≡◌, ◌∙◌, Some, true, refl, ap, sym, get_or, arith}
use Rattle.std.specs.Option.{option_map}
use Rattle.std.proofs.lemmas.Option.{slice_get-get_or, slice_get_read}
use Rattle.rv_stations.specs.Waiting.{has_value}
use Rattle.rv_stations.specs.Column.{operand_of}
use Rattle.rv_stations.proofs.ColumnLemmas.{operand_of-has_value, place_within}
use Rattle.rv_stations.proofs.ZipLemmas.{slice_get-zip2}
use Rattle.rv_stations.proofs.column.OperandColumn.value_at.Goals as goal

pub index-requires : goal.index-requires
index-requires c = omega (
  arith,
  place_within c.self.inside c.self.invariant _ c.self.view_is c.args.place
      c.requires.there,
  c.self.invariant.as_many,
)

pub returns : goal.returns
returns c =
    let within = place_within c.self.inside c.self.invariant _ c.self.view_is c.args.place c.requires.there in
    let tag = get_or c.self.inside.tags.items c.args.place 0 in
    let held =
    slice_get_read c.self.inside.values.items _ c.args.place c.index.result.now refl
    (omega (arith, within, c.self.invariant.as_many)) c.index.ensures in
    let is = slice_get-zip2 operand_of c.args.place _ _ tag _
    (slice_get-get_or c.self.inside.tags.items c.args.place 0 within) held in
    let shown : Some (has_value (operand_of tag c.index.result.now)) ≡ Some true =
    sym (ap (option_map has_value) is) ∙ rw (← c.self.view_is) at c.requires.ready in
    rw (← c.self.view_is) (is ∙ ap Some (operand_of-has_value tag c.index.result.now (cc shown)))
