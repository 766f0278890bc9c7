use Rattle.std.proofs.Common.{◌∙◌, sym, arith}
use Rattle.std.proofs.lemmas.List.{take-map}
use Rattle.rv_describe.proofs.Mapped.{list_any-map}
use Rattle.rv_describe.proofs.entries.entry_fault.Goals as goal

pub returns-then-has_unknown_fields : goal.returns-then-has_unknown_fields
returns-then-has_unknown_fields c = grind (arith, list_any-map)

pub returns-in-Some : goal.returns-in-Some
returns-in-Some c =
    grind (arith, list_any-map)

pub returns-in-Some-first_with : goal.returns-in-Some-first_with
returns-in-Some-first_with c =
    let first = rw c.foremost.ensures at (sym c.first_with-2.ensures ∙ c.in-Some-first_with.is) in
    simp (
      list_any-map,
      take-map,
      sym c.has_unknown_fields.ensures ∙ c.if-has_unknown_fields.false,
      sym c.first_with.ensures ∙ c.in_default.is,
      first,
    )

pub returns : goal.returns
returns c =
    let none = rw c.foremost.ensures at (sym c.first_with-2.ensures ∙ c.in_default-first_with.is) in
    simp (
      list_any-map,
      take-map,
      sym c.has_unknown_fields.ensures ∙ c.if-has_unknown_fields.false,
      sym c.first_with.ensures ∙ c.in_default.is,
      none,
    )
