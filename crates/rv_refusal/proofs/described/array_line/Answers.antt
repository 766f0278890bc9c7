use Rattle.std.proofs.Common.{◌∙◌, option_map, sym, ap}
use Rattle.rv_refusal.specs.Described.{line_of_array}
use Rattle.rv_refusal.specs.EntryLine.{element_named, entry_line, first_sought}
use Rattle.rv_refusal.proofs.described.array_line.Goals as goal

pub returns-in-Some : goal.returns-in-Some
returns-in-Some c =
    let named = ap (λ name. first_sought (λ count line. element_named name line) c.args.part.now) c.table_of.ensures in
    ap (option_map line_of_array)
    (sym (ap (option_map entry_line) c.in-Some.is) ∙ c.first_sought.ensures ∙ named)

pub returns-in-None : goal.returns-in-None
returns-in-None c =
    let named = ap (λ name. first_sought (λ count line. element_named name line) c.args.part.now) c.table_of.ensures in
    ap (option_map line_of_array)
    (sym (ap (option_map entry_line) c.in-None.is) ∙ c.first_sought.ensures ∙ named)
