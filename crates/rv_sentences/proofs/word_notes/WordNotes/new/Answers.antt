use Rattle.std.proofs.Common.{◌∙◌, refl, ap}
use Rattle.rv_isa.specs.declared.values.Values.{Values}
use Rattle.rv_sentences.specs.WordNotes.{notes_of}
use Rattle.rv_sentences.proofs.WordTable.{notes_alike}
use Rattle.rv_sentences.proofs.word_notes.WordNotes.new.Goals as goal

pub returns : goal.returns
returns g c =
    let cleared = c.in_ok-words.ensures.items_if_clones_equal (c.requires.clones c.args.note) in
    notes_alike c.values-values.result c.args.note _ refl cleared ∙ ap (λ (v : Values). notes_of v (λ w. c.args.note))
    c.values-values.ensures.values
