use Rattle.std.proofs.Common.{List, ap}
use Rattle.rv_text.proofs.Saying.{says_both, says_same}
use Rattle.rv_causes.specs.Lines.{lines_text, most_words}
use Rattle.rv_causes.specs.declared.word_cycles.WordCycles.{WordCycles}
use Rattle.rv_causes.proofs.account_text.write_both.Goals as goal

pub returns : goal.returns
returns g c =
    says_both c.write_causes.ensures.said
    (says_same (ap (λ (words : List WordCycles). lines_text c.args.listing.now c.args.cycles (most_words words))
    c.as_slice.ensures.value) c.write_most.ensures)
