use Rattle.std.proofs.Common.{◌∙◌, ap}
use Rattle.rv_isa.specs.declared.values.Values.{Values}
use Rattle.rv_text.proofs.Saying.{says_both, says_same}
use Rattle.rv_sentences.specs.PlaceLines.{greatest_places_text, places_text}
use Rattle.rv_explain.specs.Explanation.{lead_text}
use Rattle.rv_explain.proofs.explanation.write_lead.Goals as goal

pub returns : goal.returns
unfolding lead_text
returns g c =
    let width = c.from-width.ensures ∙ ap (λ (v : Values). v.dispatch_width) c.values.ensures in
    let cycles = c.args.run.now.progress.cycles in
    let places = c.args.run.now.tally.places in
    says_both c.write_greatest_waits.ensures
    (says_both (says_same (λ i. greatest_places_text cycles (width i) (c.in_flight-left.ensures.counted i) places)
    c.write_greatest_places.ensures)
    (says_both c.write_awaited.ensures (says_both c.write_longest.ensures
    (says_same (λ i. places_text cycles (width i) (c.in_flight-left.ensures.counted i) places)
    c.write_places.ensures))))
