use Rattle.std.proofs.Common.{◌∙◌, ap}
use Rattle.std.specs.List.{flat_map}
use Rattle.rv_sentences.specs.Hotspot.{hotspot_text, hotspots_text}
use Rattle.rv_text.proofs.Saying.{says_both, says_same}
use Rattle.rv_sentences.proofs.hotspots.write_hotspots.Goals as goal

pub returns : goal.returns
unfolding hotspots_text
returns g c =
    says_both c.put.ensures
    (says_both (says_same
    (ap (flat_map (hotspot_text c.args.listing.now c.args.all c.args.outcomes.now c.args.stores.now))
    (c.as_slice.ensures.value ∙ c.greatest_lines-hotspots.ensures)) c.write_each.ensures) c.write_idle.ensures)
