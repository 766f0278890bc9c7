use Rattle.rv_text.proofs.Saying.{says_both}
use Rattle.rv_sentences.specs.Hotspot.{empty_text}
use Rattle.rv_sentences.proofs.hotspots.write_empty.Goals as goal

pub returns : goal.returns
unfolding empty_text
returns g c = says_both c.put.ensures c.write_share.ensures
