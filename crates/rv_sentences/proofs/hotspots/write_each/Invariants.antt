use Rattle.std.proofs.Common.{take}
use Rattle.std.specs.List.{flat_map}
use Rattle.rv_text.specs.Said.{Says}
use Rattle.rv_sentences.specs.Hotspot.{hotspot_text}
use Rattle.rv_sentences.proofs.hotspots.write_each.Given as goal

-- the lines so far are written
abbrev pub invariant-loop-hotspot : goal.invariant-loop-hotspot
invariant-loop-hotspot g l =
    Says g.W.Write.contents l.initial.out l.out
    (flat_map (hotspot_text l.listing l.all l.outcomes l.stores) (take l.hotspot-index l.hotspots))
