use Rattle.std.proofs.Common.{take}
use Rattle.std.specs.List.{flat_map}
use Rattle.std.specs.Io.KnownBytes.{Appends}
use Rattle.rv_sentences.specs.Worst.{worst_line}
use Rattle.rv_sentences.proofs.worst.write_each.Given as goal

-- the lines so far are written
abbrev pub invariant-loop-spot : goal.invariant-loop-spot
invariant-loop-spot g l = Appends (g.W.Write.contents l.initial.writer) (g.W.Write.contents l.writer) (flat_map (worst_line l.listing l.branches) (take l.spot-index l.worst))
