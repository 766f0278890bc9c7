use Rattle.std.proofs.Common.{take}
use Rattle.std.specs.List.{flat_map}
use Rattle.rv_text.specs.Said.{Says}
use Rattle.rv_causes.specs.Sentence.{sentence}
use Rattle.rv_causes.proofs.sentences.write_all.Given as goal

-- the sentences so far are written
abbrev pub invariant-loop-share : goal.invariant-loop-share
invariant-loop-share g l =
    Says g.W.Write.contents l.initial.out l.out
    (flat_map (sentence l.listing l.cycles l.words) (take l.share-index l.shares))
