use Rattle.std.proofs.Common.{take}
use Rattle.std.specs.List.{flat_map}
use Rattle.rv_text.specs.Said.{Says}
use Rattle.rv_sentences.specs.Stack.{part_line}
use Rattle.rv_sentences.proofs.stack.write_shares.Given as goal

-- the lines so far are written
abbrev pub invariant-loop-share : goal.invariant-loop-share
invariant-loop-share g l =
    Says g.W.Write.contents l.initial.out l.out
    (flat_map (λ share. part_line share.name.now share.count l.all) (take l.share-index l.shares))
