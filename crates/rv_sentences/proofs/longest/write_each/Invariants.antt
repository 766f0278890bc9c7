use Rattle.std.proofs.Common.{take}
use Rattle.std.specs.List.{flat_map}
use Rattle.rv_text.specs.Said.{Says}
use Rattle.rv_sentences.specs.Longest.{longest_line}
use Rattle.rv_sentences.proofs.longest.write_each.Given as goal

-- the lines so far are written
abbrev pub invariant-loop-counted_line : goal.invariant-loop-counted_line
invariant-loop-counted_line g l =
    Says g.W.Write.contents l.initial.out l.out
    (flat_map (longest_line l.listing l.all l.outcomes l.stores l.branches l.mispredicted)
    (take l.counted_line-index l.counted_lines))
