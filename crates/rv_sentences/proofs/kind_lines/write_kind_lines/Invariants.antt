use Rattle.std.proofs.Common.{take}
use Rattle.std.specs.List.{flat_map}
use Rattle.rv_text.specs.Said.{Says}
use Rattle.rv_sentences.specs.Exception.{kind_text}
use Rattle.rv_sentences.proofs.kind_lines.write_kind_lines.Given as goal

-- the lines so far are written
abbrev pub invariant-loop-kind : goal.invariant-loop-kind
invariant-loop-kind g l =
    Says g.W.Write.contents l.initial.out l.out (flat_map (kind_text l.listing) (take l.kind-index l.kinds))
