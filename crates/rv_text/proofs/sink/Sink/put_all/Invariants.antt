use Rattle.std.proofs.Common.{take}
use Rattle.std.specs.List.{flat_map}
use Rattle.rv_text.specs.Said.{Says}
use Rattle.rv_text.proofs.sink.Sink.put_all.Given as goal

-- the texts so far are said
abbrev pub invariant-loop-text : goal.invariant-loop-text
invariant-loop-text g l =
    Says g.W.Write.contents l.initial.self l.self (flat_map (λ t. t.now) (take l.text-index l.texts))
