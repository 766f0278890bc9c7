use Rattle.std.proofs.Common.{take}
use Rattle.std.specs.List.{flat_map}
use Rattle.rv_text.specs.Plain.{plain_byte}
use Rattle.rv_text.specs.Said.{Says}
use Rattle.rv_text.proofs.sink.Sink.put_plain.Given as goal

-- what comes before is said
abbrev pub invariant-loop-byte : goal.invariant-loop-byte
invariant-loop-byte g l = Says g.W.Write.contents l.initial.self l.self (flat_map plain_byte (take l.byte-index l.text))
