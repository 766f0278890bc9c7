use Rattle.std.proofs.Common.{take}
use Rattle.std.specs.List.{flat_map}
use Rattle.rv_states.specs.Json.{json_byte}
use Rattle.rv_text.specs.Said.{Says}
use Rattle.rv_states.proofs.json.write_json_bytes.Given as goal

-- what comes before is said
abbrev pub invariant-loop-byte : goal.invariant-loop-byte
invariant-loop-byte g l = Says g.W.Write.contents l.initial.out l.out (flat_map json_byte (take l.byte-index l.text))
