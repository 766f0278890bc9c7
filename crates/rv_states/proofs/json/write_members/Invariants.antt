use Rattle.std.proofs.Common.{take}
use Rattle.std.specs.List.{flat_map}
use Rattle.rv_states.specs.Member.{member_text}
use Rattle.rv_text.specs.Said.{Says}
use Rattle.rv_states.proofs.json.write_members.Given as goal

-- what comes before is said
abbrev pub invariant-loop-member : goal.invariant-loop-member
invariant-loop-member g l =
    Says g.W.Write.contents l.initial.out l.out (flat_map member_text (take l.member-index l.members))
