use Rattle.std.proofs.Common.{take}
use Rattle.std.specs.List.{flat_map}
use Rattle.rv_text.specs.Said.{Says}
use Rattle.rv_states.specs.Counts.{stall_count}
use Rattle.rv_states.proofs.counts.write_stall_counts.Given as goal

-- the counts so far are written
abbrev pub invariant-loop-stall : goal.invariant-loop-stall
invariant-loop-stall g l =
    Says g.W.Write.contents l.initial.out l.out (flat_map (stall_count l.stalls) (take l.stall-index l.stall-items))
