use Rattle.std.proofs.Common.{take}
use Rattle.std.specs.List.{flat_map}
use Rattle.rv_log.specs.Command.{appearance_text}
use Rattle.rv_text.specs.Said.{Says}
use Rattle.rv_log.proofs.cycle.write_appearances.Given as goal

-- what comes before is said
abbrev pub invariant-loop-row : goal.invariant-loop-row
invariant-loop-row g l =
    Says g.W.Write.contents l.initial.out l.out (flat_map (appearance_text l.listing) (take l.row-index l.rows))
