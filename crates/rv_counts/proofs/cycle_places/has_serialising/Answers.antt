use Rattle.std.proofs.Common.{◌∙◌, ◌==◌, ap, not}
use Rattle.rv_isa.specs.Instruction.{is_serialising}
use Rattle.rv_rob.specs.declared.entry.Entry.{Entry}
use Rattle.rv_counts.proofs.FoundCounts.{any_counted}
use Rattle.rv_counts.proofs.cycle_places.has_serialising.Goals as goal

pub returns : goal.returns
returns c = ap (λ n. not (n == 0)) c.requires ∙ any_counted (λ (e : Entry). is_serialising e.instruction)
    c.args.rob.now.entries
