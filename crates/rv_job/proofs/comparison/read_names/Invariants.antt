use Rattle.std.proofs.Common.{◌≡◌, ◌+◌, ◌++◌, length, map}
use Rattle.std.specs.Option.{option_map_or}
use Rattle.rv_asm.specs.Kept.{lines_left}
use Rattle.rv_job.specs.Comparison.{names_from, names_of}
use Rattle.rv_job.proofs.comparison.read_names.Given as goal

-- the names so far, and those of what is left, are all names
abbrev pub invariant-loop-rest : goal.invariant-loop-rest
invariant-loop-rest l = map (λ name. name.items) l.names.items
    ++ names_from l.first (lines_left l.rest) ≡ names_of l.text

abbrev pub decreases-loop-rest : goal.decreases-loop-rest
decreases-loop-rest l = option_map_or (λ text. length text.now + 1) l.rest 0
