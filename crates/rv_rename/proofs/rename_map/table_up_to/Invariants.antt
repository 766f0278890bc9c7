use Rattle.std.proofs.Common.{◌≡◌, ◌+◌, ◌++◌, take, drop}
use Rattle.rv_isa.specs.Numbered.{below}
use Rattle.rv_rename.specs.Kept.{IsTable}
use Rattle.rv_rename.proofs.Prefixes.{seq_of}
use Rattle.rv_rename.proofs.rename_map.table_up_to.Given as goal

-- the first i producers are up to `seq`, and the table is theirs
abbrev pub invariant-loop-i : goal.invariant-loop-i
invariant-loop-i l =
    (below seq_of (l.seq + 1) l.producers.items
    ≡ take l.i l.producers.items ++ below seq_of (l.seq + 1) (drop l.i l.producers.items))
    × IsTable l.table (take l.i l.producers.items)
