use Rattle.std.proofs.Common.{◌≡◌, map, drop}
use Rattle.rv_asm.specs.Names.{named}
use Rattle.rv_asm.proofs.names.lookup.Given as goal

abbrev pub invariant-loop-row : goal.invariant-loop-row
invariant-loop-row g l =
    named (map (λ row. (row.0.now, row.1)) (drop l.row-index l.table)) l.name
    ≡ named (map (λ row. (row.0.now, row.1)) l.fn.table) l.name
