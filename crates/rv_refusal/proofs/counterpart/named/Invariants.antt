use Rattle.std.proofs.Common.{◌≡◌, map, drop}
use Rattle.rv_asm.specs.Names.{named}
use Rattle.rv_refusal.proofs.counterpart.named.Given as goal

-- none so far has the name
abbrev pub invariant-loop-row : goal.invariant-loop-row
invariant-loop-row l =
    named (map (λ row. (row.0.now, row.1.now)) l.table) l.name
    ≡ named (map (λ row. (row.0.now, row.1.now)) (drop l.row-index l.table)) l.name
