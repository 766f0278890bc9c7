use Rattle.std.proofs.Common.{◌≡◌, drop}
use Rattle.std.specs.Prelude.{◌==◌}
use Rattle.std.specs.List.{find}
use Rattle.rv_isa.specs.Csr.{row_of}
use Rattle.rv_isa.proofs.csrs.first_at.Given as goal

abbrev pub invariant-loop-csr : goal.invariant-loop-csr
invariant-loop-csr l = find (λ csr. (row_of csr).0 == l.address) (drop l.csr-index l.csrs)
    ≡ find (λ csr. (row_of csr).0 == l.address) l.fn.csrs
