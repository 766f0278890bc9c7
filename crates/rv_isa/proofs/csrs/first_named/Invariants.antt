use Rattle.std.proofs.Common.{◌≡◌, drop}
use Rattle.std.specs.List.{find}
use Rattle.std.specs.Str.{bytes_eq}
use Rattle.rv_isa.specs.Csr.{row_of}
use Rattle.rv_isa.proofs.csrs.first_named.Given as goal

abbrev pub invariant-loop-csr : goal.invariant-loop-csr
invariant-loop-csr l = find (λ csr. bytes_eq (row_of csr).1 l.name) (drop l.csr-index l.csrs)
    ≡ find (λ csr. bytes_eq (row_of csr).1 l.name) l.fn.csrs
