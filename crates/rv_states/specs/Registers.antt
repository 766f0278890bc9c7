-- The control and status registers as JSON.
use Rattle.std.specs.Prelude.{ℕ, List, ◌++◌, codes}
use Rattle.rv_isa.specs.declared.lines.Lines.{Lines}
use Rattle.rv_isa.specs.declared.csrs.Csr.TheVariants.{Mstatus, Mie, Mtvec, Mscratch, Mepc, Mcause, Mtval, Mip}
use Rattle.rv_arch.specs.Csr.{Kept, value_of}
use Rattle.rv_states.specs.Json.{Json, also, begins, numeral}

-- mstatus, and the registers of interrupts
unfoldable pub interrupts_text : Kept → Lines → List ℕ
interrupts_text kept lines =
    begins (codes "mstatus") (numeral (value_of kept lines Mstatus)) ++
    (also (codes "mie") (numeral (value_of kept lines Mie)) ++
    (also (codes "mip") (numeral (value_of kept lines Mip)) ++
    also (codes "mtvec") (numeral (value_of kept lines Mtvec))))

-- those that traps write
unfoldable pub trap_text : Kept → Lines → List ℕ
trap_text kept lines =
    also (codes "mscratch") (numeral (value_of kept lines Mscratch)) ++
    (also (codes "mepc") (numeral (value_of kept lines Mepc)) ++
    (also (codes "mcause") (numeral (value_of kept lines Mcause)) ++
    also (codes "mtval") (numeral (value_of kept lines Mtval))))

-- what each register reads that is no constant
unfoldable pub csrs_json : Kept → Lines → Json
csrs_json kept lines = interrupts_text kept lines ++ (trap_text kept lines ++ codes "}")
