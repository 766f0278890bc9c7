-- The CSRs that the machine has (Privileged Architecture 20211203, 2.2, tables 2.5 and 2.6).
use Rattle.std.specs.Prelude.{ℕ, ◌==◌, List, [], ◌∷◌, Option, codes}
use Rattle.std.specs.{List.find, Str.bytes_eq}
use Rattle.rv_isa.specs.declared.csrs.Csr.{Csr}
use Rattle.rv_isa.specs.declared.csrs.Csr.TheVariants.{Mstatus, Misa, Mie, Mtvec, Mstatush, Mscratch, Mepc, Mcause}
use Rattle.rv_isa.specs.declared.csrs.Csr.TheVariants.{Mtval, Mip, Mvendorid, Marchid, Mimpid, Mhartid, Mconfigptr}

-- the address and the name of each
abbrev pub row_of : Csr → ℕ × List ℕ
row_of Mstatus = (0x300, codes "mstatus")
row_of Misa = (0x301, codes "misa")
row_of Mie = (0x304, codes "mie")
row_of Mtvec = (0x305, codes "mtvec")
row_of Mstatush = (0x310, codes "mstatush")
row_of Mscratch = (0x340, codes "mscratch")
row_of Mepc = (0x341, codes "mepc")
row_of Mcause = (0x342, codes "mcause")
row_of Mtval = (0x343, codes "mtval")
row_of Mip = (0x344, codes "mip")
row_of Mvendorid = (0xf11, codes "mvendorid")
row_of Marchid = (0xf12, codes "marchid")
row_of Mimpid = (0xf13, codes "mimpid")
row_of Mhartid = (0xf14, codes "mhartid")
row_of Mconfigptr = (0xf15, codes "mconfigptr")

-- all of them, in the order of their addresses
unfoldable pub order : List Csr
order =
    Mstatus ∷ Misa ∷ Mie ∷ Mtvec ∷ Mstatush ∷ Mscratch ∷ Mepc ∷ Mcause ∷ Mtval ∷ Mip ∷
    Mvendorid ∷ Marchid ∷ Mimpid ∷ Mhartid ∷ Mconfigptr ∷ []

-- the CSR at an address, if there is one
abbrev pub csr_at : ℕ → Option Csr
csr_at address = find (λ csr. (row_of csr).0 == address) order

-- the CSR of a name, if there is one
abbrev pub csr_named : List ℕ → Option Csr
csr_named name = find (λ csr. bytes_eq (row_of csr).1 name) order
