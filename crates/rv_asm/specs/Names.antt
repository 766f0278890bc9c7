-- The names of registers and CSRs.
use Rattle.std.specs.Prelude.{ℕ, List, [], ◌∷◌, Option, Some, None, if◌then◌else◌, codes}
use Rattle.std.specs.{Option.option_map, Str.bytes_eq}
use Rattle.rv_isa.specs.Csr as csr
use Rattle.rv_isa.specs.Csr.{row_of}

-- what the first row with this name has
abbrev pub named : {T : Type 0} → List (List ℕ × T) → List ℕ → Option T
named [] name = None
named (row ∷ rows) name = if bytes_eq row.0 name then Some row.1 else named rows name

-- Unprivileged ISA 20191213, 25, table 25.1: the registers' names
unfoldable pub register_names : List (List ℕ × ℕ)
register_names =
    (codes "x0", 0) ∷ (codes "x1", 1) ∷ (codes "x2", 2) ∷ (codes "x3", 3) ∷
    (codes "x4", 4) ∷ (codes "x5", 5) ∷ (codes "x6", 6) ∷ (codes "x7", 7) ∷
    (codes "x8", 8) ∷ (codes "x9", 9) ∷ (codes "x10", 10) ∷ (codes "x11", 11) ∷
    (codes "x12", 12) ∷ (codes "x13", 13) ∷ (codes "x14", 14) ∷ (codes "x15", 15) ∷
    (codes "x16", 16) ∷ (codes "x17", 17) ∷ (codes "x18", 18) ∷ (codes "x19", 19) ∷
    (codes "x20", 20) ∷ (codes "x21", 21) ∷ (codes "x22", 22) ∷ (codes "x23", 23) ∷
    (codes "x24", 24) ∷ (codes "x25", 25) ∷ (codes "x26", 26) ∷ (codes "x27", 27) ∷
    (codes "x28", 28) ∷ (codes "x29", 29) ∷ (codes "x30", 30) ∷ (codes "x31", 31) ∷
    (codes "zero", 0) ∷ (codes "ra", 1) ∷ (codes "sp", 2) ∷ (codes "gp", 3) ∷ (codes "tp", 4) ∷
    (codes "t0", 5) ∷ (codes "t1", 6) ∷ (codes "t2", 7) ∷
    (codes "s0", 8) ∷ (codes "fp", 8) ∷ (codes "s1", 9) ∷
    (codes "a0", 10) ∷ (codes "a1", 11) ∷ (codes "a2", 12) ∷ (codes "a3", 13) ∷
    (codes "a4", 14) ∷ (codes "a5", 15) ∷ (codes "a6", 16) ∷ (codes "a7", 17) ∷
    (codes "s2", 18) ∷ (codes "s3", 19) ∷ (codes "s4", 20) ∷ (codes "s5", 21) ∷ (codes "s6", 22) ∷
    (codes "s7", 23) ∷ (codes "s8", 24) ∷ (codes "s9", 25) ∷ (codes "s10", 26) ∷ (codes "s11", 27) ∷
    (codes "t3", 28) ∷ (codes "t4", 29) ∷ (codes "t5", 30) ∷ (codes "t6", 31) ∷
    []

-- the number of the register of a name
abbrev pub register_named : List ℕ → Option ℕ
register_named name = named register_names name

-- the address of the CSR of a name
abbrev pub csr_named : List ℕ → Option ℕ
csr_named name = option_map (λ found. (row_of found).0) (csr.csr_named name)
