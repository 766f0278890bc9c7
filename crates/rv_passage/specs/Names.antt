-- The names of registers.
use Rattle.std.specs.Prelude.{ℕ, List, [], ◌∷◌, codes, get_or}

-- Unprivileged ISA 20191213, 25, table 25.1: the registers' names in the calling convention, from x0 on
unfoldable pub register_names : List (List ℕ)
register_names =
    codes "zero" ∷ codes "ra" ∷ codes "sp" ∷ codes "gp" ∷ codes "tp" ∷ codes "t0" ∷ codes "t1" ∷ codes "t2" ∷
    codes "s0" ∷ codes "s1" ∷ codes "a0" ∷ codes "a1" ∷ codes "a2" ∷ codes "a3" ∷ codes "a4" ∷ codes "a5" ∷
    codes "a6" ∷ codes "a7" ∷ codes "s2" ∷ codes "s3" ∷ codes "s4" ∷ codes "s5" ∷ codes "s6" ∷ codes "s7" ∷
    codes "s8" ∷ codes "s9" ∷ codes "s10" ∷ codes "s11" ∷ codes "t3" ∷ codes "t4" ∷ codes "t5" ∷ codes "t6" ∷
    []

-- the name of a register by its number
abbrev pub register_name : ℕ → List ℕ
register_name number = get_or register_names number []
