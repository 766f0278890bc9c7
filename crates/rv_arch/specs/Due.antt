use Rattle.std.specs.Prelude.{ℕ, ◌&&◌, Bool, if◌then◌else◌, [], ◌∷◌, Option, None}
use Rattle.std.specs.List.{find}
use Rattle.rv_isa.specs.declared.lines.Lines.{Lines}
use Rattle.rv_isa.specs.declared.csrs.Csr.TheVariants.{Mie, Mip}
use Rattle.rv_arch.specs.Csr.{Kept, has_bit, value_of}

-- Privileged Architecture 20211203, 3.1.9: an interrupt is pending and enabled where its bit is 1 in mip and in mie
abbrev pub is_enabled : Kept → Lines → ℕ → Bool
is_enabled kept lines code = has_bit (value_of kept lines Mie) code && has_bit (value_of kept lines Mip) code

-- Privileged Architecture 20211203, 3.1.9: the code of the interrupt that is due, where mstatus.MIE is 1: external interrupts,
-- 11, come before software interrupts, 3, and these before timer interrupts, 7
abbrev pub due : Kept → Lines → Option ℕ
due kept lines = if kept.mstatus_mie then find (is_enabled kept lines) (11 ∷ 3 ∷ 7 ∷ []) else None
