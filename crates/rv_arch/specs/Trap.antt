use Rattle.std.specs.Prelude.{ℕ, ◌+◌, ◌-◌, ◌*◌, ◌/◌, ◌%◌, ◌^◌, ◌==◌, ◌&&◌, true, false, if◌then◌else◌, nat_le}
use Rattle.rv_arch.specs.Csr.{Kept, legal_mepc}

-- Privileged Architecture 20211203, 3.1.15: the cause of an interrupt has bit 31 set
abbrev pub interrupt_cause : ℕ → ℕ
interrupt_cause code = 2 ^ 31 + code

-- Privileged Architecture 20211203, 3.1.7: an interrupt in vectored mode goes to the base plus four times its code, all
-- else to the base
abbrev pub handler_of : Kept → ℕ → ℕ
handler_of kept cause =
    let base = 4 * (kept.mtvec / 4) in
    if kept.mtvec % 4 == 1 && nat_le (2 ^ 31) cause then (base + 4 * (cause - 2 ^ 31)) % 2 ^ 32 else base

-- Privileged Architecture 20211203, 3.1.6.1, 3.1.14 to 3.1.16: what is kept once a trap is taken at pc
abbrev pub trapped : Kept → ℕ → ℕ → ℕ → Kept
trapped kept pc cause value = record kept {
  mstatus_mie = false;
  mstatus_mpie = kept.mstatus_mie;
  mepc = legal_mepc pc;
  mcause = cause;
  mtval = value;
}

-- Privileged Architecture 20211203, 3.1.6.1, 3.3.2: what is kept after MRET, which goes to mepc
abbrev pub returned : Kept → Kept
returned kept = record kept { mstatus_mie = kept.mstatus_mpie; mstatus_mpie = true }
