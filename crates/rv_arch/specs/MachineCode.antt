-- How machines are distinguished, as the tuples of their fields; no public clause names these.
use Rattle.std.specs.Prelude.{ℕ, Bool, List, refl}
use Rattle.std.specs.{Coded.Coded, Coded.code_by, Coded.coded×, Coded.coded_ℕ}
use Rattle.std.specs.{Coded.coded_bool, Coded.coded_list, Ordering.nat_cmp}
use Rattle.std.specs.FinSet as set
use Rattle.rv_isa.specs.declared.lines.Lines.{Lines}
use Rattle.rv_memory.specs.Memory.{Layout}
use Rattle.rv_arch.specs.Csr.{Kept}
use Rattle.rv_arch.specs.Machine.{Machine}
use Rattle.rv_arch.specs.State.{State}

-- lines as their three levels
abbrev pub lines_code : Coded Lines
lines_code =
    code_by (Bool × (Bool × Bool)) (coded× coded_bool (coded× coded_bool coded_bool))
    (λ l. (l.software, (l.timer, l.external)))
    (λ p. record { software = p.0; timer = p.1.0; external = p.1.1 }) (λ _. refl)

-- where RAM lies as its three numbers
abbrev pub layout_code : Coded Layout
layout_code =
    code_by (ℕ × (ℕ × ℕ)) (coded× coded_ℕ (coded× coded_ℕ coded_ℕ)) (λ l. (l.base, (l.size, l.rom_bytes)))
    (λ p. record { base = p.0; size = p.1.0; rom_bytes = p.1.1 }) (λ _. refl)

-- what the CSRs keep as its fields
abbrev pub kept_code : Coded Kept
kept_code =
    code_by (Bool × (Bool × (Lines × (ℕ × (ℕ × (ℕ × (ℕ × ℕ)))))))
    (coded× coded_bool
    (coded× coded_bool
    (coded× lines_code (coded× coded_ℕ (coded× coded_ℕ (coded× coded_ℕ (coded× coded_ℕ coded_ℕ)))))))
    (λ k. (k.mstatus_mie, (k.mstatus_mpie, (k.mie, (k.mtvec, (k.mscratch, (k.mepc, (k.mcause, k.mtval))))))))
    (λ p. record {
      mstatus_mie = p.0;
      mstatus_mpie = p.1.0;
      mie = p.1.1.0;
      mtvec = p.1.1.1.0;
      mscratch = p.1.1.1.1.0;
      mepc = p.1.1.1.1.1.0;
      mcause = p.1.1.1.1.1.1.0;
      mtval = p.1.1.1.1.1.1.1;
    })
    (λ _. refl)

-- a state as its fields
abbrev pub state_code : Coded State
state_code =
    code_by (ℕ × (List ℕ × (Kept × (List ℕ × set.FinSet nat_cmp))))
    (coded× coded_ℕ
    (coded× (coded_list coded_ℕ) (coded× kept_code (coded× (coded_list coded_ℕ) (set.code coded_ℕ)))))
    (λ s. (s.pc, (s.registers, (s.csrs, (s.ram, s.stale)))))
    (λ p. record { pc = p.0; registers = p.1.0; csrs = p.1.1.0; ram = p.1.1.1.0; stale = p.1.1.1.1 })
    (λ _. refl)

-- a machine as its fields
abbrev pub machine_code : Coded Machine
machine_code =
    code_by (Layout × (State × Lines)) (coded× layout_code (coded× state_code lines_code))
    (λ m. (m.layout, (m.state, m.lines))) (λ p. record { layout = p.0; state = p.1.0; lines = p.1.1 }) (λ _. refl)
