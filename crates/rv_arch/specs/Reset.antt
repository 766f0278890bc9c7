use Rattle.std.specs.Prelude.{ℕ, false, ◌-◌, List, ◌++◌, length, replicate}
use Rattle.std.specs.FinSet as set
use Rattle.rv_isa.specs.Arrivals.{no_lines}
use Rattle.rv_arch.specs.Csr.{Kept}
use Rattle.rv_memory.specs.Memory.{Layout}
use Rattle.rv_arch.specs.State.{State}

-- Privileged Architecture 20211203, 3.4: mstatus.MIE is 0; what the manual leaves open is 0 here
abbrev pub reset_csrs : Kept
reset_csrs = record {
  mstatus_mie = false;
  mstatus_mpie = false;
  mie = no_lines;
  mtvec = 0;
  mscratch = 0;
  mepc = 0;
  mcause = 0;
  mtval = 0;
}

-- The state at reset: the registers are 0, RAM holds the image at its front and zeros after it, no word is stale, and
-- execution begins at the image's start.
abbrev pub reset : Layout → List ℕ → ℕ → State
reset layout image start = record {
  pc = start;
  registers = replicate 32 0;
  csrs = reset_csrs;
  ram = image ++ replicate (layout.size - length image) 0;
  stale = set.empty;
}
