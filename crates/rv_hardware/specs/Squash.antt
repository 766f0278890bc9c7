-- What squashes everything in flight: a trap, an interrupt, a serialising instruction, a wrong prediction that retires.
use Rattle.std.specs.Prelude.{ℕ, false, []}
use Rattle.rv_arch.specs.Step.{trap_taken}
use Rattle.rv_front.specs.FetchBuffer.{FetchBuffer}
use Rattle.rv_hardware.specs.Hardware.{Hardware}
use Rattle.rv_hardware.specs.Seen.{seen, with_state}

-- fetch begins anew at a pc
abbrev pub redirected : ℕ → FetchBuffer → FetchBuffer
redirected pc front = record front { entries = []; next_pc = pc; halted = false }

-- everything in flight is squashed, and fetch begins anew at the committed pc
abbrev pub flushed : Hardware → Hardware
flushed h = record h { rob = record h.rob { entries = [] }; front = redirected h.pc h.front }

-- a trap or an interrupt is taken
abbrev pub with_trap : ℕ → ℕ → Hardware → Hardware
with_trap cause value h = flushed (with_state (trap_taken (seen h) cause value) h)
