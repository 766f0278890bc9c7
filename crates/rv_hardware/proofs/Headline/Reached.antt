-- Each report of a run counts one cycle.
use Rattle.rv_hardware.proofs.Words.{◌≡◌, ◌+◌, List, length, ap, arith, Arrival, Hardware, Report, Cycles, cycled}
use Rattle.rv_hardware.proofs.Words.{ended}

-- each report of a run counts one cycle
pub cycles_counted : {arrivals : List Arrival} {old new : Hardware} {reports : List Report} →
    Cycles arrivals old reports new → new.cycle ≡ old.cycle + length reports
cycles_counted ended = omega arith
cycles_counted (cycled cycle rest) =
    omega (arith, cycles_counted rest, ap (λ (h : Hardware). h.cycle) cycle.others_stay)
