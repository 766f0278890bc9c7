-- The parts are as sound with other lines, and with the number of a later cycle.
use Rattle.rv_core.proofs.Words.{ℕ, ◌^◌, ◌≤◌, arith, Lines, IsSound, Inside}

-- parts are sound in a later cycle and with any lines
pub sound-numbered : (p : Inside) → IsSound p → (lines : Lines) (next : ℕ) → p.cycle ≤ next → next ≤ 2 ^ 40 →
    IsSound (record p { lines = lines; cycle = next })
sound-numbered p is lines next later counted = grind arith
