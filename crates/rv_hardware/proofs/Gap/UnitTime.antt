-- Where no unit of a kind is free, a cycle brings the time nearer at which one is.
use Rattle.rv_hardware.proofs.Words.{◌≡◌, ℕ, ◌+◌, ◌-◌, ◌<◌, ◌≤◌, true, false, List, [], ◌∷◌, length, nat_lt, nat_le}
use Rattle.rv_hardware.proofs.Words.{arith, and_parts, nat_tests, Issue, Pool, holding, holds_unit, is_free, by_test}
use Rattle.rv_hardware.proofs.Gap.Patience.{unit_time}

pub unit_time-next : (cycle : ℕ) (starts : List Issue) → unit_time (cycle + 1) starts ≤ unit_time cycle starts - 1
unit_time-next cycle [] = omega arith
unit_time-next cycle (start ∷ starts) = omega (arith, unit_time-next cycle starts)

lt_holds : (a b : ℕ) → nat_lt a b ≡ true → a < b
lt_holds a b is = grind (arith, nat_tests)

lt_fails : (a b : ℕ) → nat_lt a b ≡ false → b ≤ a
lt_fails a b is = grind (arith, nat_tests)

held_time : (cycle : ℕ) (starts : List Issue) → 1 ≤ length (holding cycle starts) → 1 ≤ unit_time cycle starts
held_time cycle [] some = omega arith
held_time cycle (start ∷ starts) some =
    by_test (λ (l : List Issue). 1 ≤ length l → 1 ≤ unit_time cycle (start ∷ starts)) (holds_unit cycle start)
    (start ∷ holding cycle starts) (holding cycle starts)
    (λ holds one.
    let ends = lt_holds cycle (start.cycle + start.cost)
    (and_parts (nat_le start.cycle cycle) (nat_lt cycle (start.cycle + start.cost)) holds).1 in
    omega (arith, ends))
    (λ free later. omega (arith, held_time cycle starts later)) some

-- where no unit is free, a cycle brings the time nearer at which the last is
pub unit_time-held : (cycle : ℕ) (pool : Pool) → 1 ≤ pool.units → is_free cycle pool ≡ false →
    unit_time (cycle + 1) pool.starts + 1 ≤ unit_time cycle pool.starts
unit_time-held cycle pool some held = grind (arith, lt_fails, held_time, unit_time-next)
