use Rattle.std.specs.Prelude.{◌≡◌, ℕ, ◌%◌, ℤ, pos, ◌-ℤ◌, ◌≤ℤ◌, ◌<ℤ◌, unsigned_abs}

-- Unprivileged ISA 20191213, 2.3: the immediates that are extended by their sign, as the multiples of a step from -half
-- to less than half
abbrev pub IsSigned : ℕ → ℕ → ℤ → Type 0
IsSigned half step z = ((pos 0 -ℤ pos half) ≤ℤ z) × (z <ℤ pos half) × (unsigned_abs z % step ≡ 0)
