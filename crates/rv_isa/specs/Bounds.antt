-- Which numbers a key of a description takes.
use Rattle.std.specs.Prelude.{ℕ, Bool, true, ◌&&◌, ◌==◌, ◌%◌, nat_le}
use Rattle.std.specs.Int.{is_power_of_two}
use Rattle.rv_isa.specs.declared.bounds.Bounds.{Bounds}
use Rattle.rv_isa.specs.declared.bounds.Bounds.TheVariants.{Whole, Pages, Powers, Words, Front}

-- a number lies from low to high
abbrev pub lies : ℕ → ℕ → ℕ → Bool
lies low high n = nat_le low n && nat_le n high

-- a number is in the range, and a multiple where one is asked for, on a machine with so many bytes of RAM
abbrev pub is_in_range : Bounds → ℕ → ℕ → Bool
is_in_range (Whole low high) size n = lies low high n
is_in_range (Pages low high) size n = lies low high n && (n % 4096 == 0)
is_in_range (Powers low high) size n = lies low high n
is_in_range Words size n = n % 4 == 0
is_in_range Front size n = nat_le n size && (n % 4096 == 0)

-- a number is a power of two, where one is asked for
abbrev pub is_power : Bounds → ℕ → Bool
is_power (Powers low high) n = is_power_of_two n
is_power _ n = true

-- a key with these bounds takes a number
abbrev pub takes : Bounds → ℕ → ℕ → Bool
takes bounds size n = is_in_range bounds size n && is_power bounds n
