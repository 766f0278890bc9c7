use Rattle.std.specs.Prelude.{ℕ, ◌+◌, ◌%◌, ◌^◌, ℤ, pos, ◌-ℤ◌, unsigned_abs, nat_lt, if◌then◌else◌}
use Rattle.std.specs.Int.{int_rem_euclid, int_div_euclid}

-- Unprivileged ISA 20191213, 2.1: a word read as a two's complement number, 2 ^ 32 less where it is at least 2 ^ 31
abbrev pub signed : ℕ → ℤ
signed word = if nat_lt word (2 ^ 31) then pos word else pos word -ℤ pos (2 ^ 32)

-- a whole number modulo 2 ^ 32
abbrev pub modulo_word : ℤ → ℕ
modulo_word z = unsigned_abs (int_rem_euclid z (pos (2 ^ 32)))

-- the bits of a whole number from bit 32 on, modulo 2 ^ 32
abbrev pub upper_word : ℤ → ℕ
upper_word z = modulo_word (int_div_euclid z (pos (2 ^ 32)))

-- Unprivileged ISA 20191213, 1.4 and 2.4.1: sums and addresses wrap around modulo 2 ^ 32
abbrev pub sum : ℕ → ℕ → ℕ
sum a b = (a + b) % 2 ^ 32

-- the address of the next instruction
abbrev pub pc_plus_4 : ℕ → ℕ
pc_plus_4 pc = sum pc 4

-- the address at an offset from an instruction
abbrev pub pc_plus : ℕ → ℤ → ℕ
pc_plus pc offset = sum pc (modulo_word offset)
