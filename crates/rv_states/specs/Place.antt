-- Where a word of RAM lies.
use Rattle.std.specs.Prelude.{ℕ, ◌+◌, ◌*◌, ◌%◌, ◌^◌}

-- the address of a word by its number from the base on; addresses go on modulo 2 ^ 32
abbrev pub word_address : ℕ → ℕ → ℕ
word_address base number = (base + 4 * number) % 2 ^ 32
