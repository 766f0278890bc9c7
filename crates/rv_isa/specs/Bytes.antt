-- Numbers as bytes of memory, the lowest byte at the lowest address (Unprivileged ISA 20191213, 2.6).
use Rattle.std.specs.Prelude.{ℕ, zero, suc, ◌+◌, ◌*◌, ◌/◌, ◌%◌, List, [], ◌∷◌, ◌++◌, take}

-- the number that bytes make
abbrev pub number_of : List ℕ → ℕ
number_of [] = 0
number_of (byte ∷ bytes) = byte + 256 * number_of bytes

-- so many bytes of a number, from the lowest on
abbrev pub bytes_of_number : ℕ → ℕ → List ℕ
bytes_of_number zero number = []
bytes_of_number (suc count) number = number % 256 ∷ bytes_of_number count (number / 256)

-- bytes, and zeros up to four places
abbrev pub padded : List ℕ → List ℕ
padded bytes = take 4 (bytes ++ 0 ∷ 0 ∷ 0 ∷ 0 ∷ [])
