-- The lines of a report that show words of memory.
use Rattle.std.specs.Prelude.{ℕ, ◌+◌, ◌*◌, ◌%◌, ◌^◌, List, ◌++◌, codes, Option, Some, None}
use Rattle.std.specs.List.{flat_map, range_with_len}
use Rattle.rv_memory.specs.Memory.{Layout, byte_seen}
use Rattle.rv_text.specs.Line.{word_text, line_of}

-- a word of memory, or hyphens outside RAM
unfoldable pub memory_text : Option ℕ → List ℕ
memory_text (Some word) = word_text word
memory_text None = codes "--------"

-- the word of memory at an address
unfoldable pub memory_line : ℕ → Option ℕ → List ℕ
memory_line address word = codes "m " ++ line_of (word_text address) (memory_text word)

-- the address of a word by its number from an address on; addresses go on modulo 2 ^ 32
abbrev pub place_of : ℕ → ℕ → ℕ
place_of address number = (address + 4 * number) % 2 ^ 32

-- the word of four bytes, the lowest first, if there is each of them
abbrev pub word_of : Option ℕ → Option ℕ → Option ℕ → Option ℕ → Option ℕ
word_of (Some a) (Some b) (Some c) (Some d) = Some (a + 256 * b + 65536 * c + 16777216 * d)
word_of _ _ _ _ = None

-- the word of the bytes from an address on; none outside RAM
unfoldable pub word_seen : Layout → List ℕ → ℕ → Option ℕ
word_seen layout ram address =
    word_of (byte_seen layout ram address) (byte_seen layout ram ((address + 1) % 2 ^ 32))
    (byte_seen layout ram ((address + 2) % 2 ^ 32))
    (byte_seen layout ram ((address + 3) % 2 ^ 32))

-- so many words of memory from an address on
unfoldable pub seen_memory_lines : Layout → List ℕ → ℕ → ℕ → List ℕ
seen_memory_lines layout ram address words =
    flat_map (λ number. memory_line (place_of address number) (word_seen layout ram (place_of address number)))
    (range_with_len 0 words)
