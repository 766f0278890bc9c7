-- The lines of the words of memory.
use Rattle.std.specs.Prelude.{ℕ, ◌+◌, ◌*◌, ◌/◌, ◌%◌, ◌^◌, ◌==◌, ◌&&◌, Bool, not, if◌then◌else◌}
use Rattle.std.specs.Prelude.{List, [], Option, Some, None, option_and_then, option_map}
use Rattle.std.specs.List.{flat_map, range_with_len}
use Rattle.std.specs.FinSet as set
use Rattle.rv_isa.specs.declared.values.Values.{Values}
use Rattle.rv_memory.specs.Memory.{Layout, byte_seen, word_of}
use Rattle.rv_hardware.specs.Hardware.{Hardware}
use Rattle.rv_hardware.specs.Seen.{layout_of, seen}
use Rattle.rv_states.specs.Place.{word_address}
use Rattle.rv_states.specs.Word.{word_text}

-- the word of four bytes from an address on, the lowest first; none outside RAM
unfoldable pub word_seen : Layout → List ℕ → ℕ → Option ℕ
word_seen layout ram address =
    option_and_then
    (λ a. option_and_then (λ b. option_and_then (λ c. option_map (λ d. a + 256 * b + 65536 * c + 16777216 * d)
    (byte_seen layout ram ((address + 3) % 2 ^ 32)))
    (byte_seen layout ram ((address + 2) % 2 ^ 32)))
    (byte_seen layout ram ((address + 1) % 2 ^ 32)))
    (byte_seen layout ram address)

-- the line of a word, but for one that is 0 and not stale, and outside RAM
abbrev pub word_if : ℕ → Bool → Option ℕ → List ℕ
word_if address stale None = []
word_if address stale (Some word) = if (word == 0) && not stale then [] else word_text address word stale

-- the line of the word that programs see at an address
abbrev pub memory_line : Hardware → ℕ → List ℕ
memory_line h address =
    word_if address (set.contains h.stale (word_of address)) (word_seen (layout_of h.values) (seen h).ram address)

-- those of the words of RAM, which lies where a description puts it
unfoldable pub memory_lines : Hardware → Values → List ℕ
memory_lines h values =
    flat_map (λ number. memory_line h (word_address values.ram_base number)) (range_with_len 0 (values.ram_size / 4))
