use Rattle.std.specs.Prelude.{◌≡◌, ℕ, ◌+◌, ◌-◌, ◌/◌, ◌%◌, ◌==◌, ◌&&◌, Bool, if◌then◌else◌}
use Rattle.std.specs.Prelude.{List, length, nat_le, slice_get, slice_range, Option, Some, None}
use Rattle.rv_isa.specs.Bytes.{number_of, bytes_of_number}
use Rattle.rv_memory.specs.Bytes.{overwritten}

-- where RAM lies, and how many bytes at its front no store may write
pub record Layout : Type 0 where
  pub base : ℕ
  pub size : ℕ
  pub rom_bytes : ℕ

-- RAM: where it lies, and its bytes from the base on
pub record Memory : Type 0 where
  pub layout : Layout
  pub bytes : List ℕ

-- there are as many bytes as RAM has
abbrev pub IsSized : Memory → Type 0
IsSized memory = length memory.bytes ≡ memory.layout.size

-- the bytes of an access, from its address on, lie in RAM
abbrev pub is_in_ram : Layout → ℕ → ℕ → Bool
is_in_ram layout address count = nat_le layout.base address && nat_le (address + count) (layout.base + layout.size)

-- the bytes of a store lie in RAM, after its read-only front
abbrev pub is_writable : Layout → ℕ → ℕ → Bool
is_writable layout address count =
    nat_le (layout.base + layout.rom_bytes) address && nat_le (address + count) (layout.base + layout.size)

-- Unprivileged ISA 20191213, 2.6: the address is a multiple of the number of bytes
abbrev pub is_aligned : ℕ → ℕ → Bool
is_aligned address count = address % count == 0

-- Unprivileged ISA 20191213, 2.6: the number that the bytes from an address on make, lowest byte first
abbrev pub number_at : Layout → List ℕ → ℕ → ℕ → ℕ
number_at layout bytes address count =
    let place = address - layout.base in
    number_of (slice_range bytes place (place + count))

-- Unprivileged ISA 20191213, 2.6: the bytes once the lowest `count` bytes of a word were stored at an address
abbrev pub with_stored : Layout → List ℕ → ℕ → ℕ → ℕ → List ℕ
with_stored layout bytes address count word = overwritten bytes (address - layout.base) (bytes_of_number count word)

-- the byte at an address, if that lies in RAM
abbrev pub byte_seen : Layout → List ℕ → ℕ → Option ℕ
byte_seen layout bytes address =
    if nat_le layout.base address then slice_get bytes (address - layout.base) else None

-- Unprivileged ISA 20191213, 1.5: the word that a fetch at an address finds, lowest byte first, if its four bytes lie in RAM
abbrev pub fetched_word : Layout → List ℕ → ℕ → Option ℕ
fetched_word layout bytes pc = if is_in_ram layout pc 4 then Some (number_at layout bytes pc 4) else None

-- the number of the word that holds an address
abbrev pub word_of : ℕ → ℕ
word_of address = address / 4
