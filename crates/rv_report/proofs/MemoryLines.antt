-- The line of a word of memory by its number, as it is written.
use Rattle.std.proofs.Common.{◌≡◌, ◌∙◌, ℕ, ◌+◌, List, Option, ap}
use Rattle.std.specs.Prelude.{◌*◌, ◌%◌, ◌^◌}
use Rattle.rv_memory.specs.Memory.{Layout}
use Rattle.rv_report.specs.Memory.{memory_line, place_of, word_seen}
use Rattle.rv_text.proofs.Writing.{place_of_word}

module _ (layout : Layout) (ram : List ℕ) where
  abbrev pub line_at : ℕ → List ℕ
  line_at address = memory_line address (word_seen layout ram address)

  -- the line of a word of memory
  abbrev pub line_in : ℕ → ℕ → List ℕ
  line_in address number = line_at (place_of address number)

  -- its word is the one that is seen at its place
  pub line_is : (address number : ℕ) (word : Option ℕ) →
      word ≡ word_seen layout ram ((address + number * 4 % 2 ^ 32) % 2 ^ 32) →
      memory_line ((address + number * 4 % 2 ^ 32) % 2 ^ 32) word ≡ line_in address number
  line_is address number word is =
      ap (memory_line ((address + number * 4 % 2 ^ 32) % 2 ^ 32)) is ∙ ap line_at (place_of_word address number)
