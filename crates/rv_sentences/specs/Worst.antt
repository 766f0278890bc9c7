-- The lines with the most wrong predictions.
use Rattle.std.specs.Prelude.{ℕ, List, [], ◌∷◌, ◌++◌, codes}
use Rattle.std.specs.List.{flat_map}
use Rattle.rv_memory.specs.Memory.{word_of}
use Rattle.rv_source.specs.Listing.{Listed}
use Rattle.rv_source.specs.PlaceText.{place_text}
use Rattle.rv_sentences.specs.GreatestLines.{greatest_lines, line_counts}
use Rattle.rv_sentences.specs.WordCount.{count_in}
use Rattle.rv_sentences.specs.WordNotes.{Notes}
use Rattle.rv_sentences.specs.Work.{part_text}
use Rattle.rv_sentences.specs.declared.counted_line.CountedLine.{CountedLine}

-- a line, and beneath it how many branches and jumps of it retired, how many of them were mispredicted, and what part that is
unfoldable pub worst_line : Listed → Notes ℕ → CountedLine → List ℕ
worst_line listing branches worst =
    let retired = count_in (line_counts listing branches) (word_of worst.address) in
    place_text listing worst.address ++ part_text (codes "       retired ") retired (codes " mispredicted") worst.count

-- some lines, if there are any
unfoldable pub worst_lines : Listed → Notes ℕ → List CountedLine → List ℕ
worst_lines listing branches [] = []
worst_lines listing branches (line ∷ lines) =
    codes "The lines with the most wrong predictions:\n"
    ++ flat_map (worst_line listing branches) (line ∷ lines)

-- the lines with the most wrong predictions, at most three, by what retired and what was mispredicted at each word
unfoldable pub worst_text : Listed → Notes ℕ → Notes ℕ → List ℕ
worst_text listing branches mispredicted =
    worst_lines listing branches (greatest_lines listing 3 mispredicted)
